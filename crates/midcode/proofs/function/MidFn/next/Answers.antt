use Rattle.std.proofs.Common.{ap, ◌∙◌}
use Rattle.midcode.proofs.Valid.{next-node}
use Rattle.midcode.proofs.function.MidFn.next.Goals as goal

pub returns-clause-node : goal.returns-clause-node
returns-clause-node c =
    let n = c.requires in
    let at = ap (λ f. f.nodes) c.self.view_is ∙ n.at in
    next-node c.args.self.now.nodes n.front c.args.node n.op n.back c.next.result n.at
    (c.next.ensures c.self.inside.list n.front n.op n.back (record { at = at }))
