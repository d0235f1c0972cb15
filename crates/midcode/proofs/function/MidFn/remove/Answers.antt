use Rattle.std.proofs.Common.{ap, ◌∙◌}
use Rattle.midcode.proofs.Valid.{inside-removed}
use Rattle.midcode.proofs.function.MidFn.remove.Goals as goal

pub invariant_of-self : goal.invariant_of-self
invariant_of-self c =
    let n = c.requires.node in
    let at = ap (λ f. f.nodes) c.self.view_is ∙ n.at in
    inside-removed c.self.inside.signature c.self.inside.registers.items c.self.inside.labels
    c.self.inside.ops.lists c.self.inside.list c.self.invariant
    c.unlink.new.self.lists n.front n.back c.args.node n.op
    at (c.requires.old n.front n.op n.back n.at)
    (c.unlink.ensures.out c.self.inside.list n.front n.op n.back (record { at = at }))
