use Rattle.std.proofs.Common.{sym, ap, ◌∙◌}
use Rattle.midfold.specs.Folding.{improved}
use Rattle.midfold.proofs.FoldLoop.{now-fit}
use Rattle.midfold.proofs.folding.improve.Goals as goal

pub replace-requires-clause-fit : goal.replace-requires-clause-fit
replace-requires-clause-fit c =
    now-fit c.args.f.now c.requires.valid c.args.held.now.held c.args.node c.get.result.now c.get.ensures c.in-Some.kind
    (sym (ap (λ ws. improved ws c.args.held.now.held c.get.result.now.kind) c.registers.ensures) ∙ sym c.improved.ensures ∙ c.in-Some.is)
    c.requires.node
