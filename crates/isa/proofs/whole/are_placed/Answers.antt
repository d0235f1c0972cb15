-- Each item is judged before those behind it.
use Rattle.std.proofs.Common.{sym, ◌∙◌}
use Rattle.isa.proofs.Judged.{placed_at_first, not_placed, placed_more}
use Rattle.isa.proofs.whole.are_placed.Goals as goal

pub loop-item-init : goal.loop-item-init
loop-item-init c = placed_at_first _ _ c.requires

pub returns-then-not-may_precede-clause-placed : goal.returns-then-not-may_precede-clause-placed
returns-then-not-may_precede-clause-placed c =
    not_placed _ _ _ _ _ _ c.loop-item.invariant.1 c.in-Some.ensures.cases.0 (sym c.may_precede.ensures ∙ c.if-not-may_precede.true)

pub loop-item-preserved : goal.loop-item-preserved
loop-item-preserved c =
    placed_more _ _ _ _ _ _ _ c.loop-item.invariant.1 c.in-Some.ensures.cases.0
    (sym c.may_precede.ensures ∙ c.if-not-may_precede.false) c.in_ok-add_label.ensures
