use Rattle.std.proofs.Common.{◌≡◌, None, ◌∙◌, sym}
use Rattle.cfault.proofs.Least.{least_result, none_of_noted, noted_past}
use Rattle.cfault.proofs.laws.least.Goals as goal

pub returns-clause-least : goal.returns-clause-least
returns-clause-least c =
    least_result c.least.result c.args.all.now
    (c.least.ensures ∙ (sym (noted_past c.args.all.now c.loop-fault.fault-index c.loop-fault.faults c.loop-fault-test.false)
    ∙ c.loop-fault.invariant))

pub returns-clause-none : goal.returns-clause-none
returns-clause-none c =
    λ h. none_of_noted c.args.all.now
    (sym (c.least.ensures ∙ (sym (noted_past c.args.all.now c.loop-fault.fault-index c.loop-fault.faults c.loop-fault-test.false)
    ∙ c.loop-fault.invariant)) ∙ h)
