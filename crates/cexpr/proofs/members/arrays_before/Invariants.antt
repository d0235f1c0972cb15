use Rattle.std.proofs.Common.{◌≡◌, ◌+◌, drop}
use Rattle.cexpr.specs.Member.{arrays_before}
use Rattle.cexpr.proofs.members.arrays_before.Given as goal

-- so many arrays went by
abbrev pub invariant-loop-step : goal.invariant-loop-step
invariant-loop-step l = (l.count ≡ l.step-index) × (l.step-index + arrays_before (drop l.step-index l.steps) ≡ arrays_before l.steps)
