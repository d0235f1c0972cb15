use Rattle.std.proofs.Common.{◌≡◌, drop}
use Rattle.ctypes.specs.Shape.{qualifiers}
use Rattle.ctypes.proofs.ctype.qualifiers.Given as goal

-- the steps to come have them
abbrev pub invariant-loop-step : goal.invariant-loop-step
invariant-loop-step l = qualifiers l.base (drop l.step-index l.steps) ≡ qualifiers l.base l.steps
