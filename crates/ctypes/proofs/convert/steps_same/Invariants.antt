use Rattle.std.proofs.Common.{◌≡◌, length}
use Rattle.ctypes.specs.Convert.{steps_same}
use Rattle.ctypes.proofs.convert.steps_same.Given as goal

-- the steps to come decide
abbrev pub invariant-pairs : goal.invariant-pairs
invariant-pairs l = steps_same l.ss l.ts ≡ steps_same l.initial.ss l.initial.ts

abbrev pub decreases-pairs : goal.decreases-pairs
decreases-pairs l = length l.ss
