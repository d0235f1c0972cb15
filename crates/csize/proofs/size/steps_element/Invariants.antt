use Rattle.std.proofs.Common.{◌≡◌, length}
use Rattle.csize.specs.Size.{steps_from}
use Rattle.csize.proofs.size.steps_element.Given as goal

-- the steps that are left stand round what has the size so far
abbrev pub invariant-steps : goal.invariant-steps
invariant-steps l = steps_from l.element l.rest ≡ steps_from l.initial.element l.initial.rest

abbrev pub decreases-steps : goal.decreases-steps
decreases-steps l = length l.rest
