-- What is pushed and what is to come are the whole set.
use Rattle.std.proofs.Common.{◌≡◌, ◌+◌, ◌≤◌, ◌++◌, length}
use Rattle.branchfit.specs.Steps.{grown_from}
use Rattle.branchfit.proofs.far.grown_by.Given as goal

abbrev pub invariant-loop-spot : goal.invariant-loop-spot
invariant-loop-spot l = (l.more.items ++ grown_from l.numbers l.place l.rest l.tests ≡ grown_from l.fn.numbers 0 l.fn.spots l.fn.far)
    × (l.place + length l.rest ≤ length l.fn.spots)

abbrev pub decreases-loop-spot : goal.decreases-loop-spot
decreases-loop-spot l = length l.rest
