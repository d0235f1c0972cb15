-- What is pushed and what is to come are all the numbers.
use Rattle.std.proofs.Common.{◌≡◌, ◌+◌, ◌*◌, ◌≤◌, ◌++◌, length}
use Rattle.branchfit.specs.Far.{numbers_from, numbers_of}
use Rattle.branchfit.proofs.far.numbers_of.Given as goal

abbrev pub invariant-loop-spot : goal.invariant-loop-spot
invariant-loop-spot l =
    (l.numbers.items ++ numbers_from l.here l.rest l.tests ≡ numbers_of l.fn.spots l.fn.far)
    × (l.here + 2 * length l.rest ≤ 2 * length l.fn.spots)

abbrev pub decreases-loop-spot : goal.decreases-loop-spot
decreases-loop-spot l = length l.rest
