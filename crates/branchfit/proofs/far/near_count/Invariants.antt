use Rattle.std.proofs.Common.{◌≡◌, ◌+◌, ◌≤◌, length}
use Rattle.branchfit.specs.Steps.{near_count}
use Rattle.branchfit.proofs.far.near_count.Given as goal

abbrev pub invariant-loop-is_far : goal.invariant-loop-is_far
invariant-loop-is_far l = (l.count + near_count l.rest ≡ near_count l.fn.far) × (l.count + length l.rest ≤ length l.fn.far)

abbrev pub decreases-loop-is_far : goal.decreases-loop-is_far
decreases-loop-is_far l = length l.rest
