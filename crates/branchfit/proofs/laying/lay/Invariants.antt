-- What is laid and what is to come are the whole.
use Rattle.std.proofs.Common.{◌≡◌, ◌+◌, ◌≤◌, length}
use Rattle.branchfit.specs.Laid.{laid}
use Rattle.branchfit.specs.Laying.{laid_behind}
use Rattle.branchfit.proofs.laying.lay.Given as goal

abbrev pub invariant-loop-item : goal.invariant-loop-item
invariant-loop-item l =
    (laid_behind l.layout l.laying l.rest ≡ laid l.layout l.fn.items) × (l.laying.place + length l.rest ≤ length l.fn.items)

abbrev pub decreases-loop-item : goal.decreases-loop-item
decreases-loop-item l = length l.rest
