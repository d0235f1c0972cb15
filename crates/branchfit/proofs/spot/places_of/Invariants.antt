-- Each label's place is found or still to come.
use Rattle.std.proofs.Common.{◌+◌, ◌≤◌, length}
use Rattle.branchfit.proofs.PlaceLemmas.{KnowsTo}
use Rattle.branchfit.proofs.spot.places_of.Given as goal

abbrev pub invariant-loop-item : goal.invariant-loop-item
invariant-loop-item l = KnowsTo l.fn.items l.place l.rest l.places × (l.place + length l.rest ≤ length l.fn.items)

abbrev pub decreases-loop-item : goal.decreases-loop-item
decreases-loop-item l = length l.rest
