use Rattle.std.proofs.Common.{◌-◌, length}
use Rattle.livespan.proofs.Walk.{Walk}
use Rattle.livespan.proofs.operations.operations.Given as goal

abbrev pub invariant-loop-at : goal.invariant-loop-at
invariant-loop-at l = Walk l.f.nodes l.kinds.items l.at

abbrev pub decreases-loop-at : goal.decreases-loop-at
decreases-loop-at l = length l.f.nodes - length l.kinds.items
