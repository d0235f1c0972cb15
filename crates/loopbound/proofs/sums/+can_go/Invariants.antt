use Rattle.std.proofs.Common.{length}
use Rattle.loopbound.proofs.sums.+can_go.Given as goal

abbrev pub decreases-can_go : goal.decreases-can_go
decreases-can_go l = length l.loops.now
