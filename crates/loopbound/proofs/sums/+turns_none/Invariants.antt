use Rattle.std.proofs.Common.{length}
use Rattle.loopbound.proofs.sums.+turns_none.Given as goal

abbrev pub decreases-turns_none : goal.decreases-turns_none
decreases-turns_none l = length l.loops.now
