use Rattle.std.proofs.Common.{length}
use Rattle.loopbound.proofs.sums.+gains.Given as goal

abbrev pub decreases-gains : goal.decreases-gains
decreases-gains l = length l.loops.now
