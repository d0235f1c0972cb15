use Rattle.std.proofs.Common.{length}
use Rattle.loopbound.proofs.sums.+dues.Given as goal

abbrev pub decreases-dues : goal.decreases-dues
decreases-dues l = length l.loops.now
