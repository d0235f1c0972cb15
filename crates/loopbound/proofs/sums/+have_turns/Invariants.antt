use Rattle.std.proofs.Common.{length}
use Rattle.loopbound.proofs.sums.+have_turns.Given as goal

abbrev pub decreases-have_turns : goal.decreases-have_turns
decreases-have_turns l = length l.loops.now
