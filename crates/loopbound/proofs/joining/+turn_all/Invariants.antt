use Rattle.std.proofs.Common.{length}
use Rattle.loopbound.proofs.joining.+turn_all.Given as goal

abbrev pub decreases-turn_all : goal.decreases-turn_all
decreases-turn_all l = length l.loops.now
