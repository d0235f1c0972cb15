use Rattle.std.proofs.Common.{length}
use Rattle.loopbound.proofs.judge.+loops_explained.Given as goal

abbrev pub decreases-loops_explained : goal.decreases-loops_explained
decreases-loops_explained l = length l.these.now
