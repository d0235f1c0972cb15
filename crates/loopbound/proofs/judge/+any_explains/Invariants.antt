use Rattle.std.proofs.Common.{length}
use Rattle.loopbound.proofs.judge.+any_explains.Given as goal

abbrev pub decreases-any_explains : goal.decreases-any_explains
decreases-any_explains l = length l.steps.now
