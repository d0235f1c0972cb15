use Rattle.std.proofs.Common.{length}
use Rattle.loopbound.proofs.judge.+any_explains_turn.Given as goal

abbrev pub decreases-any_explains_turn : goal.decreases-any_explains_turn
decreases-any_explains_turn l = length l.steps.now
