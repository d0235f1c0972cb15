use Rattle.livespan.proofs.Steps.{LoopsBelow}
use Rattle.livespan.proofs.flow.loops.Given as goal

abbrev pub invariant-loop-last : goal.invariant-loop-last
invariant-loop-last l = LoopsBelow l.goals l.loops.items l.last
