use Rattle.std.proofs.Common.{◌-◌}
use Rattle.prucc.proofs.RunSteps.{Running}
use Rattle.prucc.proofs.run.run.Given as goal

abbrev pub invariant-loop-time : goal.invariant-loop-time
invariant-loop-time l = Running l.words l.cycles l.core l.trace.items l.time l.count

abbrev pub decreases-loop-time : goal.decreases-loop-time
decreases-loop-time l = l.cycles - l.time
