use Rattle.lowerstate.proofs.Laws.{tick-does}
use Rattle.lowerstate.proofs.theorems.acts.Goals as goal

pub returns-clause-tick : goal.returns-clause-tick
returns-clause-tick c = tick-does
