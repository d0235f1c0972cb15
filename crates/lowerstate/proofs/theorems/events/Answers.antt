use Rattle.lowerstate.proofs.Shown.{show-does}
use Rattle.lowerstate.proofs.theorems.events.Goals as goal

pub returns : goal.returns
returns c = record { event = show-does }
