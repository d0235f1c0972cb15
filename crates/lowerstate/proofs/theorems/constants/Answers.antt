use Rattle.lowerstate.proofs.Numbers.{constant-of}
use Rattle.lowerstate.proofs.theorems.constants.Goals as goal

pub returns : goal.returns
returns c = record { constant = constant-of }
