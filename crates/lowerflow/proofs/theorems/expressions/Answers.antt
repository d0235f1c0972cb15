use Rattle.lowerflow.proofs.Values.{value-of}
use Rattle.lowerflow.proofs.theorems.expressions.Goals as goal

pub returns : goal.returns
returns c = record { value = value-of }
