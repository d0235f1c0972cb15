use Rattle.lowerstate.proofs.Converted.{operand-of, not-of}
use Rattle.lowerstate.proofs.theorems.conversions.Goals as goal

pub returns : goal.returns
returns c = record { conversion = operand-of; negation = not-of }
