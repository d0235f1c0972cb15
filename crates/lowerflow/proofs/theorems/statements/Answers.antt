use Rattle.lowerflow.proofs.EachStatement.{stmt-of}
use Rattle.lowerflow.proofs.theorems.statements.Goals as goal

pub returns : goal.returns
returns c = record { statement = stmt-of }
