use Rattle.cpre.proofs.laws.expansion_or_fault.Goals as goal
use Rattle.cpre.proofs.Reading.{ok_or_err}

pub returns : goal.returns
returns c = λ tokens. ok_or_err tokens
