-- The end of an expansion.
use Rattle.cpre.proofs.Ends.{expansion_ends}
use Rattle.cpre.proofs.laws.expansion_ends.Goals as goal

pub returns : goal.returns
returns c = λ tokens out e once. expansion_ends tokens out e once
