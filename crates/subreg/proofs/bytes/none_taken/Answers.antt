use Rattle.subreg.proofs.Elements.{zero-everywhere}
use Rattle.subreg.proofs.bytes.none_taken.Goals as goal

pub returns-clause-free : goal.returns-clause-free
returns-clause-free c = λ byte. zero-everywhere 104 byte
