use Rattle.asmword.proofs.Again.{made_again}
use Rattle.asmword.proofs.laws.written_is_made.Goals as goal

pub returns : goal.returns
returns c = made_again
