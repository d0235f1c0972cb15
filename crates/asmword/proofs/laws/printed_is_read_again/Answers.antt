use Rattle.asmword.proofs.FormLaws.{again}
use Rattle.asmword.proofs.laws.printed_is_read_again.Goals as goal

pub returns : goal.returns
returns c = again
