use Rattle.creader.proofs.Either.{text-or-fault}
use Rattle.creader.proofs.laws.text_or_fault.Goals as goal

pub returns : goal.returns
returns c = text-or-fault
