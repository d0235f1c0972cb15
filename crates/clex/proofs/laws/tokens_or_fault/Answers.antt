use Rattle.clex.proofs.Either.{tokens-or-fault}
use Rattle.clex.proofs.laws.tokens_or_fault.Goals as goal

pub returns : goal.returns
returns c = tokens-or-fault
