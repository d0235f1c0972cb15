use Rattle.caction.proofs.token.identifier.Goals as goal
use Rattle.caction.proofs.Refused.{no_memory}

pub returns-in_err-copied-in-Some-Identifier : goal.returns-in_err-copied-in-Some-Identifier
returns-in_err-copied-in-Some-Identifier c = λ mark. no_memory _ _ c.from_residual-in_err-copied-in-Some-Identifier.ensures
