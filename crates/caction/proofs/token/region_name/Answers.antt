use Rattle.caction.proofs.token.region_name.Goals as goal
use Rattle.caction.proofs.Refused.{no_memory}

pub returns-in_err-copied-in-Some-Literal : goal.returns-in_err-copied-in-Some-Literal
returns-in_err-copied-in-Some-Literal c = λ mark. no_memory _ _ c.from_residual-in_err-copied-in-Some-Literal.ensures
