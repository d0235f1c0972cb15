use Rattle.caction.proofs.statement.if_statement.Goals as goal
use Rattle.caction.proofs.Refused.{handed_on}
use Rattle.caction.specs.Make.{table}

pub returns-in_err-condition : goal.returns-in_err-condition
unfolding table
returns-in_err-condition c = λ tokens. handed_on _ _ _ c.from_residual.ensures (λ e. c.in_err-condition.ensures e _)
