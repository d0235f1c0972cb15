use Rattle.caction.proofs.token.specified.Goals as goal
use Rattle.caction.proofs.Refused.{handed_on}
use Rattle.caction.specs.Make.{table}

pub returns-in_err-specifiers : goal.returns-in_err-specifiers
unfolding table
returns-in_err-specifiers c = λ mark. handed_on _ _ _ c.from_residual.ensures (λ e. c.in_err-specifiers.ensures.perhaps e _)
