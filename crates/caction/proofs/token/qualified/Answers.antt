use Rattle.caction.proofs.token.qualified.Goals as goal
use Rattle.caction.proofs.Refused.{handed_on}
use Rattle.caction.specs.Make.{table}

pub returns-in_err-qualifiers : goal.returns-in_err-qualifiers
unfolding table
returns-in_err-qualifiers c = λ mark. handed_on _ _ _ c.from_residual.ensures (λ e. c.in_err-qualifiers.ensures.perhaps e _)
