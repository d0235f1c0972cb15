use Rattle.caction.proofs.unit.external.Goals as goal
use Rattle.caction.proofs.Refused.{handed_on, no_memory}
use Rattle.caction.specs.Make.{table}

pub returns-in_err-specifiers : goal.returns-in_err-specifiers
unfolding table
returns-in_err-specifiers c = λ tokens. handed_on _ _ _ c.from_residual.ensures (λ e. c.in_err-specifiers.ensures e _)

pub returns-in_err-kind : goal.returns-in_err-kind
returns-in_err-kind c = λ tokens. no_memory _ _ c.from_residual-in_err-kind.ensures
