use Rattle.caction.proofs.token.next_word.Goals as goal
use Rattle.caction.proofs.Refused.{handed_on}
use Rattle.caction.specs.Make.{table}

pub returns-in_err-words : goal.returns-in_err-words
unfolding table
returns-in_err-words c = λ all word mark. handed_on _ _ _ c.from_residual.ensures (λ e. c.in_err-words.ensures.perhaps e _)
