use Rattle.std.proofs.Common.{◌≡◌, Ok, Err, sym, ◌∙◌, ap}
use Rattle.cpre.proofs.laws.one_reading.Goals as goal
use Rattle.cpre.proofs.Reading.{one_ok, one_err, not_both}

pub returns-clause-tokens : goal.returns-clause-tokens
returns-clause-tokens c = λ tokens out other h k. one_ok out other (sym h ∙ k)

pub returns-clause-fault : goal.returns-clause-fault
returns-clause-fault c = λ tokens s t c d h k. one_err s t c d (sym h ∙ k)

pub returns-clause-either : goal.returns-clause-either
returns-clause-either c = λ tokens out s c h k. not_both out s c (sym h ∙ k)
