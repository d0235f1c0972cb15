use Rattle.clex.proofs.TextLemmas.{one_list, one_fault, not_both}
use Rattle.clex.proofs.laws.one_reading.Goals as goal

pub returns : goal.returns
returns c = record { tokens = one_list; fault = one_fault; either = not_both }
