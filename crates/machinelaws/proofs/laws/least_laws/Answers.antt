use Rattle.machinelaws.proofs.LeastLemmas.{least_zero, least_one}
use Rattle.machinelaws.proofs.laws.least_laws.Goals as goal

pub returns : goal.returns
returns c = record { zero = least_zero; one = least_one }
