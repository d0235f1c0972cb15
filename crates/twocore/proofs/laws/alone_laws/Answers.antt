use Rattle.twocore.proofs.AloneRuns.{zero_alone, one_alone}
use Rattle.twocore.proofs.laws.alone_laws.Goals as goal

pub returns : goal.returns
returns c = record { zero = zero_alone; one = one_alone }
