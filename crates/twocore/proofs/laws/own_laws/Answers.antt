use Rattle.twocore.proofs.AloneRuns.{own_cycles}
use Rattle.twocore.proofs.laws.own_laws.Goals as goal

pub returns : goal.returns
returns c = own_cycles
