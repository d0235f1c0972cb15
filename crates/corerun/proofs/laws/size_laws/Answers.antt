use Rattle.corerun.proofs.SizeLemmas.{step_fits, step_few}
use Rattle.corerun.proofs.laws.size_laws.Goals as goal

pub returns : goal.returns
returns c = record { keeps = step_fits; few = step_few }
