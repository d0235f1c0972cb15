use Rattle.twocore.proofs.CycleLemmas.{cycles_add}
use Rattle.twocore.proofs.laws.cycle_laws.Goals as goal

pub returns : goal.returns
returns c = cycles_add
