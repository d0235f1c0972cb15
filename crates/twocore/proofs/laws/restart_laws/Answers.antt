use Rattle.twocore.proofs.CycleLemmas.{started_again}
use Rattle.twocore.proofs.laws.restart_laws.Goals as goal

pub returns : goal.returns
returns c = started_again
