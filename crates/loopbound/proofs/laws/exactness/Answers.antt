use Rattle.loopbound.proofs.ExactLemmas.{exactness}
use Rattle.loopbound.proofs.laws.exactness.Goals as goal

pub returns : goal.returns
returns c = exactness
