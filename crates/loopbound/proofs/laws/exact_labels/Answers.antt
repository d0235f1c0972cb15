use Rattle.loopbound.proofs.BoundsLemmas.{exact_labels}
use Rattle.loopbound.proofs.laws.exact_labels.Goals as goal

pub returns : goal.returns
returns c = exact_labels
