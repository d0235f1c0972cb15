use Rattle.loopbound.proofs.LongLemmas.{long_path}
use Rattle.loopbound.proofs.laws.long_path.Goals as goal

pub returns : goal.returns
returns c = long_path
