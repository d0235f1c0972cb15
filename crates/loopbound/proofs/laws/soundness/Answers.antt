use Rattle.loopbound.proofs.SoundLemmas.{soundness}
use Rattle.loopbound.proofs.laws.soundness.Goals as goal

pub returns : goal.returns
returns c = soundness
