-- What is read to its end is a source: the machine's invariant at its end.
use Rattle.creader.proofs.Sound.Kept.{sound}
use Rattle.creader.proofs.laws.accepted_is_text.Goals as goal

pub returns : goal.returns
returns c = sound
