-- The two laws of reading, as the others cite them.
use Rattle.creader.proofs.Fault.First.{Sound, Whole}
use Rattle.creader.proofs.Sound.Kept as kept
use Rattle.creader.proofs.Complete.Accepted.{text-accepted}

-- what is read to its end is a source
pub sound : Sound
sound = kept.sound

-- each source is read to its end
pub whole : Whole
whole = text-accepted
