use Rattle.creader.proofs.Complete.Accepted.{text-accepted}
use Rattle.creader.proofs.laws.text_is_accepted.Goals as goal

pub returns : goal.returns
returns c = text-accepted
