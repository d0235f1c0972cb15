use Rattle.creader.proofs.Both.{whole}
use Rattle.creader.proofs.Fault.First.{one_text}
use Rattle.creader.proofs.laws.one_text.Goals as goal

pub returns : goal.returns
returns c = one_text whole
