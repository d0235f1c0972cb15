use Rattle.creader.proofs.Both.{sound, whole}
use Rattle.creader.proofs.Fault.First.{first_fault}
use Rattle.creader.proofs.laws.first_fault.Goals as goal

pub returns : goal.returns
returns c = first_fault sound whole
