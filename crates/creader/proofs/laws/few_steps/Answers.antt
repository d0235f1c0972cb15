use Rattle.creader.proofs.Reading.Halts.{few}
use Rattle.creader.proofs.laws.few_steps.Goals as goal

pub returns : goal.returns
returns c = few
