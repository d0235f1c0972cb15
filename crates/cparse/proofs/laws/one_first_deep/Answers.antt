use Rattle.cparse.proofs.Ascending.{one-first-deep}
use Rattle.cparse.proofs.laws.one_first_deep.Goals as goal

pub returns : goal.returns
returns c = one-first-deep
