use Rattle.corepath.proofs.PassLemmas.{runs, along, whole}
use Rattle.corepath.proofs.laws.pass_laws.Goals as goal

pub returns : goal.returns
returns c = record { run = runs; along = along; whole = whole }
