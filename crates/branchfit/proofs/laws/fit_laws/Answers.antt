-- A program has one layout.
use Rattle.branchfit.proofs.FitLemmas.{one_fit, one_length, one_loop}
use Rattle.branchfit.proofs.laws.fit_laws.Goals as goal

pub returns-clause-words : goal.returns-clause-words
returns-clause-words c = one_fit

pub returns-clause-length : goal.returns-clause-length
returns-clause-length c = one_length

pub returns-clause-loops : goal.returns-clause-loops
returns-clause-loops c = one_loop
