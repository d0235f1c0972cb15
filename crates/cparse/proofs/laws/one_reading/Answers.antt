-- One reading, from one text.
use Rattle.cparse.proofs.Readings.{faults-agree, no-tree, trees-agree}
use Rattle.cparse.proofs.laws.one_reading.Goals as goal

pub returns-clause-tree : goal.returns-clause-tree
returns-clause-tree c = λ tokens. trees-agree tokens (c.one_text.ensures tokens)

pub returns-clause-fault : goal.returns-clause-fault
returns-clause-fault c = λ tokens. faults-agree tokens (c.one_text.ensures tokens)

pub returns-clause-either : goal.returns-clause-either
returns-clause-either c = λ tokens tree s cause. no-tree tokens (c.one_text.ensures tokens) s cause tree
