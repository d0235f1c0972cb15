use Rattle.asmword.proofs.FormLaws.{has_back, label_back}
use Rattle.asmword.proofs.laws.labels_are_found.Goals as goal

pub returns-clause-has : goal.returns-clause-has
returns-clause-has c = has_back

pub returns-clause-name : goal.returns-clause-name
returns-clause-name c = label_back
