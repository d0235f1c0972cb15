use Rattle.midopt.proofs.Relation.{better-more, function-more}
use Rattle.midopt.proofs.laws.better_laws.Goals as goal

pub returns-clause-more : goal.returns-clause-more
returns-clause-more c = better-more

pub returns-clause-function_more : goal.returns-clause-function_more
returns-clause-function_more c = function-more
