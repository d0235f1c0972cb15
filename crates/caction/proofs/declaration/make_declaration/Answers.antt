use Rattle.caction.specs.Make.{table}
use Rattle.caction.proofs.declaration.make_declaration.Goals as goal

pub returns-in_ok-specifiers-in-Parameter : goal.returns-in_ok-specifiers-in-Parameter
unfolding table
returns-in_ok-specifiers-in-Parameter c = λ tokens. rw c.in-Parameter.is (c.in_ok-specifiers-in-Parameter.ensures _)

pub returns-in_ok-specifiers-in-ArrayParameter : goal.returns-in_ok-specifiers-in-ArrayParameter
unfolding table
returns-in_ok-specifiers-in-ArrayParameter c = λ tokens. rw c.in-ArrayParameter.is (c.in_ok-specifiers-in-ArrayParameter.ensures _)
