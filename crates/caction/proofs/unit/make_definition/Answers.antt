use Rattle.caction.specs.Make.{table}
use Rattle.caction.proofs.unit.make_definition.Goals as goal

pub returns-in_ok-tag-in-StructUnit : goal.returns-in_ok-tag-in-StructUnit
unfolding table
returns-in_ok-tag-in-StructUnit c = λ tokens. rw c.in-StructUnit.is (c.in_ok-tag-in-StructUnit.ensures _)

pub returns-in_ok-parameters-in-FunctionRest : goal.returns-in_ok-parameters-in-FunctionRest
unfolding table
returns-in_ok-parameters-in-FunctionRest c = λ tokens. rw c.in-FunctionRest.is (c.in_ok-parameters-in-FunctionRest.ensures _)
