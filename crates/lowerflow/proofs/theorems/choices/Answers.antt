use Rattle.lowerflow.specs.Goes.{itself}
use Rattle.lowerflow.proofs.Testing.{test-of}
use Rattle.lowerflow.proofs.Logic.{logical-of}
use Rattle.lowerflow.proofs.Chosen.{conditional-of, either-of, if-of}
use Rattle.lowerflow.proofs.theorems.choices.Goals as goal

pub returns : goal.returns
returns c = record {
  test = test-of;
  logical = logical-of;
  conditional = conditional-of;
  either = λ r c call e f k a b cond run second nodes n1 n2 test first then'.
      either-of r c call e itself f k a b cond run second nodes n1 n2 test first then';
  one = if-of;
}
