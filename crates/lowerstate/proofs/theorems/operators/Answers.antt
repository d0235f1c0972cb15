use Rattle.lowerstate.proofs.Numbers.{minus-of, complement-of, binary-of, comparison-of, leftmost-of}
use Rattle.lowerstate.proofs.theorems.operators.Goals as goal

pub returns : goal.returns
returns c = record {
  minus = minus-of;
  complement = complement-of;
  binary = λ r c call o sign f a b s t u run second nodes others spare back left.
      binary-of r c call f a b s t u run second nodes others spare back left o sign;
  comparison = λ r c call o sign f a b s t u run second nodes others spare back left.
      comparison-of r c call f a b s t u run second nodes others spare back left o sign;
  leftmost = leftmost-of;
}
