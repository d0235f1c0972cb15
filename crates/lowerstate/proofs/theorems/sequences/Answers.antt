use Rattle.lowerstate.specs.Piece.{IsValue}
use Rattle.lowerstate.proofs.Pieces.{node-of}
use Rattle.lowerstate.proofs.Sequence.{sequence-of}
use Rattle.lowerstate.proofs.theorems.sequences.Goals as goal

pub returns : goal.returns
returns c = record {
  node = λ r c f a t run nodes back first. node-of r c f a t run nodes back first;
  sequence = λ r c f a b t u run second nodes others spare back.
      sequence-of r c IsValue IsValue f a b t u run second nodes others spare back;
}
