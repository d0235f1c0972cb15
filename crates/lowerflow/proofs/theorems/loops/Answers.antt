use Rattle.std.proofs.Common.{arith}
use Rattle.lowerstate.specs.Piece.{least_hand}
use Rattle.lowerflow.proofs.Turning.{loop-of, do-of}
use Rattle.lowerflow.proofs.Regions.{region-of}
use Rattle.lowerflow.proofs.Ways.{entered-of, next-of}
use Rattle.lowerflow.proofs.theorems.loops.Goals as goal

pub returns : goal.returns
returns c = record {
  first = loop-of;
  last = do-of;
  step = entered-of;
  region = region-of;
  next = λ r c e f a b run second nodes others spare first then'.
      next-of r c e f a b run second nodes others spare least_hand first then' (omega arith);
}
