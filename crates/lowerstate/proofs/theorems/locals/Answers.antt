use Rattle.lowerstate.proofs.Variables.{local-of, assign-of}
use Rattle.lowerstate.proofs.theorems.locals.Goals as goal

pub returns : goal.returns
returns c = record {
  local = λ r c call span a f k q t home. local-of r c call k q t home span a f;
  assignment = λ r c call span access f k q t a run nodes back left home first paid.
      assign-of r c call k q t home span access f a run nodes back left first paid;
}
