use Rattle.lowerstate.proofs.Jumps.{label-does, jump-does, branch-does}
use Rattle.lowerstate.proofs.theorems.moves.Goals as goal

pub returns : goal.returns
returns c = record {
  label = λ r c call x s m hand l few related is paid. label-does r c call x s m hand few related l is paid;
  jump = λ r c call x s m hand l few related is paid. jump-does r c call x s m hand few related l is paid;
  branch = λ r c call x s m hand left test v right to few related is reg paid.
      branch-does r c call x s m hand few related left test v right to is reg paid;
}
