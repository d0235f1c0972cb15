use Rattle.subreg.proofs.Together.{AreTogether}
use Rattle.subreg.proofs.tests.together.Given as goal

abbrev pub invariant-loop-n : goal.invariant-loop-n
invariant-loop-n l = AreTogether l.spans.items l.n
