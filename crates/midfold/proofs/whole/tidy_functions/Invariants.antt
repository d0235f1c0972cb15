use Rattle.midfold.proofs.WholeLemmas.{Tidying}
use Rattle.midfold.proofs.whole.tidy_functions.Given as goal

abbrev pub invariant-loop-i : goal.invariant-loop-i
invariant-loop-i l = Tidying l.fn.functions l.functions l.i
