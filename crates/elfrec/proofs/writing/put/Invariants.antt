use Rattle.elfrec.proofs.Placing.{IsPut}
use Rattle.elfrec.proofs.writing.put.Given as goal

abbrev pub invariant-loop-k : goal.invariant-loop-k
invariant-loop-k l = IsPut l.part l.k l.fn.file l.file
