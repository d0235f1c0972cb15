use Rattle.midopt.proofs.SweepLemmas.{Swept}
use Rattle.midopt.proofs.idle.sweep.Given as goal

abbrev pub invariant-loop : goal.invariant-loop
invariant-loop l = Swept l.fn.f l.f l.at l.counter l.found
