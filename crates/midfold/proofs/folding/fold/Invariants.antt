use Rattle.std.proofs.Common.{◌≡◌, length}
use Rattle.midfold.proofs.FoldLoop.{Folding}
use Rattle.midfold.proofs.folding.fold.Given as goal

abbrev pub invariant-loop : goal.invariant-loop
invariant-loop l = record {
  folding : Folding l.fn.f l.f l.held.held l.held.rounds l.at l.counter;
  count : l.count ≡ length l.fn.f.nodes;
}
