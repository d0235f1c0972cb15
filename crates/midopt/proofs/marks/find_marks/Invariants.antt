use Rattle.std.proofs.Common.{◌≡◌, length}
use Rattle.midopt.proofs.MarkLemmas.{Walked}
use Rattle.midopt.proofs.marks.find_marks.Given as goal

abbrev pub invariant-loop : goal.invariant-loop
invariant-loop l = record {
  walked : Walked l.f.nodes (length l.f.registers) l.marks.items l.at l.counter;
  count : l.count ≡ length l.f.nodes;
}
