use Rattle.std.proofs.Common.{◌≡◌, length}
use Rattle.midfold.proofs.UsesLemmas.{Counted}
use Rattle.midfold.proofs.unread.count_reads.Given as goal

abbrev pub invariant-loop : goal.invariant-loop
invariant-loop l = record {
  counted : Counted l.f.nodes l.counts.items l.at l.counter;
  count : l.count ≡ length l.f.nodes;
}
