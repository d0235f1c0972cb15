use Rattle.std.proofs.Common.{length}
use Rattle.midfold.proofs.UsesLemmas.{Drained}
use Rattle.midfold.proofs.unread.drain.Given as goal

abbrev pub invariant-loop-node : goal.invariant-loop-node
invariant-loop-node l = Drained l.fn.f l.f l.counts.items

abbrev pub decreases-loop-node : goal.decreases-loop-node
decreases-loop-node l = length l.f.nodes
