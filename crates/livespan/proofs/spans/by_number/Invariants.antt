use Rattle.livespan.specs.Spans.{AreSpansBelow}
use Rattle.livespan.proofs.spans.by_number.Given as goal

abbrev pub invariant-loop-number : goal.invariant-loop-number
invariant-loop-number l = AreSpansBelow l.f l.number l.spans.items
