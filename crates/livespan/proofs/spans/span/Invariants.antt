use Rattle.livespan.proofs.Extended.{IsExtended}
use Rattle.livespan.proofs.spans.span.Given as goal

abbrev pub invariant-loop-turn : goal.invariant-loop-turn
invariant-loop-turn l = IsExtended l.f l.v l.hull l.flow.loops.now l.turn-index l.area
