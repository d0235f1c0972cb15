use Rattle.std.proofs.Common.{take}
use Rattle.callcycle.specs.Search.{AreTaken}
use Rattle.callcycle.proofs.reach.take_callees.Given as goal

-- the callees of the calls so far are taken
abbrev pub invariant-loop-call : goal.invariant-loop-call
invariant-loop-call l = AreTaken (take l.call-index l.calls) l.initial.reached.items l.reached.items l.initial.waiting.items l.waiting.items
