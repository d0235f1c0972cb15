use Rattle.std.proofs.Common.{take}
use Rattle.callcycle.specs.Search.{AreUpTo}
use Rattle.callcycle.proofs.component.are_up_to.Given as goal

abbrev pub invariant-loop-call : goal.invariant-loop-call
invariant-loop-call l = AreUpTo (take l.call-index l.calls) l.numbers l.most
