use Rattle.std.proofs.Common.{take}
use Rattle.callcycle.specs.Search.{IsNoted}
use Rattle.callcycle.proofs.cycle.note_all.Given as goal

-- the calls so far are noted
abbrev pub invariant-loop-call : goal.invariant-loop-call
invariant-loop-call l = IsNoted l.functions l.caller (take l.call-index l.calls) l.initial.least l.least
