use Rattle.std.proofs.Common.{ℕ, ◌<◌, get_or}
use Rattle.callcycle.specs.Calls.{calls_of}
use Rattle.callcycle.specs.Search.{AreUpTo}
use Rattle.callcycle.proofs.component.never_rises.Given as goal

abbrev pub invariant-loop-caller : goal.invariant-loop-caller
invariant-loop-caller l = (f : ℕ) → f < l.caller → AreUpTo (calls_of l.functions f) l.numbers (get_or l.numbers f 0)
