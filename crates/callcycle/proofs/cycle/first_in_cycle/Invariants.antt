use Rattle.callcycle.proofs.Noted.{IsUntil}
use Rattle.callcycle.proofs.cycle.first_in_cycle.Given as goal

abbrev pub invariant-loop-caller : goal.invariant-loop-caller
invariant-loop-caller l = IsUntil l.functions l.caller l.least
