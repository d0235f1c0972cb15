use Rattle.callcycle.specs.Search.{left}
use Rattle.callcycle.proofs.Reached.{IsReaching}
use Rattle.callcycle.proofs.reach.reached_from.Given as goal

abbrev pub invariant-loop-function : goal.invariant-loop-function
invariant-loop-function l = IsReaching l.functions l.from l.reached.items l.waiting.items

abbrev pub decreases-loop-function : goal.decreases-loop-function
decreases-loop-function l = left l.reached.items l.waiting.items
