use Rattle.prucc.proofs.TreeForm.{IsLeft}
use Rattle.prucc.proofs.form.body_writes.Given as goal

-- what of the body is left behind the writes so far
abbrev pub invariant-loop-left : goal.invariant-loop-left
invariant-loop-left l = IsLeft l.end l.body l.left l.writes.items
