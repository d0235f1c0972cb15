-- What is left decides, behind labels that the set has.
use Rattle.std.proofs.Common.{ℕ, List, length}
use Rattle.isa.proofs.Judged.{StandsBehind}
use Rattle.isa.proofs.whole.notes_stand.Given as goal

abbrev pub invariant-loop-item : goal.invariant-loop-item
invariant-loop-item l = (before : List ℕ) × StandsBehind l.fn.items l.rest before l.kinds.items l.before.keys

abbrev pub decreases-loop-item : goal.decreases-loop-item
decreases-loop-item l = length l.rest
