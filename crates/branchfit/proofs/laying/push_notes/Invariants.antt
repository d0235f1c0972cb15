-- The notes of the kinds so far are pushed.
use Rattle.std.proofs.Common.{◌≡◌, ◌++◌}
use Rattle.branchfit.specs.Laid.{noted_to}
use Rattle.branchfit.proofs.laying.push_notes.Given as goal

abbrev pub invariant-loop-before : goal.invariant-loop-before
invariant-loop-before l = l.notes.items ≡ l.fn.notes.items ++ noted_to l.before l.here l.wide l.pending
