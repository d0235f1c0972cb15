-- What is pushed and what is to come are all the notes of the kind.
use Rattle.std.proofs.Common.{◌≡◌, ◌++◌, length}
use Rattle.std.specs.Prelude.{map}
use Rattle.branchfit.specs.Laid.{with_number, of_kind}
use Rattle.branchfit.proofs.laying.push_kind.Given as goal

abbrev pub invariant-loop-note : goal.invariant-loop-note
invariant-loop-note l =
    l.notes.items ++ map (with_number l.here l.wide) (of_kind l.number l.rest) ≡ l.fn.notes.items ++ map (with_number l.here l.wide)
    (of_kind l.number l.fn.pending)

abbrev pub decreases-loop-note : goal.decreases-loop-note
decreases-loop-note l = length l.rest
