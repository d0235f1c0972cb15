-- None stood before; what is first from here on is first of all.
use Rattle.std.proofs.Common.{◌≡◌, ◌+◌, ◌≤◌, length}
use Rattle.std.specs.Prelude.{option_map}
use Rattle.branchfit.specs.Loops.{first_long}
use Rattle.branchfit.proofs.loops.first_long.Given as goal

abbrev pub invariant-loop-item : goal.invariant-loop-item
invariant-loop-item l =
    (option_map (λ k. l.number + k) (first_long l.layout l.place l.rest) ≡ first_long l.fn.layout 0 l.fn.items)
    × (l.place + length l.rest ≤ length l.fn.items) × (l.number + length l.rest ≤ length l.fn.items)

abbrev pub decreases-loop-item : goal.decreases-loop-item
decreases-loop-item l = length l.rest
