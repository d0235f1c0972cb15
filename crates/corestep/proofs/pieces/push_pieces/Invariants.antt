use Rattle.std.proofs.Common.{◌≡◌, ◌++◌, ◌+◌, ◌≤◌, length}
use Rattle.corestep.specs.Pieces.{access_events}
use Rattle.corestep.proofs.pieces.push_pieces.Given as goal

-- what is left to show
abbrev pub invariant-loop-rest : goal.invariant-loop-rest
invariant-loop-rest l =
    (l.events ++ access_events l.store l.at l.rest ≡ l.initial.events ++ access_events l.store l.addr l.bytes)
    × (length l.events + length (access_events l.store l.at l.rest) ≤ 40)

abbrev pub decreases-loop-rest : goal.decreases-loop-rest
decreases-loop-rest l = length l.rest
