use Rattle.std.proofs.Common.{◌≡◌, ◌+◌, ◌≤◌, ◌++◌, map, length}
use Rattle.std.specs.Vec.{vec_len, vec_capacity}
use Rattle.twocore.specs.Word.{stamped_by}
use Rattle.twocore.proofs.turn.show.Given as goal

-- what is left to show
abbrev pub invariant-loop-event : goal.invariant-loop-event
invariant-loop-event l =
    (l.trace.items ++ map (stamped_by l.first l.last) l.rest ≡ l.initial.trace.items ++ map (stamped_by l.first l.last) l.events)
    × (vec_len l.trace + length l.rest ≡ vec_len l.initial.trace + length l.events)
    × (vec_capacity l.initial.trace ≤ vec_capacity l.trace)

abbrev pub decreases-loop-event : goal.decreases-loop-event
decreases-loop-event l = length l.rest
