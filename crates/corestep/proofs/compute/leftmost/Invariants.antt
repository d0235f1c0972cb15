use Rattle.std.proofs.Common.{◌≡◌, ◌≤◌, ◌%◌}
use Rattle.corestep.specs.Compute.{leftmost, leftmost_below}
use Rattle.corestep.proofs.compute.leftmost.Given as goal

-- the answer is among the bits that are left
abbrev pub invariant-loop-n : goal.invariant-loop-n
invariant-loop-n l = (l.n ≤ 32) × (leftmost_below l.a (l.b % 2) l.n ≡ leftmost l.a l.b)

abbrev pub decreases-loop-n : goal.decreases-loop-n
decreases-loop-n l = l.n
