use Rattle.std.proofs.Common.{◌≡◌, ◌≤◌}
use Rattle.midopt.specs.Search.{below}
use Rattle.midopt.proofs.numbers.leftmost.Given as goal

-- the answer is among the bits that are left
abbrev pub invariant-loop-n : goal.invariant-loop-n
invariant-loop-n l = (l.n ≤ 32) × (below l.n l.a l.wanted ≡ below 32 l.a l.wanted)

abbrev pub decreases-loop-n : goal.decreases-loop-n
decreases-loop-n l = l.n
