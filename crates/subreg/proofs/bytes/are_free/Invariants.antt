use Rattle.std.proofs.Common.{ℕ, ◌<◌, ◌≤◌, get_or}
use Rattle.subreg.proofs.bytes.are_free.Given as goal

abbrev pub invariant-loop-byte : goal.invariant-loop-byte
invariant-loop-byte l = (k : ℕ) → l.first ≤ k → k < l.byte → get_or l.free_from k 0 ≤ l.place
