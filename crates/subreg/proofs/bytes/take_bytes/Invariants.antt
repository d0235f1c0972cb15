use Rattle.std.proofs.Common.{◌≡◌, ℕ, ◌<◌, ◌≤◌, ◌⊎◌, length, get_or}
use Rattle.subreg.proofs.bytes.take_bytes.Given as goal

abbrev pub invariant-loop-byte : goal.invariant-loop-byte
invariant-loop-byte l = record {
  all : length l.free_from ≡ length l.initial.free_from;
  own : (k : ℕ) → l.first ≤ k → k < l.byte → get_or l.free_from k 0 ≡ l.until;
  others : (k : ℕ) → (k < l.first) ⊎ (l.byte ≤ k) → get_or l.free_from k 0 ≡ get_or l.initial.free_from k 0;
}
