-- The numbers in fitted words are in their ranges.
use Rattle.std.specs.Prelude.{ℕ, ◌≤◌, min, max}
use Rattle.std.proofs.Common.{arith}

-- a number as a LOOP's length
abbrev pub as_length : ℕ → ℕ
as_length n = max 1 (min n 255)

pub length_least : (n : ℕ) → 1 ≤ as_length n
length_least n = omega arith

pub length_greatest : (n : ℕ) → as_length n ≤ 255
length_greatest n = omega arith
