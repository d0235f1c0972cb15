-- The numbers that are cut out of a word are in their ranges.
use Rattle.std.specs.Prelude.{ℕ, ◌+◌, ◌%◌, ◌<◌, ◌≤◌, ◌&&◌, Bool, true, false, IsTrue, nat_lt}
use Rattle.std.specs.Prelude.{nat_le, if◌then◌else◌, ℤ, pos, neg_ℤ, ◌-ℤ◌, ◌≤ℤ◌}
use Rattle.std.proofs.Common.{arith, refl}
use Rattle.std.proofs.lemmas.Int.{ints}
use Rattle.std.proofs.lemmas.Bool.Decides.{nat_tests}

pub register : (c : ℕ) → c % 32 < 32
register c = omega arith

pub byte_in : (c : ℕ) → c % 4 < 4
byte_in c = omega arith

pub one_more : (n : ℕ) → 1 ≤ n + 1
one_more n = omega arith

pub count_least : (c : ℕ) → 1 ≤ c % 256 + 1
count_least c = omega arith

pub count_greatest : (c : ℕ) → c % 256 + 1 ≤ 256
count_greatest c = omega arith

-- ten bits as two's complement
abbrev pub signed : ℕ → ℤ
signed bits = if nat_lt (bits % 1024) 512 then pos (bits % 1024) else pos (bits % 1024) -ℤ pos 1024

pub signed_least : (bits : ℕ) → neg_ℤ (pos 512) ≤ℤ signed bits
signed_least bits = grind (arith, ints, nat_tests)

pub signed_greatest : (bits : ℕ) → signed bits ≤ℤ pos 511
signed_greatest bits = grind (arith, ints, nat_tests)

pub first_of : (a b : Bool) → IsTrue (a && b) → IsTrue a
first_of true b h = refl
first_of false b h = h

pub last_of : (a b : Bool) → IsTrue (a && b) → IsTrue b
last_of true b h = h
last_of false b h = cc

pub length_least : (n : ℕ) → IsTrue (nat_lt 0 n && nat_le n 255) → 1 ≤ n
length_least n h = grind (arith, nat_tests)

pub length_greatest : (n : ℕ) → IsTrue (nat_lt 0 n && nat_le n 255) → n ≤ 255
length_greatest n h = grind (arith, nat_tests)

-- 1 to 4 registers of R0 to R29
abbrev pub is_transfer : ℕ → ℕ → Bool
is_transfer first count = nat_le 1 count && nat_le count 4 && nat_le (first + count) 30

pub transfer_least : (first count : ℕ) → IsTrue (is_transfer first count) → 1 ≤ count
transfer_least first count h = grind (arith, nat_tests)

pub transfer_greatest : (first count : ℕ) → IsTrue (is_transfer first count) → count ≤ 4
transfer_greatest first count h = grind (arith, nat_tests)

pub transfer_below : (first count : ℕ) → IsTrue (is_transfer first count) → first + count ≤ 30
transfer_below first count h = grind (arith, nat_tests)

pub below_of : (b : Bool) (n : ℕ) → IsTrue (b && nat_le n 120) → n ≤ 120
below_of true n h = grind (arith, nat_tests)
below_of false n h = cc
