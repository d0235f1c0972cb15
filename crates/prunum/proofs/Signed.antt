-- Two's complement, and quotients that are cut towards 0.
use Rattle.std.proofs.Common.{◌≡◌, ◌≢◌, ℕ, ◌+◌, ◌/◌, ◌%◌, ◌^◌, ◌<◌, arith, refl, ap, sym, subst, cond, Bool, true, false, zero, suc, lit<}
use Rattle.std.specs.Prelude.{ℤ, pos, negsuc, neg_ℤ, ◌-ℤ◌, ◌≤ℤ◌, ◌<ℤ◌, unsigned_abs, int_div, int_rem, nat_lt, ◌==◌}
use Rattle.std.proofs.lemmas.Int.{ints, quot-rem, rem_below}
use Rattle.std.proofs.lemmas.Bool.Decides.{nat_tests}
use Rattle.std.proofs.Math.Nat.{mod-add-div, mod-lt}
use Rattle.std.specs.Int.{int_rem_euclid}
use Rattle.prunum.specs.Number.{bit_count, sext, quot_s, rem_s, IsSignedOf, IsCongruent, IsCutDivision, IsCutDivisionOfBits}
use Rattle.prunum.specs.declared.width.Width.{Width}
use Rattle.prunum.specs.declared.width.Width.TheVariants.{B1, B2, B4}

-- what is left of v modulo m, above or below half of m
same_left : (v m : ℕ) → IsCongruent m (pos (v % m)) (pos v)
same_left v m = (v / m, 0, ap pos (omega (arith, mod-add-div v m)))

same_less : (v m : ℕ) → v % m < m → IsCongruent m (pos (v % m) -ℤ pos m) (pos v)
same_less v m h = (v / m + 1, 0, grind (arith, ints, mod-add-div v m))

-- what is left below half of m stays, and from there on it is m less: so it lies from -h to h - 1
by_half : (v m h : ℕ) → m ≡ h + h → 0 < m → (b : Bool) → nat_lt (v % m) h ≡ b
    → (neg_ℤ (pos h) ≤ℤ cond b (pos (v % m)) (pos (v % m) -ℤ pos m)) × (cond b (pos (v % m)) (pos (v % m) -ℤ pos m) <ℤ pos h)
    × IsCongruent m (cond b (pos (v % m)) (pos (v % m) -ℤ pos m)) (pos v)
by_half v m h e p true t = (grind (arith, ints, nat_tests), grind (arith, ints, nat_tests, t), same_left v m)
by_half v m h e p false t = let r : v % m < m = mod-lt v p in
    (grind (arith, ints, nat_tests, t), grind (arith, ints, nat_tests, t), same_less v m r)

-- the bits at a width mean what the definition of two's complement says
sext_is_signed : (w : Width) (v : ℕ) → IsSignedOf (bit_count w) v (sext w v)
unfolding sext
sext_is_signed B1 v = let f = by_half v 256 128 refl (lit< tt) (nat_lt (v % 256) 128) refl in
    record { least = f.0; greatest = f.1; same = f.2 }
sext_is_signed B2 v = let f = by_half v (2 ^ 16) (2 ^ 15) refl (lit< tt) (nat_lt (v % 2 ^ 16) (2 ^ 15)) refl in
    record { least = f.0; greatest = f.1; same = f.2 }
sext_is_signed B4 v = let f = by_half v (2 ^ 32) (2 ^ 31) refl (lit< tt) (nat_lt (v % 2 ^ 32) (2 ^ 31)) refl in
    record { least = f.0; greatest = f.1; same = f.2 }

pub IsSignedOf-at : (w : Width) (v : ℕ) (z : ℤ) → z ≡ sext w v → IsSignedOf (bit_count w) v z
IsSignedOf-at w v z e = subst (IsSignedOf (bit_count w) v) (sym e) (sext_is_signed w v)

-- the least number that is equal to z modulo m
same_rem : (z : ℤ) (m : ℕ) → 0 < m → IsCongruent m (pos (unsigned_abs (int_rem_euclid z (pos m)))) z
same_rem (pos n) m h = same_left n m
same_rem (negsuc n) m h = let r : n % m < m = mod-lt n h in (0, n / m + 1, grind (arith, ints, mod-add-div n m))

-- what is left over of a has the sign of a
above : (a b : ℤ) → pos 0 ≤ℤ a → pos 0 ≤ℤ int_rem a b
above (pos a) b h = omega (arith, ints)
above (negsuc a) b h = absurd (omega (arith, ints))

neg_below : (n : ℕ) → neg_ℤ (pos n) ≤ℤ pos 0
neg_below zero = omega (arith, ints)
neg_below (suc n) = omega (arith, ints)

below : (a b : ℤ) → a ≤ℤ pos 0 → int_rem a b ≤ℤ pos 0
below (pos zero) b h = omega (arith, ints)
below (pos (suc a)) b h = absurd (omega (arith, ints))
below (negsuc a) b h = neg_below (suc a % unsigned_abs b)

-- std's quotient and what it leaves over are those cut towards 0
cut : (a b : ℤ) → 0 < unsigned_abs b → IsCutDivision a b (int_div a b) (int_rem a b)
cut a b h = record { sum = quot-rem a b; nearer = rem_below a b h; above = above a b; below = below a b }

-- what is not 0 in 32 bits is not 0 as two's complement
not_zero : (b : ℕ) → b ≢ 0 → b < 2 ^ 32 → 0 < unsigned_abs (sext B4 b)
unfolding sext
not_zero b h f = grind (arith, ints, nat_tests)

cut_of_bits : (a b : ℕ) → b ≢ 0 → b < 2 ^ 32 → IsCutDivisionOfBits a b (quot_s a b) (rem_s a b)
unfolding quot_s rem_s
cut_of_bits a b h f =
    let e : (b == 0) ≡ false = grind (arith, nat_tests) in
    rw e (record {
      q = int_div (sext B4 a) (sext B4 b);
      r = int_rem (sext B4 a) (sext B4 b);
      division = cut (sext B4 a) (sext B4 b) (not_zero b h f);
      quotient = same_rem (int_div (sext B4 a) (sext B4 b)) (2 ^ 32) (lit< tt);
      rest = same_rem (int_rem (sext B4 a) (sext B4 b)) (2 ^ 32) (lit< tt);
    })

pub quotient_at : (a b q : ℕ) → q ≡ quot_s a b → b < 2 ^ 32 → b ≢ 0 → IsCutDivisionOfBits a b q (rem_s a b)
quotient_at a b q e f h = subst (λ x. IsCutDivisionOfBits a b x (rem_s a b)) (sym e) (cut_of_bits a b h f)

pub rest_at : (a b r : ℕ) → r ≡ rem_s a b → b < 2 ^ 32 → b ≢ 0 → IsCutDivisionOfBits a b (quot_s a b) r
rest_at a b r e f h = subst (IsCutDivisionOfBits a b (quot_s a b)) (sym e) (cut_of_bits a b h f)
