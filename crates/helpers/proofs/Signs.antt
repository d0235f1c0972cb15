-- Division of two's complement by the distances from 0, and the signs.
use Rattle.std.proofs.Common.{◌≡◌, ℕ, zero, suc, ◌+◌, ◌-◌, ◌/◌, ◌%◌, ◌^◌, ◌<◌, ◌≤◌, Bool, true, false, refl, sym, ap, ◌∙◌, arith, ◌⊎◌}
use Rattle.std.proofs.Common.{inl, inr, leb}
use Rattle.std.specs.Prelude.{◌==◌, if◌then◌else◌, bit_xor, ℤ, pos, negsuc, neg_ℤ, int_div, int_rem, unsigned_abs}
use Rattle.std.proofs.lemmas.Bool.Decides.{nat_tests, leb_tells}
use Rattle.std.proofs.lemmas.Int.{ints}
use Rattle.std.proofs.lemmas.Nat.Bits.{bit_at_xor}
use Rattle.std.proofs.Math.Dec.{eqb-suc-zero}
use Rattle.std.proofs.Math.Nat.{div-le_self, mod-le}
use Rattle.prunum.specs.declared.width.Width.TheVariants.{B4}
use Rattle.prunum.specs.Number.{sext, wrap_signed, quot_u, rem_u, quot_s, rem_s}
use Rattle.corestep.specs.Compute.{difference}

-- ---- what the bodies compute

abbrev pub negative : ℕ → Bool
negative x = x / 2 ^ 31 % 2 == 1

abbrev pub opposite : ℕ → ℕ
opposite x = difference 0 x

-- x, or its opposite where s has bit 31
abbrev pub signed_by : ℕ → ℕ → ℕ
signed_by s x = if negative s then opposite x else x

abbrev pub sign_of_quotient : ℕ → ℕ → ℕ
sign_of_quotient a b = if b == 0 then 0 else bit_xor a b

-- ---- a number as two's complement

record Below (a : ℕ) : Type 0 where
  signed : sext B4 a ≡ pos a
  bit : a / 2 ^ 31 % 2 ≡ 0

record Above (a j : ℕ) : Type 0 where
  signed : sext B4 a ≡ negsuc j
  bit : a / 2 ^ 31 % 2 ≡ 1
  distance : a + suc j ≡ 2 ^ 32
  least : suc j ≤ 2 ^ 31

below : (a : ℕ) → a < 2 ^ 31 → Below a
unfolding sext
below a h = record { signed = grind (arith, ints, nat_tests); bit = omega arith }

above : (a j : ℕ) → 2 ^ 31 ≤ a → a + suc j ≡ 2 ^ 32 → Above a j
unfolding sext
above a j h is = record { signed = grind (arith, ints, nat_tests); bit = omega arith; distance = is; least = omega arith }

by_half : (a : ℕ) → a < 2 ^ 32 → ((leb (2 ^ 31) a ≡ true) × (2 ^ 31 ≤ a)) ⊎ ((leb (2 ^ 31) a ≡ false) × (a < 2 ^ 31))
    → Below a ⊎ ((j : ℕ) × Above a j)
by_half a fits (inl more) = let least : 2 ^ 31 ≤ a = more.1 in inr (2 ^ 32 - 1 - a, above a (2 ^ 32 - 1 - a) least (omega arith))
by_half a fits (inr less) = inl (below a less.1)

either : (a : ℕ) → a < 2 ^ 32 → Below a ⊎ ((j : ℕ) × Above a j)
either a fits = by_half a fits (leb_tells (2 ^ 31) a)

magnitude_below : (a : ℕ) → Below a → signed_by a a ≡ a
magnitude_below a is = ap (λ (n : ℕ). if n == 1 then opposite a else a) is.bit

magnitude_above : (a j : ℕ) → Above a j → signed_by a a ≡ suc j
magnitude_above a j is =
    let distance = is.distance in
    ap (λ (n : ℕ). if n == 1 then opposite a else a) is.bit ∙ (let e : difference 0 a ≡ suc j = omega arith in e)

wrapped : (n : ℕ) → n < 2 ^ 32 → wrap_signed B4 (pos n) ≡ n
wrapped n fits = omega arith

wrapped_opposite : (n : ℕ) → n < 2 ^ 32 → wrap_signed B4 (neg_ℤ (pos n)) ≡ opposite n
wrapped_opposite zero fits = refl
wrapped_opposite (suc n) fits = omega arith

-- ---- quotients

quotient_as : (a b : ℕ) (y z : ℤ) → (b == 0) ≡ false → sext B4 a ≡ y → sext B4 b ≡ z → quot_s a b ≡ wrap_signed B4 (int_div y z)
unfolding quot_s
quotient_as a b y z some e f =
    ap (λ (t : Bool). if t then 2 ^ 32 - 1 else wrap_signed B4 (int_div (sext B4 a) (sext B4 b))) some
    ∙ ap (λ (x : ℤ). wrap_signed B4 (int_div x (sext B4 b))) e ∙ ap (λ (x : ℤ). wrap_signed B4 (int_div y x)) f

abbrev by_bits : ℕ → ℕ → ℕ
by_bits bits x = if bits % 2 == 1 then opposite x else x

computed_as : (a b i j m n : ℕ) → (b == 0) ≡ false → a / 2 ^ 31 % 2 ≡ i → b / 2 ^ 31 % 2 ≡ j → signed_by a a ≡ m → signed_by b b ≡ n
    → (n == 0) ≡ false → signed_by (sign_of_quotient a b) (quot_u (signed_by a a) (signed_by b b)) ≡ by_bits (i + j) (m / n)
computed_as a b i j m n some bit_a bit_b is_m is_n some_n =
    let q : ℕ = quot_u (signed_by a a) (signed_by b b) in
    let quotient : q ≡ m / n =
    ap (λ (x : ℕ). quot_u x (signed_by b b)) is_m ∙ ap (quot_u m) is_n
    ∙ ap (λ (t : Bool). if t then 2 ^ 32 - 1 else m / n) some_n in
    ap (λ (t : Bool). signed_by (if t then 0 else bit_xor a b) q) some
    ∙ ap (λ (x : ℕ). if x == 1 then opposite q else q) (bit_at_xor a b 31)
    ∙ ap (λ (x : ℕ). by_bits (x + b / 2 ^ 31 % 2) q) bit_a ∙ ap (λ (x : ℕ). by_bits (i + x) q) bit_b
    ∙ ap (by_bits (i + j)) quotient

quotient_fits : (m n : ℕ) → m < 2 ^ 32 → m / n < 2 ^ 32
quotient_fits m n fits = let less = div-le_self m n in omega arith

quotient_of : (a b : ℕ) → a < 2 ^ 32 → (b == 0) ≡ false → Below a ⊎ ((j : ℕ) × Above a j) → Below b ⊎ ((j : ℕ) × Above b j)
    → signed_by (sign_of_quotient a b) (quot_u (signed_by a a) (signed_by b b)) ≡ quot_s a b
quotient_of a b fits some (inl x) (inl y) =
    computed_as a b 0 0 a b some x.bit y.bit (magnitude_below a x) (magnitude_below b y) some
    ∙ sym (quotient_as a b (pos a) (pos b) some x.signed y.signed ∙ wrapped (a / b) (quotient_fits a b fits))
quotient_of a b fits some (inl x) (inr (j, y)) =
    computed_as a b 0 1 a (suc j) some x.bit y.bit (magnitude_below a x) (magnitude_above b j y) (eqb-suc-zero j)
    ∙ sym (quotient_as a b (pos a) (negsuc j) some x.signed y.signed ∙ wrapped_opposite (a / suc j) (quotient_fits a (suc j) fits))
quotient_of a b fits some (inr (i, x)) (inl y) =
    let least = x.least in
    computed_as a b 1 0 (suc i) b some x.bit y.bit (magnitude_above a i x) (magnitude_below b y) some
    ∙ sym (quotient_as a b (negsuc i) (pos b) some x.signed y.signed ∙ wrapped_opposite (suc i / b) (quotient_fits (suc i) b (omega arith)))
quotient_of a b fits some (inr (i, x)) (inr (j, y)) =
    let least = x.least in
    computed_as a b 1 1 (suc i) (suc j) some x.bit y.bit (magnitude_above a i x) (magnitude_above b j y) (eqb-suc-zero j)
    ∙ sym (quotient_as a b (negsuc i) (negsuc j) some x.signed y.signed
    ∙ wrapped (suc i / suc j) (quotient_fits (suc i) (suc j) (omega arith)))

by_zero : (a : ℕ) → signed_by (sign_of_quotient a 0) (quot_u (signed_by a a) (signed_by 0 0)) ≡ quot_s a 0
unfolding quot_s
by_zero a = refl

pub quotient_is_signed : (a b : ℕ) → a < 2 ^ 32 → b < 2 ^ 32
    → signed_by (sign_of_quotient a b) (quot_u (signed_by a a) (signed_by b b)) ≡ quot_s a b
quotient_is_signed a zero fits fits_b = by_zero a
quotient_is_signed a (suc b) fits fits_b = quotient_of a (suc b) fits (eqb-suc-zero b) (either a fits) (either (suc b) fits_b)

-- ---- what is left over

rest_as : (a b : ℕ) (y z : ℤ) → (b == 0) ≡ false → sext B4 a ≡ y → sext B4 b ≡ z → rem_s a b ≡ wrap_signed B4 (int_rem y z)
unfolding rem_s
rest_as a b y z some e f =
    ap (λ (t : Bool). if t then a else wrap_signed B4 (int_rem (sext B4 a) (sext B4 b))) some
    ∙ ap (λ (x : ℤ). wrap_signed B4 (int_rem x (sext B4 b))) e ∙ ap (λ (x : ℤ). wrap_signed B4 (int_rem y x)) f

rest_computed : (a b i m n : ℕ) → a / 2 ^ 31 % 2 ≡ i → signed_by a a ≡ m → signed_by b b ≡ n → (n == 0) ≡ false
    → signed_by a (rem_u (signed_by a a) (signed_by b b)) ≡ (if i == 1 then opposite (m % n) else m % n)
rest_computed a b i m n bit is_m is_n some_n =
    let r : ℕ = rem_u (signed_by a a) (signed_by b b) in
    let rest : r ≡ m % n =
    ap (λ (x : ℕ). rem_u x (signed_by b b)) is_m ∙ ap (rem_u m) is_n ∙ ap (λ (t : Bool). if t then m else m % n) some_n in
    ap (λ (x : ℕ). if x == 1 then opposite r else r) bit ∙ ap (λ (x : ℕ). if i == 1 then opposite x else x) rest

rest_fits : (m n : ℕ) → m < 2 ^ 32 → m % n < 2 ^ 32
rest_fits m n fits = let less = mod-le m n in omega arith

-- the divisor's distance from 0
record Distance (b n : ℕ) (z : ℤ) : Type 0 where
  signed : sext B4 b ≡ z
  distance : unsigned_abs z ≡ n
  magnitude : signed_by b b ≡ n
  some : (n == 0) ≡ false

rest_of : (a b n : ℕ) (z : ℤ) → a < 2 ^ 32 → (b == 0) ≡ false → Below a ⊎ ((j : ℕ) × Above a j) → Distance b n z
    → signed_by a (rem_u (signed_by a a) (signed_by b b)) ≡ rem_s a b
rest_of a b n z fits some (inl x) y =
    rest_computed a b 0 a n x.bit (magnitude_below a x) y.magnitude y.some
    ∙ sym (rest_as a b (pos a) z some x.signed y.signed ∙ ap (λ (d : ℕ). wrap_signed B4 (pos (a % d))) y.distance
    ∙ wrapped (a % n) (rest_fits a n fits))
rest_of a b n z fits some (inr (i, x)) y =
    let least = x.least in
    rest_computed a b 1 (suc i) n x.bit (magnitude_above a i x) y.magnitude y.some
    ∙ sym (rest_as a b (negsuc i) z some x.signed y.signed ∙ ap (λ (d : ℕ). wrap_signed B4 (neg_ℤ (pos (suc i % d)))) y.distance
    ∙ wrapped_opposite (suc i % n) (rest_fits (suc i) n (omega arith)))

rest_by : (a b : ℕ) → a < 2 ^ 32 → (b == 0) ≡ false → Below b ⊎ ((j : ℕ) × Above b j)
    → signed_by a (rem_u (signed_by a a) (signed_by b b)) ≡ rem_s a b
rest_by a b fits some (inl y) =
    rest_of a b b (pos b) fits some (either a fits)
    (record { signed = y.signed; distance = refl; magnitude = magnitude_below b y; some = some })
rest_by a b fits some (inr (j, y)) =
    rest_of a b (suc j) (negsuc j) fits some (either a fits)
    (record { signed = y.signed; distance = refl; magnitude = magnitude_above b j y; some = eqb-suc-zero j })

twice_opposite : (a : ℕ) → a < 2 ^ 32 → Below a ⊎ ((j : ℕ) × Above a j) → signed_by a (signed_by a a) ≡ a
twice_opposite a fits (inl x) = ap (λ (n : ℕ). if n == 1 then opposite (signed_by a a) else signed_by a a) x.bit ∙ magnitude_below a x
twice_opposite a fits (inr (j, x)) =
    let distance = x.distance in
    ap (λ (n : ℕ). if n == 1 then opposite (signed_by a a) else signed_by a a) x.bit ∙ ap opposite (magnitude_above a j x)
    ∙ (let e : difference 0 (suc j) ≡ a = omega arith in e)

by_zero_rest : (a : ℕ) → a < 2 ^ 32 → signed_by a (rem_u (signed_by a a) (signed_by 0 0)) ≡ rem_s a 0
unfolding rem_s
by_zero_rest a fits = twice_opposite a fits (either a fits)

pub rest_is_signed : (a b : ℕ) → a < 2 ^ 32 → b < 2 ^ 32 → signed_by a (rem_u (signed_by a a) (signed_by b b)) ≡ rem_s a b
rest_is_signed a zero fits fits_b = by_zero_rest a fits
rest_is_signed a (suc b) fits fits_b = rest_by a (suc b) fits (eqb-suc-zero b) (either (suc b) fits_b)

-- ---- sizes

fits_by : (b : Bool) (x : ℕ) → x < 2 ^ 32 → (if b then opposite x else x) < 2 ^ 32
fits_by true x fits = omega arith
fits_by false x fits = fits

pub signed_fits : (s x : ℕ) → x < 2 ^ 32 → signed_by s x < 2 ^ 32
signed_fits s x fits = fits_by (negative s) x fits
