-- Sign extension and the arithmetic shift, as numbers.
use Rattle.std.proofs.Common.{◌≡◌, ℕ, zero, suc, ◌+◌, ◌-◌, ◌*◌, ◌/◌, ◌%◌, ◌^◌, ◌<◌, ◌≤◌, Bool, true, false, refl, sym, ap, ◌∙◌}
use Rattle.std.proofs.Common.{arith, inl, inr, ◌⊎◌, lit<, lit≤, subst}
use Rattle.std.specs.Prelude.{nat_lt, bit_xor, ℤ, pos, negsuc}
use Rattle.std.specs.Int.{int_div_euclid}
use Rattle.std.proofs.lemmas.Bool.{ltb-true, ltb-false}
use Rattle.std.proofs.lemmas.Bool.Decides.{nat_tests}
use Rattle.std.proofs.lemmas.Int.{ints}
use Rattle.prunum.specs.Number.{bit_count, sext, wrap_signed, shr_s}
use Rattle.prunum.specs.declared.width.Width.{Width}
use Rattle.prunum.specs.declared.width.Width.TheVariants.{B1, B2, B4}
use Rattle.corestep.specs.Compute.{difference}
use Rattle.fieldcode.proofs.Numbers.{turned_on, turned_off}

-- ---- sign extension

-- a number of so many bits and one more, whose highest bit is turned and taken off
taken_off_low : (k v : ℕ) → k < 32 → v < 2 ^ k → 2 ^ k ≤ 2 ^ 31 → difference (bit_xor v (2 ^ k) % 2 ^ 32) (2 ^ k) ≡ v
taken_off_low k v small less most =
    ap (λ x. difference (x % 2 ^ 32) (2 ^ k)) (turned_on k v less) ∙ omega (arith, less, most)

taken_off_high : (k v : ℕ) → k < 32 → v < 2 ^ k → 2 ^ k ≤ 2 ^ 31
    → difference (bit_xor (v + 2 ^ k) (2 ^ k) % 2 ^ 32) (2 ^ k) ≡ 2 ^ 32 - 2 ^ k + v
taken_off_high k v small less most =
    ap (λ x. difference (x % 2 ^ 32) (2 ^ k)) (turned_off k v less) ∙ omega (arith, less, most)

wide_low_1 : (v : ℕ) → v < 2 ^ 7 → wrap_signed B4 (sext B1 v) ≡ v
unfolding sext
wide_low_1 v less =
    let is : sext B1 v ≡ pos v = grind (arith, ints, nat_tests) in ap (wrap_signed B4) is ∙ omega arith

wide_high_1 : (v : ℕ) → v < 2 ^ 7 → wrap_signed B4 (sext B1 (v + 2 ^ 7)) ≡ 2 ^ 32 - 2 ^ 7 + v
unfolding sext
wide_high_1 v less =
    let is : sext B1 (v + 2 ^ 7) ≡ negsuc (127 - v) = grind (arith, ints, nat_tests) in ap (wrap_signed B4) is ∙ omega arith

wide_low_2 : (v : ℕ) → v < 2 ^ 15 → wrap_signed B4 (sext B2 v) ≡ v
unfolding sext
wide_low_2 v less =
    let is : sext B2 v ≡ pos v = grind (arith, ints, nat_tests) in ap (wrap_signed B4) is ∙ omega arith

wide_high_2 : (v : ℕ) → v < 2 ^ 15 → wrap_signed B4 (sext B2 (v + 2 ^ 15)) ≡ 2 ^ 32 - 2 ^ 15 + v
unfolding sext
wide_high_2 v less =
    let is : sext B2 (v + 2 ^ 15) ≡ negsuc (32767 - v) = grind (arith, ints, nat_tests) in ap (wrap_signed B4) is ∙ omega arith

abbrev pub Widens : Width → ℕ → Type 0
Widens w v =
    difference (bit_xor v (2 ^ (bit_count w - 1)) % 2 ^ 32) (2 ^ (bit_count w - 1)) ≡ wrap_signed B4 (sext w v)

widens_by_1 : (v : ℕ) → v < 2 ^ 8 → (l : Bool) → nat_lt v (2 ^ 7) ≡ l → Widens B1 v
widens_by_1 v fits true is =
    let less : v < 2 ^ 7 = ltb-true v (2 ^ 7) is in
    taken_off_low 7 v (lit< tt) less (lit≤ tt) ∙ sym (wide_low_1 v less)
widens_by_1 v fits false is =
    let more : 2 ^ 7 ≤ v = ltb-false v (2 ^ 7) is in
    let less : v - 2 ^ 7 < 2 ^ 7 = omega arith in
    let rest : v - 2 ^ 7 + 2 ^ 7 ≡ v = omega arith in
    subst (Widens B1) rest (taken_off_high 7 (v - 2 ^ 7) (lit< tt) less (lit≤ tt) ∙ sym (wide_high_1 (v - 2 ^ 7) less))

widens_by_2 : (v : ℕ) → v < 2 ^ 16 → (l : Bool) → nat_lt v (2 ^ 15) ≡ l → Widens B2 v
widens_by_2 v fits true is =
    let less : v < 2 ^ 15 = ltb-true v (2 ^ 15) is in
    taken_off_low 15 v (lit< tt) less (lit≤ tt) ∙ sym (wide_low_2 v less)
widens_by_2 v fits false is =
    let more : 2 ^ 15 ≤ v = ltb-false v (2 ^ 15) is in
    let less : v - 2 ^ 15 < 2 ^ 15 = omega arith in
    let rest : v - 2 ^ 15 + 2 ^ 15 ≡ v = omega arith in
    subst (Widens B2) rest (taken_off_high 15 (v - 2 ^ 15) (lit< tt) less (lit≤ tt) ∙ sym (wide_high_2 (v - 2 ^ 15) less))

pub widens_1 : (v : ℕ) → v < 2 ^ 8 → Widens B1 v
widens_1 v fits = widens_by_1 v fits (nat_lt v (2 ^ 7)) refl

pub widens_2 : (v : ℕ) → v < 2 ^ 16 → Widens B2 v
widens_2 v fits = widens_by_2 v fits (nat_lt v (2 ^ 15)) refl
