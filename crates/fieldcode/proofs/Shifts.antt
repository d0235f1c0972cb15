-- The arithmetic shift, as numbers.
use Rattle.std.proofs.Common.{◌≡◌, ℕ, zero, suc, ◌+◌, ◌-◌, ◌*◌, ◌/◌, ◌%◌, ◌^◌, ◌<◌, ◌≤◌, Bool, true, false, refl, sym, ap, ◌∙◌}
use Rattle.std.proofs.Common.{arith, lit<, lit≤, subst}
use Rattle.std.specs.Prelude.{nat_lt, bit_xor, ℤ, pos, negsuc}
use Rattle.std.specs.Int.{int_div_euclid}
use Rattle.std.proofs.lemmas.Bool.{ltb-true, ltb-false}
use Rattle.std.proofs.lemmas.Bool.Decides.{nat_tests}
use Rattle.std.proofs.lemmas.Int.{ints}
use Rattle.std.proofs.Math.Nat.{one-le-pow, pow-le-pow_right, div-lt_iff_lt-mul, add-mul-div_right, add-mul, div-mul-le_self}
use Rattle.std.proofs.Math.Nat.{lt-div-mul-add, div-eq_of_lt-le}
use Rattle.std.proofs.lemmas.Nat.{div-mul-add, pow-add}
use Rattle.prunum.specs.Number.{sext, wrap_signed, shr_s}
use Rattle.prunum.specs.declared.width.Width.TheVariants.{B4}
use Rattle.corestep.specs.Compute.{difference}
use Rattle.fieldcode.proofs.Numbers.{turned_on, turned_off}

-- a number whose sign bit was shifted to place k, and the bits below it
abbrev pub flipped : ℕ → ℕ → ℕ
flipped x m = difference (bit_xor (x % 2 ^ 32) m % 2 ^ 32) m

flip_low : (k x : ℕ) → 2 ^ k ≤ 2 ^ 31 → x < 2 ^ k → flipped x (2 ^ k) ≡ x
flip_low k x most less =
    let fits : x % 2 ^ 32 ≡ x = omega (arith, most, less) in
    ap (λ y. difference (bit_xor y (2 ^ k) % 2 ^ 32) (2 ^ k)) fits
    ∙ ap (λ y. difference (y % 2 ^ 32) (2 ^ k)) (turned_on k x less) ∙ omega (arith, most, less)

flip_high : (k y : ℕ) → 2 ^ k ≤ 2 ^ 31 → y < 2 ^ k → flipped (y + 2 ^ k) (2 ^ k) ≡ 2 ^ 32 - 2 ^ k + y
flip_high k y most less =
    let fits : (y + 2 ^ k) % 2 ^ 32 ≡ y + 2 ^ k = omega (arith, most, less) in
    ap (λ z. difference (bit_xor z (2 ^ k) % 2 ^ 32) (2 ^ k)) fits
    ∙ ap (λ z. difference (z % 2 ^ 32) (2 ^ k)) (turned_off k y less) ∙ omega (arith, most, less)

signed_low : (a j : ℕ) → a < 2 ^ 31 → j < 32 → a / 2 ^ j < 2 ^ 31 → shr_s a j ≡ a / 2 ^ j
unfolding sext shr_s
signed_low a j less small few =
    let is : sext B4 a ≡ pos a = grind (arith, ints, nat_tests) in
    let same : j % 32 ≡ j = omega arith in
    ap (λ z. wrap_signed B4 (int_div_euclid z (pos (2 ^ (j % 32))))) is
    ∙ ap (λ i. wrap_signed B4 (pos (a / 2 ^ i))) same
    ∙ (let e : a / 2 ^ j % 2 ^ 32 ≡ a / 2 ^ j = omega (arith, few) in e)

signed_high : (a c j : ℕ) → a + c + 1 ≡ 2 ^ 32 → c < 2 ^ 31 → j < 32 → c / 2 ^ j < 2 ^ 31 → shr_s a j ≡ 2 ^ 32 - 1 - c / 2 ^ j
unfolding sext shr_s
signed_high a c j sum less small few =
    let is : sext B4 a ≡ negsuc c = grind (arith, ints, nat_tests) in
    let same : j % 32 ≡ j = omega arith in
    ap (λ z. wrap_signed B4 (int_div_euclid z (pos (2 ^ (j % 32))))) is
    ∙ ap (λ i. wrap_signed B4 (negsuc (c / 2 ^ i))) same
    ∙ (let e : 2 ^ 32 - 1 - c / 2 ^ j % 2 ^ 32 ≡ 2 ^ 32 - 1 - c / 2 ^ j = omega (arith, few) in e)

-- ---- the shift

module _ (a j : ℕ) (small : j < 32) where
  abbrev k : ℕ
  k = 31 - j

  product : 2 ^ k * 2 ^ j ≡ 2 ^ 31
  product = sym (pow-add 2 k j) ∙ ap (λ i. 2 ^ i) (let e : 31 - j + j ≡ 31 = omega arith in e)

  some : 0 < 2 ^ j
  some = let e : 1 ≤ 2 ^ j = one-le-pow j 2 (lit< tt) in omega (arith, e)

  pub mask_is : 2 ^ 31 / 2 ^ j ≡ 2 ^ k
  mask_is =
      ap (λ n. n / 2 ^ j) (let e : 2 ^ 31 ≡ 2 ^ k * 2 ^ j + 0 = omega (arith, product) in e) ∙ div-mul-add (2 ^ k) (2 ^ j) 0 some

  most : 2 ^ k ≤ 2 ^ 31
  most = pow-le-pow_right {n = 2} (lit< tt) {i = k} {j = 31} (omega arith)

  below : (c : ℕ) → c < 2 ^ 31 → c / 2 ^ j < 2 ^ k
  below c less = (div-lt_iff_lt-mul {k = 2 ^ j} {x = c} {y = 2 ^ k} some).1 (omega (arith, less, product))

  pub shift_low : a < 2 ^ 31 → flipped (a / 2 ^ j) (2 ^ k) ≡ shr_s a j
  shift_low less =
      let few : a / 2 ^ j < 2 ^ k = below a less in
      flip_low k (a / 2 ^ j) most few ∙ sym (signed_low a j less small (omega (arith, few, most)))

  -- what is above the sign bit, and what is left to the greatest number
  module _ (d c : ℕ) (is : a ≡ d + 2 ^ 31) (sum : d + c + 1 ≡ 2 ^ 31) where
    abbrev y : ℕ
    y = d / 2 ^ j

    high : a / 2 ^ j ≡ y + 2 ^ k
    high =
        ap (λ n. n / 2 ^ j) (is ∙ ap (λ n. d + n) (sym product)) ∙ add-mul-div_right d (2 ^ k) some

    rest : c / 2 ^ j ≡ 2 ^ k - 1 - y
    rest =
        let z : ℕ = 2 ^ k - 1 - y in
        let less : y < 2 ^ k = below d (omega (arith, sum)) in
        let all : z + y + 1 ≡ 2 ^ k = omega (arith, less) in
        let spread : z * 2 ^ j + y * 2 ^ j + 1 * 2 ^ j ≡ 2 ^ 31 =
        sym (add-mul (z + y) 1 (2 ^ j) ∙ ap (λ n. n + 1 * 2 ^ j) (add-mul z y (2 ^ j))) ∙ ap (λ n. n * 2 ^ j) all ∙ product in
        let lower : y * 2 ^ j ≤ d = div-mul-le_self d (2 ^ j) in
        let upper : d < y * 2 ^ j + 2 ^ j = lt-div-mul-add some in
        div-eq_of_lt-le {k = z} (2 ^ j) {m = c} (omega (arith, spread, upper, sum))
        (let e : (z + 1) * 2 ^ j ≡ z * 2 ^ j + 1 * 2 ^ j = add-mul z 1 (2 ^ j) in omega (arith, spread, lower, sum, e))

    pub shift_high : flipped (a / 2 ^ j) (2 ^ k) ≡ shr_s a j
    shift_high =
        let less : y < 2 ^ k = below d (omega (arith, sum)) in
        let few : c / 2 ^ j < 2 ^ 31 = omega (arith, rest, less, most) in
        ap (λ x. flipped x (2 ^ k)) high ∙ flip_high k y most less
        ∙ omega (arith, less, most, rest)
        ∙ sym (signed_high a c j (omega (arith, is, sum)) (omega (arith, sum)) small few)

shift_by : (a j : ℕ) → a < 2 ^ 32 → j < 32 → (l : Bool) → nat_lt a (2 ^ 31) ≡ l → flipped (a / 2 ^ j) (2 ^ (31 - j)) ≡ shr_s a j
shift_by a j fits small true is = shift_low a j small (ltb-true a (2 ^ 31) is)
shift_by a j fits small false is =
    let more : 2 ^ 31 ≤ a = ltb-false a (2 ^ 31) is in
    shift_high a j small (a - 2 ^ 31) (2 ^ 32 - 1 - a) (omega arith) (omega arith)

pub taken_modulo : (a n : ℕ) → shr_s a (n % 32) ≡ shr_s a n
unfolding shr_s
taken_modulo a n =
    ap (λ i. wrap_signed B4 (int_div_euclid (sext B4 a) (pos (2 ^ i)))) (let e : n % 32 % 32 ≡ n % 32 = omega arith in e)

pub shift_is : (a n : ℕ) → a < 2 ^ 32 → flipped (a / 2 ^ (n % 32)) (2 ^ 31 / 2 ^ (n % 32)) ≡ shr_s a n
shift_is a n fits =
    let small : n % 32 < 32 = omega arith in
    ap (flipped (a / 2 ^ (n % 32))) (mask_is a (n % 32) small)
    ∙ shift_by a (n % 32) fits small (nat_lt a (2 ^ 31)) refl ∙ taken_modulo a n
