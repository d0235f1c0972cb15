-- What is read of an integer constant is in its written form, and what is in that form is read.
use Rattle.std.proofs.Common.{◌≡◌, ℕ, ◌+◌, ◌*◌, ◌<◌, ◌≤◌, Bool, true, false, cond, eqb, leb, ◌&&◌, ◌||◌, List, [], ◌∷◌, ◌++◌}
use Rattle.std.proofs.Common.{length, take, drop, get_or, Option, Some, None, refl, sym, ap, ◌∙◌, arith, inl, inr, ◌⊎◌, lit≤}
use Rattle.std.specs.Prelude.{option_and_then}
use Rattle.std.specs.List.{prefix_len, list_all}
use Rattle.std.specs.Char.{digit_value, is_digit}
use Rattle.std.specs.Str.Parse.{AllDigits, digits_value, digits_value_after}
use Rattle.std.proofs.lemmas.Bool.{and_parts, and_from, or_cases, eqb-true, eqb-false, ne_eqb, ltb-true}
use Rattle.std.proofs.lemmas.Bool.{lt-ltb, le-ltb, leb-true, le-leb, lt-leb, leb-false}
use Rattle.std.proofs.lemmas.List.{take_at, drop_at, take-append-drop}
use Rattle.std.proofs.lemmas.List.Folds.{length-prefix_len}
use Rattle.std.proofs.Math.Nat.{mul-le-mul_left}
use Rattle.clex.specs.Bytes.{StopsAt}
use Rattle.clex.specs.Numbers.{radix_of, suffix_of, is_u, is_l, most, IsInteger, IsConstant}
use Rattle.clex.specs.Reading.{integer_of, number_of, in_range}
use Rattle.clex.proofs.Runs.{run_length, front_passes}

-- more digits make no smaller number
after_ge : (radix n : ℕ) (digits : List ℕ) → 0 < radix → n ≤ digits_value_after radix n digits
after_ge radix n [] positive = omega arith
after_ge radix n (d ∷ digits) positive =
    omega (arith, after_ge radix (n * radix + digit_value d) digits positive, mul-le-mul_left n (let one : 1 ≤ radix = omega arith in one))

none_false : (b : Bool) (x : ℕ) → cond b (Some x) None ≡ None → b ≡ false
none_false true x e = cc
none_false false x e = refl

-- a number that is too large with one digit more stays so
pub too_large : (radix value : ℕ) (rest : List ℕ) (total : ℕ) (r : Option ℕ) → 0 < radix → 0 < length rest
    → r ≡ cond (leb (value * radix + digit_value (get_or rest 0 0)) most) (Some (value * radix + digit_value (get_or rest 0 0))) None
    → r ≡ None → digits_value_after radix value rest ≡ total → leb total most ≡ false
too_large radix value [] total r positive some made none total_is = absurd (omega arith)
too_large radix value (d ∷ rest) total r positive some made none total_is =
    let over = leb-false _ most (none_false _ (value * radix + digit_value d) (sym made ∙ none)) in
    lt-leb total most (omega (arith, over, total_is, after_ge radix (value * radix + digit_value d) rest positive))

-- ---- digits and suffixes

digits_pass : (radix : ℕ) (digits : List ℕ) → AllDigits radix digits → list_all (λ b. is_digit b radix) digits ≡ true
digits_pass radix [] all = refl
digits_pass radix (d ∷ digits) all = and_from _ _ (lt-ltb (digit_value d) radix all.0) (digits_pass radix digits all.1)

digits_are : (radix : ℕ) (digits : List ℕ) → list_all (λ b. is_digit b radix) digits ≡ true → AllDigits radix digits
digits_are radix [] all = tt
digits_are radix (d ∷ digits) all =
    let parts = and_parts (is_digit d radix) (list_all (λ b. is_digit b radix) digits) all in
    (ltb-true (digit_value d) radix parts.0, digits_are radix digits parts.1)

-- neither letter of a suffix is a digit
u_stops : (radix b : ℕ) → radix ≤ 16 → is_u b ≡ true → is_digit b radix ≡ false
u_stops radix b small e =
    elim (or_cases (eqb b 117) (eqb b 85) e) [
      | inl is ↦ rw (eqb-true b 117 is) (le-ltb 30 radix (omega arith))
      | inr is ↦ rw (eqb-true b 85 is) (le-ltb 30 radix (omega arith))
    ]

l_stops : (radix b : ℕ) → radix ≤ 16 → is_l b ≡ true → is_digit b radix ≡ false
l_stops radix b small e =
    elim (or_cases (eqb b 108) (eqb b 76) e) [
      | inl is ↦ rw (eqb-true b 108 is) (le-ltb 21 radix (omega arith))
      | inr is ↦ rw (eqb-true b 76 is) (le-ltb 21 radix (omega arith))
    ]

either : (s t u : Bool) → cond s (Some true) (cond t (Some false) None) ≡ Some u → (s ≡ true) ⊎ (t ≡ true)
either true t u e = inl refl
either false true u e = inr refl
either false false u e = absurd cc

guarded : {X : Type 0} (t : Bool) (x y : X) → cond t (Some x) None ≡ Some y → (t ≡ true) × (x ≡ y)
guarded true x y e = (refl, cc)
guarded false x y e = absurd cc

suffix_stops : (radix : ℕ) (suffix : List ℕ) (u : Bool) → radix ≤ 16 → suffix_of suffix ≡ Some u → StopsAt (λ b. is_digit b radix) suffix
suffix_stops radix [] u small e = tt
suffix_stops radix (a ∷ []) u small e =
    elim (either (is_u a) (is_l a) u e) [ inl h ↦ u_stops radix a small h | inr h ↦ l_stops radix a small h ]
suffix_stops radix (a ∷ b ∷ []) u small e =
    elim (or_cases (is_u a && is_l b) (is_l a && is_u b) (guarded _ true u e).0) [
      | inl h ↦ u_stops radix a small (and_parts (is_u a) (is_l b) h).0
      | inr h ↦ l_stops radix a small (and_parts (is_l a) (is_u b) h).0
    ]
suffix_stops radix (a ∷ b ∷ c ∷ rest) u small e = absurd cc

-- ---- integers

integer_parts : (radix : ℕ) (digits suffix : List ℕ) (u : Bool) → radix ≤ 16 → 0 < length digits → AllDigits radix digits
    → suffix_of suffix ≡ Some u
    → digits_value radix digits ≤ most → integer_of radix (digits ++ suffix) ≡ Some (digits_value radix digits, u)
unfolding integer_of
integer_parts radix digits suffix u small some all suffix_is fits =
    let n_is = run_length (λ b. is_digit b radix) digits suffix (digits_pass radix digits all)
    (suffix_stops radix suffix u small suffix_is) in
    let not_none : eqb (length digits) 0 ≡ false = ne_eqb (length digits) 0 (λ e. omega arith) in
    let in_range_is : leb (digits_value radix digits) most ≡ true = le-leb _ _ fits in
    rw (n_is, not_none, take_at digits suffix (length digits) refl, drop_at digits suffix (length digits) refl, suffix_is, in_range_is) refl

integer_again : (radix : ℕ) (text : List ℕ) (value : ℕ) (u : Bool) → radix ≤ 16 → IsInteger radix text value u
    → integer_of radix text ≡ Some (value, u)
integer_again radix text value u small is =
    ap (integer_of radix) is.parts
    ∙ integer_parts radix is.digits is.suffix u small is.numeral.0 is.numeral.1 is.suffix_is (omega (arith, is.in_range, is.value_is))
    ∙ ap (λ (v : ℕ). Some (v, u)) (sym is.value_is)

unless_true : {X : Type 0} (t : Bool) (o : Option X) (y : X) → cond t None o ≡ Some y → (t ≡ false) × (o ≡ Some y)
unless_true true o y e = absurd cc
unless_true false o y e = (refl, e)

and_then_some : {X Y : Type 0} (f : X → Option Y) (o : Option X) (y : Y) → option_and_then f o ≡ Some y
    → (x : X) × (o ≡ Some x) × (f x ≡ Some y)
and_then_some f None y e = absurd cc
and_then_some f (Some x) y e = (x, refl, e)

integer_read : (radix : ℕ) (text : List ℕ) (n : ℕ × Bool) → integer_of radix text ≡ Some n → IsInteger radix text n.0 n.1
unfolding integer_of
integer_read radix text n e =
    let m = prefix_len (λ b. is_digit b radix) text in
    let some = unless_true (eqb m 0) _ n e in
    let suffix = and_then_some (in_range (digits_value radix (take m text))) (suffix_of (drop m text)) n some.1 in
    let value = guarded (leb (digits_value radix (take m text)) most) (digits_value radix (take m text), suffix.0) n suffix.2 in
    let value_is : n.0 ≡ digits_value radix (take m text) = ap (λ (p : ℕ × Bool). p.0) (sym value.1) in
    let positive : 0 < length (take m text) = omega (arith, length-prefix_len (λ b. is_digit b radix) text, eqb-false m 0 some.0) in
    record {
      digits = take m text;
      suffix = drop m text;
      parts = sym (take-append-drop m text);
      numeral = (positive, digits_are radix (take m text) (front_passes (λ b. is_digit b radix) text));
      value_is = value_is;
      in_range = omega (arith, value_is, leb-true (digits_value radix (take m text)) most value.0);
      suffix_is = suffix.1 ∙ ap (λ (p : ℕ × Bool). Some p.1) value.1;
    }

small_if : (t : Bool) (p q : ℕ × List ℕ) → p.0 ≤ 16 → q.0 ≤ 16 → (cond t p q).0 ≤ 16
small_if true p q hp hq = hp
small_if false p q hp hq = hq

radix_small : (spelling : List ℕ) → (radix_of spelling).0 ≤ 16
radix_small [] = lit≤ tt
radix_small (a ∷ []) = small_if (eqb a 48) (8, a ∷ []) (10, a ∷ []) (lit≤ tt) (lit≤ tt)
radix_small (a ∷ b ∷ rest) =
    small_if (eqb a 48 && (eqb b 120 || eqb b 88)) (16, rest) (cond (eqb a 48) (8, a ∷ b ∷ rest) (10, a ∷ b ∷ rest)) (lit≤ tt)
    (small_if (eqb a 48) (8, a ∷ b ∷ rest) (10, a ∷ b ∷ rest) (lit≤ tt) (lit≤ tt))

-- ---- constants

pub constant_read : (spelling : List ℕ) (n : ℕ × Bool) → number_of spelling ≡ Some n → IsConstant spelling n.0 n.1
unfolding number_of
constant_read spelling n e = integer_read (radix_of spelling).0 (radix_of spelling).1 n e

pub constant_again : (spelling : List ℕ) (value : ℕ) (u : Bool) → IsConstant spelling value u → number_of spelling ≡ Some (value, u)
unfolding number_of
constant_again spelling value u is = integer_again (radix_of spelling).0 (radix_of spelling).1 value u (radix_small spelling) is
