-- Hexadecimal numbers are read as they are printed, and nothing else is.
use Rattle.std.proofs.Common.{◌≡◌, ℕ, zero, suc, ◌+◌, ◌-◌, ◌*◌, ◌/◌, ◌%◌, ◌^◌, ◌<◌, ◌≤◌, true, false, cond, ◌&&◌, ◌==◌, List, []}
use Rattle.std.proofs.Common.{◌∷◌, ◌++◌, length, refl, sym, ap, ◌∙◌, arith, Some, None, eq-eqb, append_assoc, length-append, take}
use Rattle.std.proofs.Common.{get_or, add-one, ◌⊎◌, inl, inr}
use Rattle.std.proofs.lemmas.Bool.{and_from, and_parts, eqb-true, cases_lt, lt-ltb, le-ltb}
use Rattle.std.proofs.lemmas.Bool.Decides.{nat_tests}
use Rattle.std.proofs.lemmas.Int.Digits.{digits_value_push, digits_value_more, digits_value-lt}
use Rattle.std.proofs.lemmas.List.{append-nil}
use Rattle.std.proofs.Math.Nat.{pow-le-pow_right}
use Rattle.std.proofs.lemmas.Option.{cond_some}
use Rattle.std.proofs.lemmas.List.Folds.{list_all-append, list_all_more}
use Rattle.std.specs.Str.Parse.{digits_value, digits_value_after, AllDigits}
use Rattle.std.specs.Char.{digit_value}
use Rattle.std.specs.List.{list_all}
use Rattle.std.specs.Fmt.{digit_glyph}
use Rattle.textline.specs.Numbers.{hex_digits, is_hex_digit, hex_in}

digit_hex : (d : ℕ) → d < 10 → (is_hex_digit (48 + d) ≡ true) × (digit_value (48 + d) ≡ d)
digit_hex d small = (grind (arith, nat_tests), grind (arith, nat_tests))

letter_hex : (d : ℕ) → 10 ≤ d → d < 16 → (is_hex_digit (87 + d) ≡ true) × (digit_value (87 + d) ≡ d)
letter_hex d large small = (grind (arith, nat_tests), grind (arith, nat_tests))

glyph_hex : (d : ℕ) → d < 16 → (is_hex_digit (digit_glyph false d) ≡ true) × (digit_value (digit_glyph false d) ≡ d)
glyph_hex d small = elim (cases_lt d 10) [
  | inl low ↦ rw (lt-ltb d 10 low) (digit_hex d low)
  | inr high ↦ rw (le-ltb d 10 high) (letter_hex d high small)
]

pub hex_value : (c : ℕ) → is_hex_digit c ≡ true → ((48 ≤ c) × (c ≤ 57) × (digit_value c ≡ c - 48))
    ⊎ ((97 ≤ c) × (c ≤ 102) × (digit_value c ≡ c - 87))
hex_value c h = grind (arith, nat_tests)

hex_glyph : (c : ℕ) → is_hex_digit c ≡ true → (digit_value c < 16) × (digit_glyph false (digit_value c) ≡ c)
hex_glyph c h = elim (hex_value c h) [
  | inl low ↦ (omega (arith, low.2), rw low.2 (grind (arith, nat_tests)))
  | inr high ↦ (omega (arith, high.2), rw high.2 (grind (arith, nat_tests)))
]

-- the digits of a number below 16 ^ count
printed : (count n : ℕ) → n < 16 ^ count
    → (length (hex_digits count n) ≡ count) × (list_all is_hex_digit (hex_digits count n) ≡ true)
    × (digits_value 16 (hex_digits count n) ≡ n)
unfolding hex_digits
printed zero n small = (refl, refl, omega arith)
printed (suc count) n small =
    let below : n / 16 < 16 ^ count = omega arith in
    let front = printed count (n / 16) below in
    let last = glyph_hex (n % 16) (omega arith) in (
      length-append (hex_digits count (n / 16)) (digit_glyph false (n % 16) ∷ []) ∙ omega (arith, front.0),
      list_all-append is_hex_digit (hex_digits count (n / 16)) (digit_glyph false (n % 16) ∷ [])
          ∙ and_from _ _ front.1 (and_from _ true last.0 refl),
      digits_value_push 16 (hex_digits count (n / 16)) (digit_glyph false (n % 16)) ∙ omega (arith, front.2, last.1),
    )

pub hex_reads : (count n : ℕ) → n < 16 ^ count → hex_in count (hex_digits count n) ≡ Some n
hex_reads count n small =
    let p = printed count n small in
    ap (λ t. cond t (Some (digits_value 16 (hex_digits count n))) None) (and_from _ _ (eq-eqb _ _ p.0) p.1) ∙ ap Some p.2

-- digits that follow those of a number
followed : (cs : List ℕ) (k v : ℕ) → list_all is_hex_digit cs ≡ true
    → hex_digits k v ++ cs ≡ hex_digits (k + length cs) (digits_value_after 16 v cs)
unfolding hex_digits
followed [] k v h = append-nil (hex_digits k v) ∙ ap (λ j. hex_digits j v) (let e : k ≡ k + 0 = omega arith in e)
followed (c ∷ cs) k v h =
    let parts = and_parts (is_hex_digit c) (list_all is_hex_digit cs) h in
    let d = digit_value c in
    let g = hex_glyph c parts.0 in
    let high : (v * 16 + d) / 16 ≡ v = omega (arith, g.0) in
    let low : (v * 16 + d) % 16 ≡ d = omega (arith, g.0) in
    let more : suc k + length cs ≡ k + suc (length cs) = omega arith in
    sym (append_assoc (hex_digits k v) (c ∷ []) cs)
    ∙ ap (λ ds. ds ++ cs) (ap (λ x. hex_digits k v ++ x ∷ []) (sym g.1)
    ∙ ap (λ x. hex_digits k v ++ digit_glyph false x ∷ []) (sym low)
    ∙ ap (λ x. hex_digits k x ++ digit_glyph false ((v * 16 + d) % 16) ∷ []) (sym high))
    ∙ followed cs (suc k) (v * 16 + d) parts.1
    ∙ ap (λ j. hex_digits j (digits_value_after 16 (v * 16 + d) cs)) more

pub hex_only : (count : ℕ) (word : List ℕ) (n : ℕ) → hex_in count word ≡ Some n → word ≡ hex_digits count n
unfolding hex_digits
hex_only count word n read =
    let c = cond_some (length word == count && list_all is_hex_digit word) (digits_value 16 word) n read in
    let parts = and_parts _ _ c.0 in
    followed word 0 0 parts.1 ∙ ap (λ j. hex_digits j (digits_value 16 word))
    (let e : 0 + length word ≡ length word = omega arith in e)
    ∙ ap (λ j. hex_digits j (digits_value 16 word)) (eqb-true _ _ parts.0) ∙ ap (hex_digits count) c.1

AllDigits_hex : (word : List ℕ) → list_all is_hex_digit word ≡ true → AllDigits 16 word
AllDigits_hex [] h = tt
AllDigits_hex (c ∷ cs) h =
    let parts = and_parts (is_hex_digit c) (list_all is_hex_digit cs) h in
    ((hex_glyph c parts.0).0, AllDigits_hex cs parts.1)

-- the value of the first digits
pub hex_small : (word : List ℕ) → list_all is_hex_digit word ≡ true → digits_value 16 word < 16 ^ length word
hex_small word h = digits_value-lt 16 word (AllDigits_hex word h)

-- one digit more
pub digit_of : (c d : ℕ) → Some d ≡ cond (is_hex_digit c) (Some (digit_value c)) None
    → (is_hex_digit c ≡ true) × (digit_value c ≡ d) × (d < 16)
digit_of c d e =
    let r = cond_some (is_hex_digit c) (digit_value c) d (sym e) in
    (r.0, r.1, omega (arith, r.1, (hex_glyph c r.0).0))

pub digits_step : (word : List ℕ) (i : ℕ) → i < length word → list_all is_hex_digit (take i word) ≡ true
    → is_hex_digit (get_or word i 0) ≡ true
    → list_all is_hex_digit (take (i + 1) word) ≡ true
digits_step word i h all one = list_all_more is_hex_digit word i 0 h ∙ and_from _ _ all one

pub value_step : (word : List ℕ) (i v d : ℕ) → i < length word → v ≡ digits_value 16 (take i word) → digit_value (get_or word i 0) ≡ d
    → v * 16 + d ≡ digits_value 16 (take (i + 1) word)
value_step word i v d h e f = omega (arith, e, f, digits_value_more 16 word i h)

pub small_step : (i v d : ℕ) → v < 16 ^ i → d < 16 → v * 16 + d < 16 ^ (i + 1)
small_step i v d h k = let more : 16 ^ (i + 1) ≡ 16 ^ suc i = ap (λ j. 16 ^ j) (add-one i) in omega (arith, more)

pub room : (i v : ℕ) → i < 8 → v < 16 ^ i → v < 16 ^ 7
room i v h small = let seven : i ≤ 7 = omega arith in omega (arith, pow-le-pow_right {n = 16} (omega arith) seven)
