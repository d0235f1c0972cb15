-- What `{:08x}` and `{:04x}` write are the digits of the definitions.
use Rattle.std.proofs.Common.{◌≡◌, ℕ, zero, suc, ◌+◌, ◌-◌, ◌/◌, ◌%◌, ◌^◌, ◌<◌, ◌≤◌, false, cond, List, [], ◌∷◌, ◌++◌, length}
use Rattle.std.proofs.Common.{replicate, refl, sym, ap, ◌∙◌, arith, append_assoc, eq-eqb, inl, inr}
use Rattle.std.proofs.lemmas.Bool.{ne_eqb, cases_lt}
use Rattle.std.proofs.lemmas.List.{append-nil}
use Rattle.std.specs.Fmt.{digits, digits_onto, digit_glyph, padded_integral, format_spec, char_count}
use Rattle.textline.specs.Numbers.{hex_digits, hex8, hex4}

-- one more copy at the end
replicate_push : (count x : ℕ) → replicate count x ++ x ∷ [] ≡ replicate (suc count) x
replicate_push zero x = refl
replicate_push (suc count) x = ap (λ xs. x ∷ xs) (replicate_push count x)

zeros : (count : ℕ) → hex_digits count 0 ≡ replicate count 48
unfolding hex_digits
zeros zero = refl
zeros (suc count) = ap (λ ds. ds ++ 48 ∷ []) (zeros count) ∙ replicate_push count 48

last_digit : (k n : ℕ) (acc : List ℕ) → n / 16 ≡ 0 → digits_onto (suc k) 16 false n acc ≡ digit_glyph false (n % 16) ∷ acc
last_digit k n acc e = ap (λ b. cond b (digit_glyph false (n % 16) ∷ acc)
    (digits_onto k 16 false (n / 16) (digit_glyph false (n % 16) ∷ acc))) (eq-eqb (n / 16) 0 e)

further_digit : (k n : ℕ) (acc : List ℕ) → (n / 16 ≡ 0 → ⊥) → digits_onto (suc k) 16 false n acc
    ≡ digits_onto k 16 false (n / 16) (digit_glyph false (n % 16) ∷ acc)
further_digit k n acc h = ap (λ b. cond b (digit_glyph false (n % 16) ∷ acc)
    (digits_onto k 16 false (n / 16) (digit_glyph false (n % 16) ∷ acc))) (ne_eqb (n / 16) 0 h)

-- all of them, with as many zeros before them as are wanting
abbrev Filled : ℕ → List ℕ → List ℕ
Filled count ds = replicate (count - length ds) 48 ++ ds

one_left : (count n : ℕ) (acc : List ℕ) → n / 16 ≡ 0
    → Filled (suc count + length acc) (digit_glyph false (n % 16) ∷ acc) ≡ hex_digits (suc count) n ++ acc
unfolding hex_digits
one_left count n acc e =
    let room : suc count + length acc - suc (length acc) ≡ count = omega arith in
    ap (λ z. replicate z 48 ++ digit_glyph false (n % 16) ∷ acc) room
    ∙ ap (λ ds. ds ++ digit_glyph false (n % 16) ∷ acc) (sym (zeros count) ∙ ap (hex_digits count) (sym e))
    ∙ sym (append_assoc (hex_digits count (n / 16)) (digit_glyph false (n % 16) ∷ []) acc)

filled : (count k n : ℕ) (acc : List ℕ) → count ≤ k → n < 16 ^ suc count
    → Filled (suc count + length acc) (digits_onto (suc k) 16 false n acc) ≡ hex_digits (suc count) n ++ acc
unfolding hex_digits
filled zero k n acc fits small =
    let e : n / 16 ≡ 0 = omega arith in
    ap (Filled (suc zero + length acc)) (last_digit k n acc e) ∙ one_left zero n acc e
filled (suc count) zero n acc fits small = absurd (omega arith)
filled (suc count) (suc k) n acc fits small = elim (cases_lt n 16) [
  | inl low ↦
      let e : n / 16 ≡ 0 = omega arith in
      ap (Filled (suc (suc count) + length acc)) (last_digit (suc k) n acc e) ∙ one_left (suc count) n acc e
  | inr high ↦
      let more : n / 16 ≡ 0 → ⊥ = λ e. omega arith in
      let below : n / 16 < 16 ^ suc count = omega arith in
      let glyph = digit_glyph false (n % 16) in
      let same : suc (suc count) + length acc ≡ suc count + length (glyph ∷ acc) = omega arith in
      ap (Filled (suc (suc count) + length acc)) (further_digit (suc k) n acc more)
      ∙ ap (λ z. Filled z (digits_onto (suc k) 16 false (n / 16) (glyph ∷ acc))) same
      ∙ filled count k (n / 16) (glyph ∷ acc) (omega arith) below
      ∙ sym (append_assoc (hex_digits (suc count) (n / 16)) (glyph ∷ []) acc)
]

opened : (n : ℕ) → digits 16 false n ≡ digits_onto 64 16 false n []
unfolding digits
opened n = refl

padded_with_zeros : (count : ℕ) (ds : List ℕ) → padded_integral (format_spec 32 0 4 count (2 ^ 64 - 1)) false [] ds ≡ Filled count ds
unfolding padded_integral char_count
padded_with_zeros count ds =
    let plain : count - length ds - 0 - 0 ≡ count - length ds = omega arith in
    ap (λ z. replicate z 48 ++ (ds ++ [])) plain ∙ ap (λ xs. replicate (count - length ds) 48 ++ xs) (append-nil ds)

hex_padded : (count n : ℕ) → count ≤ 63 → n < 16 ^ suc count
    → padded_integral (format_spec 32 0 4 (suc count) (2 ^ 64 - 1)) false [] (digits 16 false n) ≡ hex_digits (suc count) n
hex_padded count n fits small =
    padded_with_zeros (suc count) (digits 16 false n)
    ∙ ap (Filled (suc count)) (opened n)
    ∙ ap (λ z. Filled z (digits_onto 64 16 false n [])) (let e : suc count ≡ suc count + 0 = omega arith in e)
    ∙ filled count 63 n [] fits small
    ∙ append-nil (hex_digits (suc count) n)

pub hex8_text : (n : ℕ) → n < 2 ^ 32 → padded_integral (format_spec 32 0 4 8 (2 ^ 64 - 1)) false [] (digits 16 false n) ≡ hex8 n
hex8_text n small = hex_padded 7 n (omega arith) (omega arith)

pub hex4_text : (n : ℕ) → n < 2 ^ 16 → padded_integral (format_spec 32 0 4 4 (2 ^ 64 - 1)) false [] (digits 16 false n) ≡ hex4 n
hex4_text n small = hex_padded 3 n (omega arith) (omega arith)
