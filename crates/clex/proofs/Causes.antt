-- No two causes can be told of one text.
use Rattle.std.proofs.Common.{◌≡◌, ℕ, ◌<◌, ◌≤◌, true, false, eqb, List, [], ◌∷◌, refl, ap, subst, arith, ⊎_elim}
use Rattle.std.specs.Char.{digit_value, is_ascii_digit}
use Rattle.std.proofs.lemmas.Bool.{and_parts, or_cases, eqb-true, false≢true, cond_both, le-ltb, lt-ltb, leb-true}
use Rattle.csyn.specs.Punctuator.{punctuator_of}
use Rattle.csyn.specs.declared.token.TokenKind.TheVariants as token
use Rattle.csyn.specs.declared.punctuator.Punctuator.TheVariants.{Slash}
use Rattle.csyn.specs.declared.cause.Cause.{Cause}
use Rattle.csyn.specs.declared.cause.Cause.TheVariants.{L1, L2, L3, L4}
use Rattle.clex.specs.Bytes.{BeginsWith}
use Rattle.clex.specs.Numbers.{IsInteger}
use Rattle.clex.specs.Spelling.{IsNumber, plain}
use Rattle.clex.specs.Pieces.{BeginsNoToken, is_quote, Tells}

-- a digit by itself is a number

digit_small : (b : ℕ) → is_ascii_digit b ≡ true → digit_value b < 10
digit_small b is =
    let parts = and_parts _ _ is in
    let low = leb-true 48 b parts.0 in
    let high = leb-true b 57 parts.1 in
    rw (le-ltb b 48 low, lt-ltb b 58 (omega arith)) (omega arith)

single : (radix b : ℕ) → digit_value b < radix → digit_value b ≤ 4294967295 → IsInteger radix (b ∷ []) (digit_value b) false
single radix b small fits = record {
  digits = b ∷ [];
  suffix = [];
  parts = refl;
  numeral = (omega arith, (small, tt));
  value_is =
      omega arith;
  in_range = fits;
  suffix_is = refl;
}

digit_number : (b : ℕ) → is_ascii_digit b ≡ true → IsNumber (b ∷ []) (digit_value b) false
digit_number b is =
    let small = digit_small b is in
    record {
      first = b;
      run = record { others = []; parts = refl; each = rw is refl };
      digit = is;
      constant = cond_both (eqb b 48) (8, b ∷ []) (10, b ∷ []) (λ (p : ℕ × List ℕ). IsInteger p.0 p.1 (digit_value b) false)
          (λ h. let zero_digit : digit_value b ≡ 0 = ap digit_value (eqb-true b 48 h) in single 8 b (omega arith) (omega arith))
          (λ _. single 10 b small (omega arith));
    }

apart_1_2 : (text : List ℕ) → BeginsNoToken text → Tells L2 text → ⊥
unfolding punctuator_of
apart_1_2 text none opens =
    let slash = subst BeginsNoToken opens.1 none in
    slash (token.Punctuator Slash) [] refl

apart_1_3 : (text : List ℕ) → BeginsNoToken text → BeginsWith is_quote text → ⊥
apart_1_3 [] none quote = none
apart_1_3 (b ∷ behind) none quote =
    ⊎_elim
    (λ h. subst (λ (c : ℕ). BeginsNoToken (c ∷ behind)) (eqb-true b 39 h) none
    (token.Character (record { spelling = 39 ∷ 97 ∷ 39 ∷ []; value = 97 })) (97 ∷ 39 ∷ []) (refl, plain refl refl))
    (λ h. subst (λ (c : ℕ). BeginsNoToken (c ∷ behind)) (eqb-true b 34 h) none (token.Literal []) (34 ∷ []) (refl, refl))
    (or_cases (eqb b 39) (eqb b 34) quote)

apart_1_4 : (text : List ℕ) → BeginsNoToken text → BeginsWith is_ascii_digit text → ⊥
apart_1_4 [] none digit = none
apart_1_4 (b ∷ behind) none digit =
    none (token.Number (record { spelling = b ∷ []; value = digit_value b; is_unsigned = false })) [] (refl, digit_number b digit)

apart_2_3 : (text : List ℕ) → Tells L2 text → BeginsWith is_quote text → ⊥
apart_2_3 text opens quote = false≢true (subst (BeginsWith is_quote) opens.1 quote)

apart_2_4 : (text : List ℕ) → Tells L2 text → BeginsWith is_ascii_digit text → ⊥
apart_2_4 text opens digit = false≢true (subst (BeginsWith is_ascii_digit) opens.1 digit)

apart_3_4 : (text : List ℕ) → BeginsWith is_quote text → BeginsWith is_ascii_digit text → ⊥
apart_3_4 [] quote digit = quote
apart_3_4 (b ∷ behind) quote digit =
    ⊎_elim
    (λ h. false≢true (subst (λ (c : ℕ). is_ascii_digit c ≡ true) (eqb-true b 39 h) digit))
    (λ h. false≢true (subst (λ (c : ℕ). is_ascii_digit c ≡ true) (eqb-true b 34 h) digit))
    (or_cases (eqb b 39) (eqb b 34) quote)

pub tells_same : (c d : Cause) (text : List ℕ) → Tells c text → Tells d text → c ≡ d
tells_same L1 L1 text h k = refl
tells_same L1 L2 text h k = absurd (apart_1_2 text h k)
tells_same L1 L3 text h k = absurd (apart_1_3 text h k)
tells_same L1 L4 text h k = absurd (apart_1_4 text h k)
tells_same L2 L1 text h k = absurd (apart_1_2 text k h)
tells_same L2 L2 text h k = refl
tells_same L2 L3 text h k = absurd (apart_2_3 text h k)
tells_same L2 L4 text h k = absurd (apart_2_4 text h k)
tells_same L3 L1 text h k = absurd (apart_1_3 text k h)
tells_same L3 L2 text h k = absurd (apart_2_3 text k h)
tells_same L3 L3 text h k = refl
tells_same L3 L4 text h k = absurd (apart_3_4 text h k)
tells_same L4 L1 text h k = absurd (apart_1_4 text k h)
tells_same L4 L2 text h k = absurd (apart_2_4 text k h)
tells_same L4 L3 text h k = absurd (apart_3_4 text k h)
tells_same L4 L4 text h k = refl
tells_same L1 _ text h k = absurd k
tells_same L2 _ text h k = absurd k
tells_same L3 _ text h k = absurd k
tells_same L4 _ text h k = absurd k
tells_same _ d text h k = absurd h
