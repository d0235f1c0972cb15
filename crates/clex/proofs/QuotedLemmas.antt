-- Character constants and string literals: what is read is so written, and what is so written is read.
use Rattle.std.proofs.Common.{◌≡◌, ℕ, ◌+◌, ◌-◌, ◌*◌, ◌<◌, Bool, true, false, cond, eqb, ltb, ◌&&◌, List, [], ◌∷◌, ◌++◌, length}
use Rattle.std.proofs.Common.{take, drop, Option, Some, None, Ok, Err, refl, sym, ap, ◌∙◌, subst, arith, inl, inr, append_assoc}
use Rattle.std.specs.Prelude.{option_and_then}
use Rattle.std.specs.List.{prefix_len, list_all}
use Rattle.std.specs.Char.{digit_value}
use Rattle.std.proofs.lemmas.Bool.{and_parts, not-true, eqb-true, ltb-true, lt-ltb, false_from_ne_true}
use Rattle.std.proofs.lemmas.List.{take_at, drop_at, take-append-drop, length-append}
use Rattle.csyn.specs.declared.token.TokenKind.TheVariants as token
use Rattle.csyn.specs.declared.cause.Cause.TheVariants as cause
use Rattle.clex.specs.Bytes.{is_plain_character, is_literal_byte}
use Rattle.clex.specs.Spelling.{IsCharacter, plain, escaped, hexadecimal, escape}
use Rattle.clex.specs.Reading.{closed_at, hexadecimal_at, escape_at, character_at, character_token, literal_token, literal_at, piece_at}
use Rattle.clex.proofs.Runs.{run_length, front_passes}
use Rattle.clex.proofs.Choices.{chosen, if_some}
use Rattle.clex.proofs.Sound.{IsSound}

guarded : {X : Type 0} (t : Bool) (x y : X) → cond t (Some x) None ≡ Some y → (t ≡ true) × (x ≡ y)
guarded true x y e = (refl, cc)
guarded false x y e = absurd cc

and_then_some : {X Y : Type 0} (f : X → Option Y) (o : Option X) (y : Y) → option_and_then f o ≡ Some y
    → (x : X) × (o ≡ Some x) × (f x ≡ Some y)
and_then_some f None y e = absurd cc
and_then_some f (Some x) y e = (x, refl, e)

-- ---- character constants, behind their opening quote

pub record Reads (behind : List ℕ) (c : ℕ × List ℕ) : Type 0 where
  pub front : List ℕ
  pub parts : behind ≡ front ++ c.1
  pub is : IsCharacter (39 ∷ front) c.0

closed_parts : (value : ℕ) (text : List ℕ) (c : ℕ × List ℕ) → closed_at value text ≡ Some c → (text ≡ 39 ∷ c.1) × (value ≡ c.0)
closed_parts value [] c e = absurd cc
closed_parts value (b ∷ left) c e =
    let g = guarded (eqb b 39) (value, left) c e in
    let quote = eqb-true b 39 g.0 in
    let left_is : left ≡ c.1 = ap (λ (p : ℕ × List ℕ). p.1) g.1 in
    (cc, ap (λ (p : ℕ × List ℕ). p.0) g.1)

hexadecimal_parts : (text : List ℕ) (c : ℕ × List ℕ) → hexadecimal_at text ≡ Some c → Reads (92 ∷ 120 ∷ text) c
hexadecimal_parts [] c e = absurd cc
hexadecimal_parts (high ∷ []) c e = absurd cc
hexadecimal_parts (high ∷ low ∷ behind) c e =
    let g = if_some (ltb (digit_value high) 16 && ltb (digit_value low) 16)
    (closed_at (16 * digit_value high + digit_value low) behind) c e in
    let digits = and_parts (ltb (digit_value high) 16) (ltb (digit_value low) 16) g.0 in
    let closing = closed_parts (16 * digit_value high + digit_value low) behind c g.1 in
    record {
      front = 92 ∷ 120 ∷ high ∷ low ∷ 39 ∷ [];
      parts = ap (λ (t : List ℕ). 92 ∷ 120 ∷ high ∷ low ∷ t) closing.0;
      is = hexadecimal high low refl (ltb-true _ _ digits.0) (ltb-true _ _ digits.1) (sym closing.1);
    }

escape_parts : (text : List ℕ) (c : ℕ × List ℕ) → escape_at text ≡ Some c → Reads (92 ∷ text) c
escape_parts [] c e = absurd cc
escape_parts (x ∷ behind) c e =
    elim (chosen (eqb x 120) (hexadecimal_at behind) (option_and_then (λ value. closed_at value behind) (escape x)) (Some c) e) [
      | inl h ↦ subst (λ (y : ℕ). Reads (92 ∷ y ∷ behind) c) (sym (eqb-true x 120 h.0)) (hexadecimal_parts behind c h.1)
      | inr h ↦ simple (and_then_some (λ value. closed_at value behind) (escape x) c h.1)
    ]
  where
    simple : (value : ℕ) × (escape x ≡ Some value) × (closed_at value behind ≡ Some c) → Reads (92 ∷ x ∷ behind) c
    simple s =
        let closing = closed_parts s.0 behind c s.2 in
        record {
          front = 92 ∷ x ∷ 39 ∷ [];
          parts = ap (λ (t : List ℕ). 92 ∷ x ∷ t) closing.0;
          is = escaped x refl (s.1 ∙ ap (λ (v : ℕ). Some v) closing.1);
        }

pub character_parts : (behind : List ℕ) (c : ℕ × List ℕ) → character_at behind ≡ Some c → Reads behind c
unfolding character_at
character_parts [] c e = absurd cc
character_parts (b ∷ behind) c e =
    elim (chosen (eqb b 92) (escape_at behind) (cond (is_plain_character b) (closed_at b behind) None) (Some c) e) [
      | inl h ↦ subst (λ (y : ℕ). Reads (y ∷ behind) c) (sym (eqb-true b 92 h.0)) (escape_parts behind c h.1)
      | inr h ↦ itself (if_some (is_plain_character b) (closed_at b behind) c h.1)
    ]
  where
    itself : (is_plain_character b ≡ true) × (closed_at b behind ≡ Some c) → Reads (b ∷ behind) c
    itself s =
        let closing = closed_parts b behind c s.1 in
        record {
          front = b ∷ 39 ∷ [];
          parts = ap (λ (t : List ℕ). b ∷ t) closing.0;
          is = plain (ap (λ (v : ℕ). 39 ∷ v ∷ 39 ∷ []) closing.1) (ap is_plain_character (sym closing.1) ∙ s.0);
        }

pub character_sound : (behind : List ℕ) → IsSound (39 ∷ behind) (character_token (39 ∷ behind) (character_at behind))
character_sound behind = by_value (character_at behind) refl
  where
    by_value : (r : Option (ℕ × List ℕ)) → character_at behind ≡ r → IsSound (39 ∷ behind) (character_token (39 ∷ behind) r)
    by_value None e = refl
    by_value (Some c) e =
        let reads = character_parts behind c e in
        let text = 39 ∷ behind in
        let whole : 39 ∷ behind ≡ (39 ∷ reads.front) ++ c.1 = ap (λ (t : List ℕ). 39 ∷ t) reads.parts in
        let long : length (39 ∷ reads.front) ≡ length (39 ∷ behind) - length c.1 =
        omega (arith, ap length reads.parts, length-append reads.front c.1) in
        let spelling : 39 ∷ reads.front ≡ take (length (39 ∷ behind) - length c.1) (39 ∷ behind) =
        sym (ap (λ (t : List ℕ). take (length (39 ∷ behind) - length c.1) t) whole ∙ take_at (39 ∷ reads.front) c.1 _ long)
        in
        record {
          bytes = 39 ∷ reads.front;
          parts = whole;
          some = omega arith;
          is = ((spelling, subst (λ (s : List ℕ). IsCharacter s c.0) spelling reads.is), tt);
        }

-- a character constant and what is left
character_front : (front left : List ℕ) (value : ℕ) → character_at (front ++ left) ≡ Some (value, left)
    → piece_at ((39 ∷ front) ++ left) ≡ Ok (Some (token.Character (record { spelling = 39 ∷ front; value = value })), left)
unfolding piece_at
character_front front left value e =
    let long : length (39 ∷ front) ≡ length (39 ∷ front ++ left) - length left = omega (arith, length-append front left) in
    rw (e, take_at (39 ∷ front) left (length (39 ∷ front ++ left) - length left) long) refl

plain_again : (value : ℕ) (left : List ℕ) → is_plain_character value ≡ true → character_at (value ∷ 39 ∷ left) ≡ Some (value, left)
unfolding character_at
plain_again value left is =
    let no_backslash = not-true (eqb value 92) (and_parts _ _ is).1 in
    rw (is, no_backslash) refl

escaped_again : (e value : ℕ) (left : List ℕ) → escape e ≡ Some value → character_at (92 ∷ e ∷ 39 ∷ left) ≡ Some (value, left)
unfolding character_at
escaped_again e value left is =
    let no_x = false_from_ne_true (eqb e 120) (λ h. let none : escape e ≡ None = ap escape (eqb-true e 120 h) in cc) in
    rw (no_x, is) refl

hexadecimal_again : (high low : ℕ) (left : List ℕ) → digit_value high < 16 → digit_value low < 16
    → character_at (92 ∷ 120 ∷ high ∷ low ∷ 39 ∷ left) ≡ Some (16 * digit_value high + digit_value low, left)
unfolding character_at
hexadecimal_again high low left h l = rw (lt-ltb (digit_value high) 16 h, lt-ltb (digit_value low) 16 l) refl

pub character_again : (bytes : List ℕ) (value : ℕ) (left : List ℕ) → IsCharacter bytes value
    → piece_at (bytes ++ left) ≡ Ok (Some (token.Character (record { spelling = bytes; value = value })), left)
character_again bytes value left (plain e is) =
    subst (λ (b : List ℕ). piece_at (b ++ left) ≡ Ok (Some (token.Character (record { spelling = b; value = value })), left)) (sym e)
    (character_front (value ∷ 39 ∷ []) left value (plain_again value left is))
character_again bytes value left (escaped x e is) =
    subst (λ (b : List ℕ). piece_at (b ++ left) ≡ Ok (Some (token.Character (record { spelling = b; value = value })), left)) (sym e)
    (character_front (92 ∷ x ∷ 39 ∷ []) left value (escaped_again x value left is))
character_again bytes value left (hexadecimal high low e h l is) =
    subst (λ (b : List ℕ). piece_at (b ++ left) ≡ Ok (Some (token.Character (record { spelling = b; value = value })), left)) (sym e)
    (character_front (92 ∷ 120 ∷ high ∷ low ∷ 39 ∷ []) left value
    (hexadecimal_again high low left h l ∙ ap (λ (v : ℕ). Some (v, left)) (sym is)))

-- ---- string literals

literal_front : (behind bytes rest : List ℕ) → behind ≡ bytes ++ rest → list_all is_literal_byte bytes ≡ true
    → IsSound (34 ∷ behind) (literal_token bytes rest)
literal_front behind bytes [] parts all = refl
literal_front behind bytes (b ∷ left) parts all = by_test (eqb b 34) refl
  where
    by_test : (t : Bool) → eqb b 34 ≡ t → IsSound (34 ∷ behind) (cond t (Ok (Some (token.Literal bytes), left)) (Err cause.L3))
    by_test false e = refl
    by_test true e =
        let quote = eqb-true b 34 e in
        let whole : 34 ∷ behind ≡ (34 ∷ bytes ++ 34 ∷ []) ++ left =
        ap (λ (t : List ℕ). 34 ∷ t) (parts ∙ ap (λ (q : ℕ). bytes ++ q ∷ left) quote ∙ sym (append_assoc bytes (34 ∷ []) left))
        in
        record { bytes = 34 ∷ bytes ++ 34 ∷ []; parts = whole; some = omega arith; is = ((refl, all), tt) }

pub literal_sound : (behind : List ℕ) → IsSound (34 ∷ behind) (literal_at behind)
unfolding literal_at
literal_sound behind =
    let n = prefix_len is_literal_byte behind in
    literal_front behind (take n behind) (drop n behind) (sym (take-append-drop n behind)) (front_passes is_literal_byte behind)

literal_read : (text left : List ℕ) → list_all is_literal_byte text ≡ true
    → literal_at (text ++ 34 ∷ left) ≡ Ok (Some (token.Literal text), left)
unfolding literal_at
literal_read text left all =
    rw (
      run_length is_literal_byte text (34 ∷ left) all refl,
      take_at text (34 ∷ left) (length text) refl,
      drop_at text (34 ∷ left)
          (length text) refl,
    ) refl

pub literal_again : (text left : List ℕ) → list_all is_literal_byte text ≡ true
    → piece_at ((34 ∷ text ++ 34 ∷ []) ++ left) ≡ Ok (Some (token.Literal text), left)
unfolding piece_at
literal_again text left all = ap literal_at (append_assoc text (34 ∷ []) left) ∙ literal_read text left all
