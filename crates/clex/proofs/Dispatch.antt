-- The next piece: what is read stands there, and what stands there is read.
use Rattle.std.proofs.Common.{◌≡◌, ℕ, true, false, eqb, ◌||◌, List, [], ◌∷◌, ◌++◌, length, take, drop, Option, Some}
use Rattle.std.proofs.Common.{None, Ok, refl, sym, ap, ◌∙◌, subst, arith, inl, inr, append_assoc}
use Rattle.std.specs.List.{prefix_len, list_all}
use Rattle.std.proofs.lemmas.Bool.{or_cases, eqb-true, eq-eqb, both_ways, cond_both}
use Rattle.std.proofs.lemmas.List.{take-append-drop, drop_at}
use Rattle.csyn.specs.declared.token.TokenKind.{TokenKind}
use Rattle.csyn.specs.declared.token.TokenKind.TheVariants as token
use Rattle.clex.specs.Bytes.{is_word_byte, is_blank, is_within_line, StopsAt}
use Rattle.clex.specs.Pieces.{ClosesOnce, IsWhite, blank, joined, line_comment, block_comment, IsPiece, BeginsNoToken}
use Rattle.clex.specs.Reading.{after_comment, comment_end, backslash_at, slash_at, literal_at, character_at, character_token, piece_at}
use Rattle.clex.proofs.Runs.{run_length, front_passes, front_stops}
use Rattle.clex.proofs.Comments.{comment_parts, comment_again}
use Rattle.clex.proofs.QuotedLemmas.{character_sound, character_again, literal_sound, literal_again}
use Rattle.clex.proofs.Words.{word_sound, identifier_again, keyword_again, number_again}
use Rattle.clex.proofs.Operators.{IsPlainByte, NotOpened, begins_none, backslash_begins_none, operator_sound, punctuator_again}
use Rattle.clex.proofs.Sound.{IsSound}

-- ---- white space that stands there is read

blank_no_word : (b : ℕ) → is_blank b ≡ true → is_word_byte b ≡ false
blank_no_word b is =
    elim (or_cases (((eqb b 32 || eqb b 9) || eqb b 10) || eqb b 12) (eqb b 13) is) [
      | inr h ↦ rw (eqb-true b 13 h) refl
      | inl g ↦ elim (or_cases ((eqb b 32 || eqb b 9) || eqb b 10) (eqb b 12) g) [
        | inr h ↦ rw (eqb-true b 12 h) refl
        | inl f ↦ elim (or_cases (eqb b 32 || eqb b 9) (eqb b 10) f) [
          | inr h ↦ rw (eqb-true b 10 h) refl
          | inl d ↦ elim (or_cases (eqb b 32) (eqb b 9) d) [
            | inl h ↦ rw (eqb-true b 32 h) refl
            | inr h ↦ rw (eqb-true b 9 h) refl
          ]
        ]
      ]
    ]

blank_again : (b : ℕ) (left : List ℕ) → is_blank b ≡ true → piece_at (b ∷ left) ≡ Ok (None, left)
unfolding piece_at
blank_again b left is = rw (blank_no_word b is, is) refl

joined_again : (left : List ℕ) → piece_at (92 ∷ 10 ∷ left) ≡ Ok (None, left)
unfolding piece_at
joined_again left = refl

line_again : (body left : List ℕ) → list_all is_within_line body ≡ true → StopsAt is_within_line left
    → piece_at ((47 ∷ 47 ∷ body) ++ left) ≡ Ok (None, left)
unfolding piece_at slash_at
line_again body left all stops = rw (run_length is_within_line body left all stops, drop_at body left (length body) refl) refl

block_again : (body left : List ℕ) → ClosesOnce body → piece_at ((47 ∷ 42 ∷ body ++ 42 ∷ 47 ∷ []) ++ left) ≡ Ok (None, left)
unfolding piece_at slash_at
block_again body left once = ap (λ (t : List ℕ). comment_end (after_comment t)) (append_assoc body (42 ∷ 47 ∷ []) left)
    ∙ ap comment_end (comment_again body left once)

white_again : (bytes left : List ℕ) → IsWhite bytes left → piece_at (bytes ++ left) ≡ Ok (None, left)
white_again bytes left (blank b e is) = ap (λ (t : List ℕ). piece_at (t ++ left)) e ∙ blank_again b left is
white_again bytes left (joined e) = ap (λ (t : List ℕ). piece_at (t ++ left)) e ∙ joined_again left
white_again bytes left (line_comment body e all stops) = ap (λ (t : List ℕ). piece_at (t ++ left)) e ∙ line_again body left all stops
white_again bytes left (block_comment body e once) = ap (λ (t : List ℕ). piece_at (t ++ left)) e ∙ block_again body left once

-- ---- what stands there is read

pub piece_again : (kind : Option TokenKind) (bytes left : List ℕ) → IsPiece kind bytes left → piece_at (bytes ++ left) ≡ Ok (kind, left)
piece_again None bytes left is = white_again bytes left is
piece_again (Some (token.Identifier name)) bytes left is = ap (λ (t : List ℕ). piece_at (t ++ left)) is.0.0
    ∙ identifier_again name left is.0.1 is.1
piece_again (Some (token.Number n)) bytes left is = ap (λ (t : List ℕ). piece_at (t ++ left)) is.0.0
    ∙ number_again n.spelling left n.value n.is_unsigned is.0.1 is.1
piece_again (Some (token.Character c)) bytes left is = ap (λ (t : List ℕ). piece_at (t ++ left)) is.0.0
    ∙ character_again c.spelling c.value left is.0.1
piece_again (Some (token.Literal text)) bytes left is = ap (λ (t : List ℕ). piece_at (t ++ left)) is.0.0 ∙ literal_again text left is.0.1
piece_again (Some (token.Keyword k)) bytes left is = keyword_again bytes left k is.0 is.1
piece_again (Some (token.Punctuator p)) bytes left is = punctuator_again bytes left p is.0 is.1
piece_again (Some (token.Standard _)) bytes left is = absurd is.0
piece_again (Some token.End) bytes left is = absurd is.0

-- ---- what is read stands there

slash_byte : IsPlainByte 47
slash_byte = record { no_word = refl; no_quote = refl; no_double_quote = refl }

alone : NotOpened (47 ∷ [])
alone longer rest e (inl o) = let whole : (47 ∷ 47 ∷ []) ++ rest ≡ 47 ∷ [] = sym (ap (λ (l : List ℕ). l ++ rest) o) ∙ e in cc
alone longer rest e (inr o) = let whole : (47 ∷ 42 ∷ []) ++ rest ≡ 47 ∷ [] = sym (ap (λ (l : List ℕ). l ++ rest) o) ∙ e in cc

otherwise : (b : ℕ) (behind : List ℕ) → eqb b 47 ≡ false → eqb b 42 ≡ false → NotOpened (47 ∷ b ∷ behind)
otherwise b behind no_line no_block longer rest e (inl o) =
    let whole : 47 ∷ 47 ∷ rest ≡ 47 ∷ b ∷ behind = sym (ap (λ (l : List ℕ). l ++ rest) o) ∙ e in
    let second : b ≡ 47 = cc in
    both_ways _ no_line (eq-eqb b 47 second)
otherwise b behind no_line no_block longer rest e (inr o) =
    let whole : 47 ∷ 42 ∷ rest ≡ 47 ∷ b ∷ behind = sym (ap (λ (l : List ℕ). l ++ rest) o) ∙ e in
    let second : b ≡ 42 = cc in
    both_ways _ no_block (eq-eqb b 42 second)

elsewhere : (b : ℕ) (behind : List ℕ) → eqb b 47 ≡ false → NotOpened (b ∷ behind)
elsewhere b behind no_slash longer rest e (inl o) =
    let whole : 47 ∷ 47 ∷ rest ≡ b ∷ behind = sym (ap (λ (l : List ℕ). l ++ rest) o) ∙ e in
    let first : b ≡ 47 = cc in
    both_ways _ no_slash (eq-eqb b 47 first)
elsewhere b behind no_slash longer rest e (inr o) =
    let whole : 47 ∷ 42 ∷ rest ≡ b ∷ behind = sym (ap (λ (l : List ℕ). l ++ rest) o) ∙ e in
    let first : b ≡ 47 = cc in
    both_ways _ no_slash (eq-eqb b 47 first)

line_sound : (behind : List ℕ) → IsSound (47 ∷ 47 ∷ behind) (Ok (None, drop (prefix_len is_within_line behind) behind))
line_sound behind =
    let n = prefix_len is_within_line behind in
    record {
      bytes = 47 ∷ 47 ∷ take n behind;
      parts = ap (λ (t : List ℕ). 47 ∷ 47 ∷ t) (sym (take-append-drop n behind));
      some = omega arith;
      is = line_comment (take n behind) refl (front_passes is_within_line behind) (front_stops is_within_line behind);
    }

block_sound : (behind : List ℕ) → IsSound (47 ∷ 42 ∷ behind) (comment_end (after_comment behind))
block_sound behind = by_end (after_comment behind) refl
  where
    by_end : (r : Option (List ℕ)) → after_comment behind ≡ r → IsSound (47 ∷ 42 ∷ behind) (comment_end r)
    by_end None e = (behind, refl)
    by_end (Some left) e =
        let closes = comment_parts behind left e in
        record {
          bytes = 47 ∷ 42 ∷ closes.body ++ 42 ∷ 47 ∷ [];
          parts = ap (λ (t : List ℕ). 47 ∷ 42 ∷ t) (closes.parts ∙ sym (append_assoc closes.body (42 ∷ 47 ∷ []) left));
          some = omega arith;
          is = block_comment closes.body refl closes.once;
        }

slash_sound : (behind : List ℕ) → IsSound (47 ∷ behind) (slash_at behind)
unfolding slash_at
slash_sound [] = operator_sound 47 [] slash_byte alone
slash_sound (b ∷ behind) =
    cond_both (eqb b 47) _ _ (IsSound (47 ∷ b ∷ behind))
    (λ h. subst (λ (c : ℕ). IsSound (47 ∷ c ∷ behind) (Ok (None, drop (prefix_len is_within_line behind) behind)))
    (sym (eqb-true b 47 h)) (line_sound behind))
    (λ no_line. cond_both (eqb b 42) _ _ (IsSound (47 ∷ b ∷ behind))
    (λ h. subst (λ (c : ℕ). IsSound (47 ∷ c ∷ behind) (comment_end (after_comment behind))) (sym (eqb-true b 42 h)) (block_sound behind))
    (λ no_block. operator_sound 47 (b ∷ behind) slash_byte (otherwise b behind no_line no_block)))

backslash_alone : (behind : List ℕ) → BeginsNoToken (92 ∷ behind)
backslash_alone behind = begins_none 92 (record { no_word = refl; no_quote = refl; no_double_quote = refl }) backslash_begins_none

backslash_sound : (behind : List ℕ) → IsSound (92 ∷ behind) (backslash_at behind)
backslash_sound [] = backslash_alone []
backslash_sound (b ∷ left) =
    cond_both (eqb b 10) _ _ (IsSound (92 ∷ b ∷ left))
    (λ h. subst (λ (c : ℕ). IsSound (92 ∷ c ∷ left) (Ok (None, left))) (sym (eqb-true b 10 h))
    (record { bytes = 92 ∷ 10 ∷ []; parts = refl; some = omega arith; is = joined refl }))
    (λ _. backslash_alone (b ∷ left))

pub piece_sound : (b : ℕ) (behind : List ℕ) → IsSound (b ∷ behind) (piece_at (b ∷ behind))
unfolding piece_at
piece_sound b behind =
    cond_both (is_word_byte b) _ _ (IsSound (b ∷ behind))
    (λ word. word_sound b behind word)
    (λ no_word. cond_both (is_blank b) _ _ (IsSound (b ∷ behind))
    (λ is. record { bytes = b ∷ []; parts = refl; some = omega arith; is = blank b refl is })
    (λ _. cond_both (eqb b 39) _ _ (IsSound (b ∷ behind))
    (λ h. subst (λ (c : ℕ). IsSound (c ∷ behind) (character_token (c ∷ behind) (character_at behind))) (sym (eqb-true b 39 h))
    (character_sound behind))
    (λ no_quote. cond_both (eqb b 34) _ _ (IsSound (b ∷ behind))
    (λ h. subst (λ (c : ℕ). IsSound (c ∷ behind) (literal_at behind)) (sym (eqb-true b 34 h)) (literal_sound behind))
    (λ no_double_quote. cond_both (eqb b 47) _ _ (IsSound (b ∷ behind))
    (λ h. subst (λ (c : ℕ). IsSound (c ∷ behind) (slash_at behind)) (sym (eqb-true b 47 h)) (slash_sound behind))
    (λ no_slash. cond_both (eqb b 92) _ _ (IsSound (b ∷ behind))
    (λ h. subst (λ (c : ℕ). IsSound (c ∷ behind) (backslash_at behind)) (sym (eqb-true b 92 h)) (backslash_sound behind))
    (λ _. operator_sound b behind (record { no_word = no_word; no_quote = no_quote; no_double_quote = no_double_quote })
    (elsewhere b behind no_slash)))))))
