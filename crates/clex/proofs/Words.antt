-- Identifiers, keywords and numbers: what is read is so written, and what is so written is read.
use Rattle.std.proofs.Common.{◌≡◌, ℕ, ◌<◌, Bool, true, false, cond, not, ◌&&◌, List, [], ◌∷◌, ◌++◌, length, take}
use Rattle.std.proofs.Common.{drop, Option, Some, None, Ok, refl, sym, ap, ◌∙◌, subst, arith}
use Rattle.std.specs.List.{prefix_len, list_all}
use Rattle.std.specs.Char.{is_ascii_digit}
use Rattle.std.proofs.lemmas.Bool.{and_parts, not-true, cond_both}
use Rattle.std.proofs.lemmas.List.{take_at, drop_at, take-append-drop}
use Rattle.csyn.specs.declared.keyword.Keyword.{Keyword}
use Rattle.csyn.specs.declared.token.TokenKind.TheVariants as token
use Rattle.csyn.specs.Keyword.{keywords, keyword_of}
use Rattle.clex.specs.Bytes.{is_word_byte, StopsAt}
use Rattle.clex.specs.Spelling.{IsRun, IsIdentifier, IsNumber}
use Rattle.clex.specs.Reading.{number_of, number_token, name_token, word_at, piece_at}
use Rattle.clex.proofs.Runs.{run_length, front_passes, front_stops, front_begins}
use Rattle.clex.proofs.Numbers.{constant_read, constant_again}
use Rattle.clex.proofs.Tables.{spelling_passes}
use Rattle.clex.proofs.Sound.{IsSound}

-- ---- keywords

abbrev is_name : List ℕ → Bool
is_name [] = false
is_name (b ∷ bytes) = (is_word_byte b && list_all is_word_byte bytes) && not (is_ascii_digit b)

keywords_are_names : list_all (λ e. is_name e.0) keywords ≡ true
keywords_are_names = refl

-- a run of letters, digits and `_` with no digit first
pub record IsName (bytes : List ℕ) : Type 0 where
  pub first : ℕ
  pub run : IsRun first bytes
  pub no_digit : is_ascii_digit first ≡ false

name_from : (bytes : List ℕ) → is_name bytes ≡ true → IsName bytes
name_from [] e = absurd cc
name_from (b ∷ bytes) e =
    let parts = and_parts (is_word_byte b && list_all is_word_byte bytes) (not (is_ascii_digit b)) e in
    record { first = b; run = record { others = bytes; parts = refl; each = parts.0 }; no_digit = not-true _ parts.1 }

pub keyword_is_name : (bytes : List ℕ) (k : Keyword) → keyword_of bytes ≡ Some k → IsName bytes
unfolding keyword_of
keyword_is_name bytes k e = name_from bytes (spelling_passes is_name keywords bytes k keywords_are_names e)

-- ---- what is read

run_some : (first : ℕ) (bytes : List ℕ) → IsRun first bytes → 0 < length bytes
run_some first bytes run = omega (arith, ap length run.parts)

-- the run at the front of a text that begins with a letter, a digit or `_`
pub record Runs (first : ℕ) (behind word left : List ℕ) : Type 0 where
  pub parts : first ∷ behind ≡ word ++ left
  pub run : IsRun first word
  pub stops : StopsAt is_word_byte left

number_sound : (first : ℕ) (behind word left : List ℕ) → Runs first behind word left → is_ascii_digit first ≡ true
    → (r : Option (ℕ × Bool)) → number_of word ≡ r
    → IsSound (first ∷ behind) (number_token word left r)
number_sound first behind word left runs digit None e = digit
number_sound first behind word left runs digit (Some n) e = record {
  bytes = word;
  parts = runs.parts;
  some = run_some first word runs.run;
  is = ((refl, record { first = first; run = runs.run; digit = digit; constant = constant_read word n e }), runs.stops);
}

name_sound : (first : ℕ) (behind word left : List ℕ) → Runs first behind word left → is_ascii_digit first ≡ false
    → (r : Option Keyword) → keyword_of word ≡ r
    → IsSound (first ∷ behind) (name_token word left r)
name_sound first behind word left runs no_digit None e = record {
  bytes = word;
  parts = runs.parts;
  some = run_some first word runs.run;
  is = ((refl, record { first = first; run = runs.run; no_digit = no_digit; no_keyword = e }), runs.stops);
}
name_sound first behind word left runs no_digit (Some k) e =
    record { bytes = word; parts = runs.parts; some = run_some first word runs.run; is = (e, runs.stops) }

pub word_sound : (first : ℕ) (behind : List ℕ) → is_word_byte first ≡ true → IsSound (first ∷ behind) (word_at first (first ∷ behind))
unfolding word_at
word_sound first behind passes =
    let n = prefix_len is_word_byte (first ∷ behind) in
    let word = take n (first ∷ behind) in
    let left = drop n (first ∷ behind) in
    let runs : Runs first behind word left = record {
      parts = sym (take-append-drop n (first ∷ behind));
      run = record {
        others = take (prefix_len is_word_byte behind) behind;
        parts = front_begins is_word_byte first behind passes;
        each = front_passes is_word_byte (first ∷ behind);
      };
      stops = front_stops is_word_byte (first ∷ behind);
    } in
    cond_both (is_ascii_digit first) _ _ (IsSound (first ∷ behind))
    (λ digit. number_sound first behind word left runs digit (number_of word) refl)
    (λ no_digit. name_sound first behind word left runs no_digit (keyword_of word) refl)

-- ---- what is written

word_read : (first : ℕ) (others left : List ℕ) → list_all is_word_byte (first ∷ others) ≡ true → StopsAt is_word_byte left
    → piece_at ((first ∷ others) ++ left)
    ≡ cond (is_ascii_digit first) (number_token (first ∷ others) left (number_of (first ∷ others)))
    (name_token (first ∷ others) left (keyword_of (first ∷ others)))
unfolding piece_at word_at
word_read first others left all stops =
    let word = first ∷ others in
    rw (
      run_length is_word_byte word left all stops,
      (and_parts (is_word_byte first) (list_all is_word_byte others) all).0,
      take_at
          word left (length word) refl,
      drop_at word left (length word) refl,
    ) refl

run_read : (first : ℕ) (bytes left : List ℕ) → IsRun first bytes → StopsAt is_word_byte left
    → piece_at (bytes ++ left) ≡ cond (is_ascii_digit first) (number_token bytes left (number_of bytes))
    (name_token bytes left (keyword_of bytes))
run_read first bytes left run stops =
    let all = subst (λ (b : List ℕ). list_all is_word_byte b ≡ true) run.parts run.each in
    subst (λ (b : List ℕ). piece_at (b ++ left) ≡ cond (is_ascii_digit first) (number_token b left (number_of b))
    (name_token b left (keyword_of b))) (sym run.parts)
    (word_read first run.others left all stops)

pub identifier_again : (bytes left : List ℕ) → IsIdentifier bytes → StopsAt is_word_byte left
    → piece_at (bytes ++ left) ≡ Ok (Some (token.Identifier bytes), left)
identifier_again bytes left is stops = run_read is.first bytes left is.run stops ∙ rw (is.no_digit, is.no_keyword) refl

pub keyword_again : (bytes left : List ℕ) (k : Keyword) → keyword_of bytes ≡ Some k → StopsAt is_word_byte left
    → piece_at (bytes ++ left) ≡ Ok (Some (token.Keyword k), left)
keyword_again bytes left k is stops =
    let name = keyword_is_name bytes k is in
    run_read name.first bytes left name.run stops ∙ rw (name.no_digit, is) refl

pub number_again : (bytes left : List ℕ) (value : ℕ) (u : Bool) → IsNumber bytes value u → StopsAt is_word_byte left
    → piece_at (bytes ++ left) ≡ Ok (Some (token.Number (record { spelling = bytes; value = value; is_unsigned = u })), left)
number_again bytes left value u is stops =
    run_read is.first bytes left is.run stops ∙ rw (is.digit, constant_again bytes value u is.constant) refl
