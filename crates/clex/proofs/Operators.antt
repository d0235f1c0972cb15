-- Punctuators: the one that is read is the longest, and the longest is read; and bytes that begin no token.
use Rattle.std.proofs.Common.{◌≡◌, ℕ, ◌<◌, Bool, true, false, cond, eqb, not, ◌&&◌, ◌||◌, List, [], ◌∷◌, ◌++◌, length, drop}
use Rattle.std.proofs.Common.{Option, Some, None, Ok, refl, sym, ap, ◌∙◌, subst, arith, inl, inr, ⊎_elim, nat_eq}
use Rattle.std.specs.Prelude.{is_some}
use Rattle.std.specs.Option.{option_map}
use Rattle.std.specs.List.{list_all, starts_with}
use Rattle.std.proofs.lemmas.Bool.{and_parts, and_from, not-true, eqb-true, eq-eqb, cases_lt, both_ways}
use Rattle.std.proofs.lemmas.Bool.{false≢true, false_from_ne_true, or_left, or_right}
use Rattle.csyn.specs.Table.{spelled}
use Rattle.csyn.specs.Punctuator.{punctuators, punctuator_of}
use Rattle.csyn.specs.declared.punctuator.Punctuator.{Punctuator}
use Rattle.csyn.specs.declared.token.TokenKind.{TokenKind}
use Rattle.csyn.specs.declared.token.TokenKind.TheVariants as token
use Rattle.clex.specs.Bytes.{is_word_byte, is_blank}
use Rattle.clex.specs.Spelling.{Writes, IsCharacter, plain, escaped, hexadecimal, OpensComment, IsLongestOperator}
use Rattle.clex.specs.Reading.{front_in, operator_token, operator_at, slash_at, backslash_at, piece_at}
use Rattle.clex.proofs.Choices.{same_front}
use Rattle.clex.proofs.Tables.{spelling_passes, front_from, front_is, is_descending, none_front, entry_at, entry_longest}
use Rattle.clex.proofs.Words.{keyword_is_name}
use Rattle.clex.proofs.Sound.{IsSound}

-- ---- the table, by computation

abbrev is_operator_byte : ℕ → Bool
is_operator_byte b = ((not (is_word_byte b) && not (is_blank b)) && (not (eqb b 39) && not (eqb b 34))) && not (eqb b 92)

abbrev opens_no_comment : ℕ → List ℕ → Bool
opens_no_comment b [] = true
opens_no_comment b (c ∷ _) = not (eqb b 47 && (eqb c 47 || eqb c 42))

abbrev is_operator : List ℕ → Bool
is_operator [] = false
is_operator (b ∷ bytes) = (is_operator_byte b && is_some (spelled punctuators (b ∷ []))) && opens_no_comment b bytes

operators_pass : list_all (λ e. is_operator e.0) punctuators ≡ true
operators_pass = refl

longest_first : is_descending punctuators ≡ true
longest_first = refl

operator_passes : (bytes : List ℕ) (p : Punctuator) → spelled punctuators bytes ≡ Some p → is_operator bytes ≡ true
operator_passes bytes p e = spelling_passes is_operator punctuators bytes p operators_pass e

operator_some : (bytes : List ℕ) → is_operator bytes ≡ true → 0 < length bytes
operator_some [] e = absurd cc
operator_some (b ∷ bytes) e = omega arith

-- what the first byte of a punctuator is not
pub record IsOperatorByte (b : ℕ) : Type 0 where
  pub no_word : is_word_byte b ≡ false
  pub no_blank : is_blank b ≡ false
  pub no_quote : eqb b 39 ≡ false
  pub no_double_quote : eqb b 34 ≡ false
  pub no_backslash : eqb b 92 ≡ false

operator_byte : (b : ℕ) → is_operator_byte b ≡ true → IsOperatorByte b
operator_byte b e =
    let a = and_parts ((not (is_word_byte b) && not (is_blank b)) && (not (eqb b 39) && not (eqb b 34))) (not (eqb b 92)) e in
    let c = and_parts (not (is_word_byte b) && not (is_blank b)) (not (eqb b 39) && not (eqb b 34)) a.0 in
    let d = and_parts (not (is_word_byte b)) (not (is_blank b)) c.0 in
    let f = and_parts (not (eqb b 39)) (not (eqb b 34)) c.1 in
    record {
      no_word = not-true _ d.0;
      no_blank = not-true _ d.1;
      no_quote = not-true _ f.0;
      no_double_quote = not-true _ f.1;
      no_backslash = not-true _ a.1;
    }

pub operator_first : (bytes : List ℕ) (p : Punctuator) → punctuator_of bytes ≡ Some p
    → (b : ℕ) × (others : List ℕ) × (bytes ≡ b ∷ others) × IsOperatorByte b
unfolding punctuator_of
operator_first [] p e = absurd (false≢true (operator_passes [] p e))
operator_first (b ∷ others) p e =
    let passes = and_parts (is_operator_byte b && is_some (spelled punctuators (b ∷ []))) (opens_no_comment b others)
    (operator_passes (b ∷ others) p e) in
    (b, others, refl, operator_byte b (and_parts (is_operator_byte b) (is_some (spelled punctuators (b ∷ []))) passes.0).0)

-- ---- bytes that begin no token

pub record IsPlainByte (b : ℕ) : Type 0 where
  pub no_word : is_word_byte b ≡ false
  pub no_quote : eqb b 39 ≡ false
  pub no_double_quote : eqb b 34 ≡ false

no_character : (b value : ℕ) (others spelling : List ℕ) → eqb b 39 ≡ false → b ∷ others ≡ spelling → IsCharacter spelling value → ⊥
no_character b value others spelling no_quote e (plain is _) = let quote : b ≡ 39 = cc in both_ways _ no_quote (eq-eqb b 39 quote)
no_character b value others spelling no_quote e (escaped x is _) = let quote : b ≡ 39 = cc in both_ways _ no_quote (eq-eqb b 39 quote)
no_character b value others spelling no_quote e (hexadecimal h l is _ _ _) = let quote : b ≡ 39 = cc in
    both_ways _ no_quote (eq-eqb b 39 quote)

no_run : (b : ℕ) (others bytes : List ℕ) → is_word_byte b ≡ false → b ∷ others ≡ bytes → list_all is_word_byte bytes ≡ true → ⊥
no_run b others bytes no_word e all =
    both_ways _ no_word (and_parts (is_word_byte b) (list_all is_word_byte others) (ap (list_all is_word_byte) e ∙ all)).0

pub begins_none : (b : ℕ) → IsPlainByte b → ((others : List ℕ) (p : Punctuator) → punctuator_of (b ∷ others) ≡ Some p → ⊥)
    → (kind : TokenKind) (others : List ℕ) → Writes kind (b ∷ others) → ⊥
begins_none b is apart (token.Identifier name) others w = no_run b others name is.no_word w.0 w.1.run.each
begins_none b is apart (token.Number n) others w = no_run b others n.spelling is.no_word w.0 w.1.run.each
begins_none b is apart (token.Character c) others w = no_character b c.value others c.spelling is.no_quote w.0 w.1
begins_none b is apart (token.Literal text) others w = let quote : b ≡ 34 = cc in both_ways _ is.no_double_quote (eq-eqb b 34 quote)
begins_none b is apart (token.Keyword k) others w = no_run b others (b ∷ others) is.no_word refl (keyword_is_name (b ∷ others) k w).run.each
begins_none b is apart (token.Punctuator p) others w = apart others p w
begins_none b is apart (token.Standard _) others w = w
begins_none b is apart token.End others w = w

-- no punctuator begins with a backslash
pub backslash_begins_none : (others : List ℕ) (p : Punctuator) → punctuator_of (92 ∷ others) ≡ Some p → ⊥
unfolding punctuator_of
backslash_begins_none others p e =
    let passes = and_parts (is_operator_byte 92 && is_some (spelled punctuators (92 ∷ []))) (opens_no_comment 92 others)
    (operator_passes (92 ∷ others) p e) in
    false≢true passes.0

some_value : {X : Type 0} (o : Option X) → is_some o ≡ true → (x : X) × (o ≡ Some x)
some_value None e = absurd cc
some_value (Some x) e = (x, refl)

-- where no entry stands, none begins with the byte
nothing_begins : (b : ℕ) (behind : List ℕ) → front_in punctuators (b ∷ behind) ≡ None → (others : List ℕ) (p : Punctuator)
    → punctuator_of (b ∷ others) ≡ Some p → ⊥
unfolding punctuator_of
nothing_begins b behind none others p e =
    let passes = and_parts (is_operator_byte b && is_some (spelled punctuators (b ∷ []))) (opens_no_comment b others)
    (operator_passes (b ∷ others) p e) in
    let single = some_value (spelled punctuators (b ∷ [])) (and_parts (is_operator_byte b) (is_some (spelled punctuators (b ∷ [])))
    passes.0).1 in
    both_ways _ (none_front punctuators (b ∷ behind) (b ∷ []) single.0 none single.1) (front_is (b ∷ []) behind)

-- ---- what is read

-- no comment begins there
abbrev pub NotOpened : List ℕ → Type 0
NotOpened text = (longer rest : List ℕ) → longer ++ rest ≡ text → OpensComment longer → ⊥

pub operator_sound : (b : ℕ) (behind : List ℕ) → IsPlainByte b → NotOpened (b ∷ behind) → IsSound (b ∷ behind) (operator_at (b ∷ behind))
unfolding operator_at punctuator_of
operator_sound b behind is apart = by_entry (front_in punctuators (b ∷ behind)) refl
  where
    by_entry : (r : Option (List ℕ × Punctuator)) → front_in punctuators (b ∷ behind) ≡ r
        → IsSound (b ∷ behind) (operator_token (b ∷ behind) (option_map (λ e. (length e.0, e.1)) r))
    by_entry None e = begins_none b is (nothing_begins b behind e)
    by_entry (Some entry) e =
        let at = entry_at punctuators (b ∷ behind) entry e in
        let parts = front_from (b ∷ behind) entry.0 at.front in
        let longest : IsLongestOperator entry.0 (drop (length entry.0) (b ∷ behind)) = λ longer rest whole lt operator. ⊎_elim
        (λ p.
        let front : starts_with nat_eq (b ∷ behind) longer ≡ true =
        subst (λ (t : List ℕ). starts_with nat_eq t longer ≡ true) (whole ∙ sym parts) (front_is longer rest) in
        let le = entry_longest punctuators (b ∷ behind) longer entry p.0 longest_first e p.1 front in omega arith)
        (λ opens. apart longer rest (whole ∙ sym parts) opens)
        operator
        in
        record {
          bytes = entry.0;
          parts = parts;
          some = operator_some entry.0 (operator_passes entry.0 entry.1 at.is);
          is =
              (at.is, longest);
        }

-- ---- what is written

pub operator_again : (bytes left : List ℕ) (p : Punctuator) → punctuator_of bytes ≡ Some p → IsLongestOperator bytes left
    → operator_at (bytes ++ left) ≡ Ok (Some (token.Punctuator p), left)
unfolding operator_at punctuator_of
operator_again bytes left p is longest = by_entry (front_in punctuators (bytes ++ left)) refl
  where
    by_entry : (r : Option (List ℕ × Punctuator)) → front_in punctuators (bytes ++ left) ≡ r
        → operator_token (bytes ++ left) (option_map (λ e. (length e.0, e.1)) r) ≡ Ok (Some (token.Punctuator p), left)
    by_entry None e = absurd (both_ways _ (none_front punctuators (bytes ++ left) bytes p e is) (front_is bytes left))
    by_entry (Some entry) e =
        let at = entry_at punctuators (bytes ++ left) entry e in
        let parts = front_from (bytes ++ left) entry.0 at.front in
        let no_shorter = entry_longest punctuators (bytes ++ left) bytes entry p longest_first e is (front_is bytes left) in
        ⊎_elim
        (λ lt. absurd (longest entry.0 (drop (length entry.0) (bytes ++ left)) (sym parts) lt (inl (entry.1, at.is))))
        (λ le.
        let same = same_front entry.0 bytes (drop (length entry.0) (bytes ++ left)) left (sym parts) (omega arith) in
        let own : Some entry.1 ≡ Some p = sym at.is ∙ ap (spelled punctuators) same.0 ∙ is in
        let kind : entry.1 ≡ p = cc in
        ap (λ (l : List ℕ). Ok (Some (token.Punctuator entry.1), l)) same.1
        ∙ ap (λ (q : Punctuator). Ok (Some (token.Punctuator q), left)) kind)
        (cases_lt (length bytes) (length entry.0))

-- a `/` that begins no comment
slash_plain : (behind : List ℕ) → NotOpened (47 ∷ behind) → slash_at behind ≡ operator_at (47 ∷ behind)
unfolding slash_at
slash_plain [] apart = refl
slash_plain (b ∷ behind) apart =
    let no_line : eqb b 47 ≡ false = false_from_ne_true (eqb b 47)
    (λ h. apart (47 ∷ 47 ∷ []) behind (ap (λ (c : ℕ). 47 ∷ c ∷ behind) (sym (eqb-true b 47 h))) (inl refl)) in
    let no_block : eqb b 42 ≡ false = false_from_ne_true (eqb b 42)
    (λ h. apart (47 ∷ 42 ∷ []) behind (ap (λ (c : ℕ). 47 ∷ c ∷ behind) (sym (eqb-true b 42 h))) (inr refl)) in
    rw (no_line, no_block) refl

-- a punctuator that is the longest begins no comment
not_opened : (b : ℕ) (others left : List ℕ) → opens_no_comment b others ≡ true → IsLongestOperator (b ∷ others) left
    → NotOpened ((b ∷ others) ++ left)
not_opened b [] left passes longest longer rest whole opens =
    let two : 1 < length longer = ⊎_elim (λ e. omega (arith, ap length e)) (λ e. omega (arith, ap length e)) opens in
    longest longer rest whole two (inr opens)
not_opened b (c ∷ others) left passes longest longer rest whole (inl e) =
    let heads : 47 ∷ 47 ∷ rest ≡ b ∷ c ∷ others ++ left = sym (ap (λ (l : List ℕ). l ++ rest) e) ∙ whole in
    let first : b ≡ 47 = cc in
    let second : c ≡ 47 = cc in
    both_ways _ (not-true _ passes) (and_from _ _ (eq-eqb b 47 first) (or_left _ (eqb c 42) (eq-eqb c 47 second)))
not_opened b (c ∷ others) left passes longest longer rest whole (inr e) =
    let heads : 47 ∷ 42 ∷ rest ≡ b ∷ c ∷ others ++ left = sym (ap (λ (l : List ℕ). l ++ rest) e) ∙ whole in
    let first : b ≡ 47 = cc in
    let second : c ≡ 42 = cc in
    both_ways _ (not-true _ passes) (and_from _ _ (eq-eqb b 47 first) (or_right (eqb c 47) _ (eq-eqb c 42 second)))

dispatched : (b : ℕ) (behind : List ℕ) → IsOperatorByte b → NotOpened (b ∷ behind) → piece_at (b ∷ behind) ≡ operator_at (b ∷ behind)
unfolding piece_at
dispatched b behind is apart = rw (is.no_word, is.no_blank, is.no_quote, is.no_double_quote) (by_slash (eqb b 47) refl)
  where
    by_slash : (t : Bool) → eqb b 47 ≡ t → cond t (slash_at behind)
        (cond (eqb b 92) (backslash_at behind) (operator_at (b ∷ behind))) ≡ operator_at (b ∷ behind)
    by_slash true e =
        let slash = eqb-true b 47 e in
        slash_plain behind (subst (λ (c : ℕ). NotOpened (c ∷ behind)) slash apart) ∙ ap (λ (c : ℕ). operator_at (c ∷ behind)) (sym slash)
    by_slash false e = rw is.no_backslash refl

pub punctuator_again : (bytes left : List ℕ) (p : Punctuator) → punctuator_of bytes ≡ Some p → IsLongestOperator bytes left
    → piece_at (bytes ++ left) ≡ Ok (Some (token.Punctuator p), left)
unfolding punctuator_of
punctuator_again [] left p is longest = absurd (false≢true (operator_passes [] p is))
punctuator_again (b ∷ others) left p is longest =
    let passes = and_parts (is_operator_byte b && is_some (spelled punctuators (b ∷ []))) (opens_no_comment b others)
    (operator_passes (b ∷ others) p is) in
    let byte = operator_byte b (and_parts (is_operator_byte b) (is_some (spelled punctuators (b ∷ []))) passes.0).0 in
    dispatched b (others ++ left) byte (not_opened b others left passes.1 longest) ∙ operator_again (b ∷ others) left p is longest
