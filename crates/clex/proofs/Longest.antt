-- A token that stands at the front of a text is the longest front that is written as any token.
use Rattle.std.proofs.Common.{◌≡◌, ℕ, ◌<◌, true, false, List, [], ◌∷◌, ◌++◌, length, Option, Some}
use Rattle.std.proofs.Common.{Ok, refl, sym, ap, ◌∙◌, subst, arith, inl}
use Rattle.std.specs.List.{list_all}
use Rattle.std.proofs.lemmas.Bool.{and_parts, both_ways, eq-eqb}
use Rattle.std.proofs.lemmas.List.{length-append}
use Rattle.csyn.specs.Punctuator.{punctuator_of}
use Rattle.csyn.specs.declared.punctuator.Punctuator.{Punctuator}
use Rattle.csyn.specs.declared.token.TokenKind.{TokenKind}
use Rattle.csyn.specs.declared.token.TokenKind.TheVariants as token
use Rattle.clex.specs.Bytes.{is_word_byte, StopsAt}
use Rattle.clex.specs.Spelling.{Writes, IsRun, IsCharacter, plain, escaped, hexadecimal}
use Rattle.clex.specs.Pieces.{IsPiece}
use Rattle.clex.specs.Reading.{piece_at}
use Rattle.clex.proofs.QuotedLemmas.{character_again, literal_again}
use Rattle.clex.proofs.Words.{keyword_is_name}
use Rattle.clex.proofs.Operators.{operator_first}
use Rattle.clex.proofs.Dispatch.{piece_again}
use Rattle.clex.proofs.TextLemmas.{same_found}

-- letters, digits and `_` alone
abbrev AllWord : List ℕ → Type 0
AllWord bytes = list_all is_word_byte bytes ≡ true

-- a run that goes on past a place where it stops is no run
past_stop : (bytes left longer rest : List ℕ) → StopsAt is_word_byte left → AllWord longer → longer ++ rest ≡ bytes ++ left
    → length bytes < length longer → ⊥
past_stop [] [] [] rest stops all whole lt = omega arith
past_stop [] [] (x ∷ longer) rest stops all whole lt = cc
past_stop [] (y ∷ left) [] rest stops all whole lt = omega arith
past_stop [] (y ∷ left) (x ∷ longer) rest stops all whole lt =
    let same : x ≡ y = cc in
    both_ways _ (ap is_word_byte same ∙ stops) (and_parts (is_word_byte x) (list_all is_word_byte longer) all).0
past_stop (b ∷ bytes) left [] rest stops all whole lt = omega arith
past_stop (b ∷ bytes) left (x ∷ longer) rest stops all whole lt =
    let tails : longer ++ rest ≡ bytes ++ left = cc in
    past_stop bytes left longer rest stops (and_parts (is_word_byte x) (list_all is_word_byte longer) all).1 tails (omega arith)

-- no run begins with another byte
clash_word : (b : ℕ) (others left longer rest : List ℕ) → is_word_byte b ≡ false → longer ++ rest ≡ (b ∷ others) ++ left
    → 0 < length longer → AllWord longer → ⊥
clash_word b others left [] rest no_word whole some all = omega arith
clash_word b others left (x ∷ longer) rest no_word whole some all =
    let same : x ≡ b = cc in
    both_ways _ (ap is_word_byte same ∙ no_word) (and_parts (is_word_byte x) (list_all is_word_byte longer) all).0

character_first : (spelling : List ℕ) (value : ℕ) → IsCharacter spelling value → (others : List ℕ) × (spelling ≡ 39 ∷ others)
character_first spelling value (plain e _) = (value ∷ 39 ∷ [], e)
character_first spelling value (escaped x e _) = (92 ∷ x ∷ 39 ∷ [], e)
character_first spelling value (hexadecimal h l e _ _ _) = (92 ∷ 120 ∷ h ∷ l ∷ 39 ∷ [], e)

-- two readings of one text leave the same
read_ends : (kind other : TokenKind) (bytes left longer rest : List ℕ) → piece_at (longer ++ rest) ≡ Ok (Some other, rest)
    → piece_at (bytes ++ left) ≡ Ok (Some kind, left)
    → longer ++ rest ≡ bytes ++ left → length bytes < length longer → ⊥
read_ends kind other bytes left longer rest again read whole lt =
    let same = same_found (Some other, rest) (Some kind, left) (sym again ∙ ap piece_at whole ∙ read) in
    let lefts : rest ≡ left = ap (λ (x : Option TokenKind × List ℕ). x.1) same in
    omega (arith, ap length whole, ap length lefts, length-append longer rest, length-append bytes left)

-- where the longer front would be a run
word_other : (kind : TokenKind) (bytes left : List ℕ) → IsPiece (Some kind) bytes left → (longer rest : List ℕ) → AllWord longer
    → longer ++ rest ≡ bytes ++ left → length bytes < length longer → ⊥
word_other (token.Identifier name) bytes left is longer rest all whole lt = past_stop bytes left longer rest is.1 all whole lt
word_other (token.Number n) bytes left is longer rest all whole lt = past_stop bytes left longer rest is.1 all whole lt
word_other (token.Keyword k) bytes left is longer rest all whole lt = past_stop bytes left longer rest is.1 all whole lt
word_other (token.Character c) bytes left is longer rest all whole lt =
    let first = character_first c.spelling c.value is.0.1 in
    clash_word 39 first.0 left longer rest refl (whole ∙ ap (λ (t : List ℕ). t ++ left) (is.0.0 ∙ first.1)) (omega arith) all
word_other (token.Literal text) bytes left is longer rest all whole lt =
    clash_word 34 (text ++ 34 ∷ []) left longer rest refl (whole ∙ ap (λ (t : List ℕ). t ++ left) is.0.0) (omega arith) all
word_other (token.Punctuator p) bytes left is longer rest all whole lt =
    let first = operator_first bytes p is.0 in
    clash_word first.0 first.1 left longer rest first.3.no_word (whole ∙ ap (λ (t : List ℕ). t ++ left) first.2) (omega arith) all
word_other (token.Standard _) bytes left is longer rest all whole lt = is.0
word_other token.End bytes left is longer rest all whole lt = is.0

run_some : (first : ℕ) (bytes : List ℕ) → IsRun first bytes → 0 < length bytes
run_some first bytes run = omega (arith, ap length run.parts)

-- where it would be a punctuator
operator_other : (kind : TokenKind) (bytes left : List ℕ) → IsPiece (Some kind) bytes left → (longer rest : List ℕ) (p : Punctuator)
    → punctuator_of longer ≡ Some p
    → longer ++ rest ≡ bytes ++ left → length bytes < length longer → ⊥
operator_other (token.Identifier name) bytes left is longer rest p w whole lt =
    let first = operator_first longer p w in
    let run = is.0.1.run in
    clash_word first.0 first.1 rest name left first.3.no_word
    (ap (λ (t : List ℕ). t ++ left) (sym is.0.0) ∙ sym whole ∙ ap (λ (t : List ℕ). t ++ rest) first.2)
    (run_some is.0.1.first name run) run.each
operator_other (token.Number n) bytes left is longer rest p w whole lt =
    let first = operator_first longer p w in
    let run = is.0.1.run in
    clash_word first.0 first.1 rest n.spelling left first.3.no_word
    (ap (λ (t : List ℕ). t ++ left) (sym is.0.0) ∙ sym whole ∙ ap (λ (t : List ℕ). t ++ rest) first.2)
    (run_some is.0.1.first n.spelling run) run.each
operator_other (token.Keyword k) bytes left is longer rest p w whole lt =
    let first = operator_first longer p w in
    let name = keyword_is_name bytes k is.0 in
    clash_word first.0 first.1 rest bytes left first.3.no_word (sym whole ∙ ap (λ (t : List ℕ). t ++ rest) first.2)
    (run_some name.first bytes name.run) name.run.each
operator_other (token.Character c) bytes left is longer rest p w whole lt =
    let first = operator_first longer p w in
    let quote = character_first c.spelling c.value is.0.1 in
    let heads : first.0 ∷ first.1 ++ rest ≡ 39 ∷ quote.0 ++ left =
    ap (λ (t : List ℕ). t ++ rest) (sym first.2) ∙ whole ∙ ap (λ (t : List ℕ). t ++ left) (is.0.0 ∙ quote.1) in
    let same : first.0 ≡ 39 = cc in
    both_ways _ first.3.no_quote (eq-eqb first.0 39 same)
operator_other (token.Literal text) bytes left is longer rest p w whole lt =
    let first = operator_first longer p w in
    let heads : first.0 ∷ first.1 ++ rest ≡ (34 ∷ text ++ 34 ∷ []) ++ left =
    ap (λ (t : List ℕ). t ++ rest) (sym first.2) ∙ whole ∙ ap (λ (t : List ℕ). t ++ left) is.0.0 in
    let same : first.0 ≡ 34 = cc in
    both_ways _ first.3.no_double_quote (eq-eqb first.0 34 same)
operator_other (token.Punctuator q) bytes left is longer rest p w whole lt = is.1 longer rest whole lt (inl (p, w))
operator_other (token.Standard _) bytes left is longer rest p w whole lt = is.0
operator_other token.End bytes left is longer rest p w whole lt = is.0

pub longest : (kind other : TokenKind) (bytes left longer rest : List ℕ) → IsPiece (Some kind) bytes left
    → longer ++ rest ≡ bytes ++ left → length bytes < length longer → Writes other longer → ⊥
longest kind (token.Identifier name) bytes left longer rest is whole lt w =
    word_other kind bytes left is longer rest (subst AllWord (sym w.0) w.1.run.each) whole lt
longest kind (token.Number n) bytes left longer rest is whole lt w =
    word_other kind bytes left is longer rest (subst AllWord (sym w.0) w.1.run.each) whole lt
longest kind (token.Keyword k) bytes left longer rest is whole lt w =
    word_other kind bytes left is longer rest (keyword_is_name longer k w).run.each whole lt
longest kind (token.Character c) bytes left longer rest is whole lt w =
    read_ends kind (token.Character c) bytes left longer rest
    (ap (λ (t : List ℕ). piece_at (t ++ rest)) w.0 ∙ character_again c.spelling c.value rest w.1)
    (piece_again (Some kind) bytes left is) whole lt
longest kind (token.Literal text) bytes left longer rest is whole lt w =
    read_ends kind (token.Literal text) bytes left longer rest
    (ap (λ (t : List ℕ). piece_at (t ++ rest)) w.0 ∙ literal_again text rest w.1) (piece_again (Some kind) bytes left is) whole lt
longest kind (token.Punctuator p) bytes left longer rest is whole lt w = operator_other kind bytes left is longer rest p w whole lt
longest kind (token.Standard _) bytes left longer rest is whole lt w = w
longest kind token.End bytes left longer rest is whole lt w = w
