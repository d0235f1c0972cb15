-- Texts without blanks and commas: all their bytes are greater than these.
use Rattle.std.proofs.Common.{◌≡◌, ℕ, ◌<◌, Bool, true, false, cond, ◌&&◌, ◌==◌, nat_le, List, [], ◌∷◌, ◌++◌, length, refl, ap, ◌∙◌, arith}
use Rattle.std.specs.List.{list_all}
use Rattle.std.specs.Char.{is_ascii_digit}
use Rattle.std.proofs.lemmas.Bool.{and_parts, and_from, leb-true}
use Rattle.std.proofs.lemmas.Bool.Decides.{nat_tests}
use Rattle.textline.specs.Lines.{Lacks}
use Rattle.asmword.specs.Blanks.{is_blank, behind_blanks, before_blanks, trimmed, first_word, behind_word}
use Rattle.asmword.proofs.BlankLaws.{blank_more, blank_stop, before_none, before_cons, one_before}

abbrev pub solid : List ℕ → Bool
solid text = list_all (λ b. nat_le 45 b) text

not_blank : (b : ℕ) → nat_le 45 b ≡ true → is_blank b ≡ false
unfolding is_blank
not_blank b h = grind (arith, nat_tests)

space_blank : is_blank 32 ≡ true
unfolding is_blank
space_blank = refl

one_solid : (b : ℕ) (text : List ℕ) → is_blank b ≡ false → one_before b text ≡ b ∷ text
unfolding one_before
one_solid b text e = ap (λ t. cond (t && length text == 0) [] (b ∷ text)) e

solid_before : (text : List ℕ) → solid text ≡ true → before_blanks text ≡ text
solid_before [] h = before_none
solid_before (b ∷ text) h =
    let parts = and_parts (nat_le 45 b) (solid text) h in
    before_cons b text ∙ ap (one_before b) (solid_before text parts.1) ∙ one_solid b text (not_blank b parts.0)

pub solid_kept : (text : List ℕ) → solid text ≡ true → 0 < length text → (rest : List ℕ) → behind_blanks (text ++ rest) ≡ text ++ rest
solid_kept [] h some rest = absurd (omega arith)
solid_kept (b ∷ text) h some rest = blank_stop b (text ++ rest) (not_blank b (and_parts (nat_le 45 b) (solid text) h).0)

pub kept : (text : List ℕ) → solid text ≡ true → 0 < length text → behind_blanks text ≡ text
kept [] h some = absurd (omega arith)
kept (b ∷ text) h some = blank_stop b text (not_blank b (and_parts (nat_le 45 b) (solid text) h).0)

pub trimmed_word : (text : List ℕ) → solid text ≡ true → 0 < length text → trimmed text ≡ text
trimmed_word text h some = ap before_blanks (kept text h some) ∙ solid_before text h

pub space_gone : (text : List ℕ) → behind_blanks (32 ∷ text) ≡ behind_blanks text
space_gone text = blank_more 32 text space_blank

pub trimmed_space : (text : List ℕ) → solid text ≡ true → 0 < length text → trimmed (32 ∷ text) ≡ text
trimmed_space text h some = ap before_blanks (space_gone text) ∙ trimmed_word text h some

pub solid_append : (front behind : List ℕ) → solid front ≡ true → solid behind ≡ true → solid (front ++ behind) ≡ true
solid_append [] behind f b = b
solid_append (c ∷ front) behind f b =
    let parts = and_parts (nat_le 45 c) (solid front) f in and_from _ _ parts.0 (solid_append front behind parts.1 b)

pub solid_lacks : (text : List ℕ) → solid text ≡ true → Lacks 44 text
solid_lacks [] h = tt
solid_lacks (c ∷ text) h =
    let parts = and_parts (nat_le 45 c) (solid text) h in
    let le = leb-true 45 c parts.0 in
    (λ e. omega (arith, le, e), solid_lacks text parts.1)

pub digits_solid : (text : List ℕ) → list_all is_ascii_digit text ≡ true → solid text ≡ true
digits_solid [] h = refl
digits_solid (c ∷ text) h =
    let parts = and_parts (is_ascii_digit c) (list_all is_ascii_digit text) h in
    and_from _ _ (one c parts.0) (digits_solid text parts.1)
  where
    one : (c : ℕ) → is_ascii_digit c ≡ true → nat_le 45 c ≡ true
    one c h = grind (arith, nat_tests)

pub first_solid : (name rest : List ℕ) → solid name ≡ true → first_word rest ≡ [] → first_word (name ++ rest) ≡ name
unfolding first_word
first_solid [] rest h e = e
first_solid (b ∷ name) rest h e =
    let parts = and_parts (nat_le 45 b) (solid name) h in
    ap (λ t. cond t [] (b ∷ first_word (name ++ rest))) (not_blank b parts.0) ∙ ap (λ xs. b ∷ xs) (first_solid name rest parts.1 e)

pub behind_solid : (name rest : List ℕ) → solid name ≡ true → behind_word rest ≡ rest → behind_word (name ++ rest) ≡ rest
unfolding behind_word
behind_solid [] rest h e = e
behind_solid (b ∷ name) rest h e =
    let parts = and_parts (nat_le 45 b) (solid name) h in
    ap (λ t. cond t (b ∷ name ++ rest) (behind_word (name ++ rest))) (not_blank b parts.0) ∙ behind_solid name rest parts.1 e

pub first_none : first_word [] ≡ []
unfolding first_word
first_none = refl

pub first_space : (rest : List ℕ) → first_word (32 ∷ rest) ≡ []
unfolding first_word
first_space rest = ap (λ t. cond t [] (32 ∷ first_word rest)) space_blank

pub behind_none : behind_word [] ≡ []
unfolding behind_word
behind_none = refl

pub behind_space : (rest : List ℕ) → behind_word (32 ∷ rest) ≡ 32 ∷ rest
unfolding behind_word
behind_space rest = ap (λ t. cond t (32 ∷ rest) (behind_word rest)) space_blank
