-- Blanks and words, taken byte by byte.
use Rattle.std.proofs.Common.{◌≡◌, ℕ, ◌-◌, ◌<◌, ◌≤◌, Bool, true, false, cond, ◌&&◌, ◌==◌, List, [], ◌∷◌, ◌++◌, length, take, refl, sym}
use Rattle.std.proofs.Common.{ap, ◌∙◌, arith, length-append}
use Rattle.std.proofs.Math.Seq.{take-append_seam}
use Rattle.std.proofs.lemmas.Bool.{ne_eqb}
use Rattle.asmword.specs.Blanks.{is_blank, behind_blanks, before_blanks, first_word, behind_word}

-- ---- before a text

pub blank_more : (b : ℕ) (text : List ℕ) → is_blank b ≡ true → behind_blanks (b ∷ text) ≡ behind_blanks text
unfolding behind_blanks
blank_more b text e = ap (λ t. cond t (behind_blanks text) (b ∷ text)) e

pub blank_stop : (b : ℕ) (text : List ℕ) → is_blank b ≡ false → behind_blanks (b ∷ text) ≡ b ∷ text
unfolding behind_blanks
blank_stop b text e = ap (λ t. cond t (behind_blanks text) (b ∷ text)) e

blank_none : behind_blanks [] ≡ []
unfolding behind_blanks
blank_none = refl

empty : (rest : List ℕ) → length rest ≡ 0 → rest ≡ []
empty [] e = refl
empty (b ∷ rest) e = absurd (omega arith)

pub skip : (rest text behind : List ℕ) (b : ℕ) → rest ≡ b ∷ behind → is_blank b ≡ true → behind_blanks rest ≡ behind_blanks text
    → behind_blanks behind ≡ behind_blanks text
skip rest text behind b e blank h = sym (blank_more b behind blank) ∙ sym (ap behind_blanks e) ∙ h

pub skip_stop : (rest text behind : List ℕ) (b : ℕ) → rest ≡ b ∷ behind → is_blank b ≡ false → behind_blanks rest ≡ behind_blanks text
    → rest ≡ behind_blanks text
skip_stop rest text behind b e blank h = e ∙ sym (blank_stop b behind blank) ∙ sym (ap behind_blanks e) ∙ h

pub skip_none : (rest text : List ℕ) → length rest ≡ 0 → behind_blanks rest ≡ behind_blanks text → rest ≡ behind_blanks text
skip_none rest text e h = empty rest e ∙ sym blank_none ∙ ap behind_blanks (sym (empty rest e)) ∙ h

-- ---- behind a text

alone_blank : (b : ℕ) → is_blank b ≡ true → before_blanks (b ∷ []) ≡ []
unfolding before_blanks
alone_blank b e = ap (λ t. cond (t && true) [] (b ∷ [])) e

alone_stop : (b : ℕ) → is_blank b ≡ false → before_blanks (b ∷ []) ≡ b ∷ []
unfolding before_blanks
alone_stop b e = ap (λ t. cond (t && true) [] (b ∷ [])) e

unfoldable pub one_before : ℕ → List ℕ → List ℕ
one_before c text = cond (is_blank c && length text == 0) [] (c ∷ text)

pub before_cons : (c : ℕ) (text : List ℕ) → before_blanks (c ∷ text) ≡ one_before c (before_blanks text)
unfolding before_blanks one_before
before_cons c text = refl

pub before_none : before_blanks [] ≡ []
unfolding before_blanks
before_none = refl

last_blank : (before : List ℕ) (b : ℕ) → is_blank b ≡ true → before_blanks (before ++ b ∷ []) ≡ before_blanks before
last_blank [] b e = alone_blank b e ∙ sym before_none
last_blank (c ∷ before) b e =
    before_cons c (before ++ b ∷ []) ∙ ap (one_before c) (last_blank before b e) ∙ sym (before_cons c before)

some_kept : (c : ℕ) (text : List ℕ) → 0 < length text → one_before c text ≡ c ∷ text
unfolding one_before
some_kept c text h = kept (is_blank c) (length text == 0) (ne_eqb (length text) 0 (λ z. omega arith))
  where
    kept : (s t : Bool) → t ≡ false → cond (s && t) [] (c ∷ text) ≡ c ∷ text
    kept true t e = ap (λ t. cond t [] (c ∷ text)) e
    kept false t e = refl

last_kept : (before : List ℕ) (b : ℕ) → is_blank b ≡ false → before_blanks (before ++ b ∷ []) ≡ before ++ b ∷ []
last_kept [] b e = alone_stop b e
last_kept (c ∷ before) b e =
    before_cons c (before ++ b ∷ []) ∙ ap (one_before c) (last_kept before b e)
    ∙ some_kept c (before ++ b ∷ []) (omega (arith, length-append before (b ∷ [])))

pub last : (rest text before : List ℕ) (b : ℕ) → rest ≡ before ++ b ∷ [] → is_blank b ≡ true → before_blanks rest ≡ before_blanks text
    → before_blanks before ≡ before_blanks text
last rest text before b e blank h = sym (last_blank before b blank) ∙ sym (ap before_blanks e) ∙ h

pub last_stop : (rest text before : List ℕ) (b : ℕ) → rest ≡ before ++ b ∷ [] → is_blank b ≡ false
    → before_blanks rest ≡ before_blanks text → rest ≡ before_blanks text
last_stop rest text before b e blank h = e ∙ sym (last_kept before b blank) ∙ sym (ap before_blanks e) ∙ h

pub last_none : (rest text : List ℕ) → length rest ≡ 0 → before_blanks rest ≡ before_blanks text → rest ≡ before_blanks text
last_none rest text e h = empty rest e ∙ sym before_none ∙ ap before_blanks (sym (empty rest e)) ∙ h

-- ---- the first word

behind_more : (b : ℕ) (text : List ℕ) → is_blank b ≡ false → behind_word (b ∷ text) ≡ behind_word text
unfolding behind_word
behind_more b text e = ap (λ t. cond t (b ∷ text) (behind_word text)) e

behind_stop : (b : ℕ) (text : List ℕ) → is_blank b ≡ true → behind_word (b ∷ text) ≡ b ∷ text
unfolding behind_word
behind_stop b text e = ap (λ t. cond t (b ∷ text) (behind_word text)) e

behind_none : behind_word [] ≡ []
unfolding behind_word
behind_none = refl

pub word_step : (rest text behind : List ℕ) (b : ℕ) → rest ≡ b ∷ behind → is_blank b ≡ false → behind_word rest ≡ behind_word text
    → behind_word behind ≡ behind_word text
word_step rest text behind b e blank h = sym (behind_more b behind blank) ∙ sym (ap behind_word e) ∙ h

pub word_stop : (rest text behind : List ℕ) (b : ℕ) → rest ≡ b ∷ behind → is_blank b ≡ true → behind_word rest ≡ behind_word text
    → rest ≡ behind_word text
word_stop rest text behind b e blank h = e ∙ sym (behind_stop b behind blank) ∙ sym (ap behind_word e) ∙ h

pub word_none : (rest text : List ℕ) → length rest ≡ 0 → behind_word rest ≡ behind_word text → rest ≡ behind_word text
word_none rest text e h = empty rest e ∙ sym behind_none ∙ ap behind_word (sym (empty rest e)) ∙ h

back_step : (t : Bool) (b : ℕ) (text : List ℕ) → first_word text ++ behind_word text ≡ text
    → cond t [] (b ∷ first_word text) ++ cond t (b ∷ text) (behind_word text) ≡ b ∷ text
back_step true b text h = refl
back_step false b text h = ap (λ xs. b ∷ xs) h

pub word_back : (text : List ℕ) → first_word text ++ behind_word text ≡ text
unfolding first_word behind_word
word_back [] = refl
word_back (b ∷ text) = back_step (is_blank b) b text (word_back text)

pub word_length : (text : List ℕ) → length (behind_word text) ≤ length text
word_length text = omega (arith, ap length (word_back text), length-append (first_word text) (behind_word text))

take_front : (front behind : List ℕ) → take (length (front ++ behind) - length behind) (front ++ behind) ≡ front
take_front front behind =
    ap (λ n. take n (front ++ behind))
    (let e : length (front ++ behind) - length behind ≡ length front = omega (arith, length-append front behind) in e)
    ∙ take-append_seam front behind

pub word_cut : (text : List ℕ) → take (length text - length (behind_word text)) text ≡ first_word text
word_cut text =
    ap (λ t. take (length t - length (behind_word text)) t) (sym (word_back text)) ∙ take_front (first_word text) (behind_word text)
