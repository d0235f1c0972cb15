-- What a word looks like to `clap`.
use Rattle.std.proofs.Common.{◌≡◌, ◌≢◌, ◌∙◌, ◌⊎◌, ℕ, zero, suc, Bool, true, false, not, ◌==◌, ◌&&◌, List, [], ◌∷◌, ◌++◌, length, Some, None}
use Rattle.std.proofs.Common.{refl, sym, ap, subst, inl, inr, arith, IsUtf8, true≢false}
use Rattle.std.specs.Prelude.{slice_get, encode_utf8}
use Rattle.std.specs.List.{list_all, list_any}
use Rattle.std.specs.Str.{bytes_eq, chars}
use Rattle.std.proofs.lemmas.Bool.{ne_eqb, eqb-true}
use Rattle.std.proofs.lemmas.Str.{IsUtf8-past_char, encodes-chars}
use Rattle.std.proofs.lemmas.Slice.Eq.{bytes_eq-Decides}
use Rattle.clap.specs.Lexer.{long_of, short_of}
use Rattle.clap.proofs.CutLemmas.{Lacks}
use Rattle.cmdwords.specs.Form.{Text, is_name}
use Rattle.cmdwords.specs.Piece.{IsPlain}

-- a word is plain, or `--`, or has a name, or has flags
pub by_look : (P : Text → Type 0) → ((word : Text) → IsPlain word → P word) → P (45 ∷ 45 ∷ [])
    → ((c : ℕ) (rest : Text) → P (45 ∷ 45 ∷ c ∷ rest)) → ((c : ℕ) (rest : Text) → (c == 45) ≡ false → P (45 ∷ c ∷ rest)) → (word : Text)
    → P word
by_look P plain end long short [] = plain [] tt
by_look P plain end long short (c ∷ []) = plain (c ∷ []) tt
by_look P plain end long short (c ∷ d ∷ rest) = go (c == 45) refl
  where
    second : (rest : Text) (b : Bool) → (d == 45) ≡ b → P (45 ∷ d ∷ rest)
    second rest false e = short d rest e
    second [] true e = subst (λ n. P (45 ∷ n ∷ [])) (sym (eqb-true d 45 e)) end
    second (x ∷ more) true e = subst (λ n. P (45 ∷ n ∷ x ∷ more)) (sym (eqb-true d 45 e)) (long x more)

    go : (b : Bool) → (c == 45) ≡ b → P (c ∷ d ∷ rest)
    go true e = subst (λ n. P (n ∷ d ∷ rest)) (sym (eqb-true c 45 e)) (second rest (d == 45) refl)
    go false e = plain (c ∷ d ∷ rest) (λ is. true≢false (sym (ap (λ n. n == 45) is) ∙ e))

-- ---- plain words

not_minus : (c d : ℕ) (rest : Text) → c ≢ 45 → (c == 45) ≡ false
not_minus c d rest ne = ne_eqb c 45 ne

pub plain_ends_not : (word : Text) → IsPlain word → bytes_eq word (45 ∷ 45 ∷ []) ≡ false
plain_ends_not [] plain = refl
plain_ends_not (c ∷ []) plain = go (c == 45)
  where
    go : (b : Bool) → (b && false) ≡ false
    go true = refl
    go false = refl
plain_ends_not (c ∷ d ∷ rest) plain = rw (not_minus c d rest plain) refl

pub plain_long : (word : Text) → IsPlain word → long_of word ≡ None
plain_long [] plain = refl
plain_long (c ∷ []) plain = go (c == 45) refl
  where
    go : (b : Bool) → (c == 45) ≡ b → long_of (c ∷ []) ≡ None
    go true e = rw e refl
    go false e = rw e refl
plain_long (c ∷ d ∷ rest) plain = rw (not_minus c d rest plain) refl

pub plain_short : (word : Text) → IsPlain word → short_of word ≡ None
plain_short [] plain = refl
plain_short (c ∷ []) plain = go (c == 45) refl
  where
    go : (b : Bool) → (c == 45) ≡ b → short_of (c ∷ []) ≡ None
    go true e = rw e refl
    go false e = rw e refl
plain_short (c ∷ d ∷ rest) plain = rw (not_minus c d rest plain) refl

-- ---- flags

pub flags_of : (c : ℕ) (rest : Text) → (c == 45) ≡ false → short_of (45 ∷ c ∷ rest) ≡ Some (c ∷ rest)
flags_of c rest e = rw e refl

pub flags_end_not : (c : ℕ) (rest : Text) → (c == 45) ≡ false → bytes_eq (45 ∷ c ∷ rest) (45 ∷ 45 ∷ []) ≡ false
flags_end_not c rest e = rw e refl

pub flags_long : (c : ℕ) (rest : Text) → (c == 45) ≡ false → long_of (45 ∷ c ∷ rest) ≡ None
flags_long c rest e = rw e refl

-- a text that isn't empty has a first character
pub first_char : (c : ℕ) (rest : Text) → IsUtf8 (c ∷ rest) → (x : ℕ) × (slice_get (chars (c ∷ rest)) 0 ≡ Some x)
first_char c rest u = go (chars (c ∷ rest)) (encodes-chars (c ∷ rest) u)
  where
    go : (cs : List ℕ) → lib.Utf8.encodes cs ≡ c ∷ rest → (x : ℕ) × (slice_get cs 0 ≡ Some x)
    go [] e = cc
    go (x ∷ cs) e = (x, refl)

pub flags_utf8 : (c : ℕ) (rest : Text) → IsUtf8 (45 ∷ c ∷ rest) → IsUtf8 (c ∷ rest)
unfolding lib.Utf8.encode
flags_utf8 c rest u = IsUtf8-past_char (45 ∷ c ∷ rest) (c ∷ rest) 45 u refl

-- ---- names

lacks_none : Lacks 61 []
lacks_none i lt = absurd (omega arith)

lacks_more : (c : ℕ) (rest : Text) → (c == 61) ≡ false → Lacks 61 rest → Lacks 61 (c ∷ rest)
lacks_more c rest e lacks zero lt = λ is. true≢false (sym (ap (λ n. n == 61) is) ∙ e)
lacks_more c rest e lacks (suc i) lt = lacks i (omega arith)

-- a text has no `=`, or is cut at its first
pub cut : (text : Text) → Lacks 61 text ⊎ ((name : Text) × (value : Text) × (text ≡ name ++ 61 ∷ value) × Lacks 61 name)
cut [] = inl lacks_none
cut (c ∷ rest) = go (c == 61) refl (cut rest)
  where
    go : (b : Bool) → (c == 61) ≡ b → Lacks 61 rest ⊎ ((name : Text) × (value : Text) × (rest ≡ name ++ 61 ∷ value) × Lacks 61 name)
        → Lacks 61 (c ∷ rest) ⊎ ((name : Text) × (value : Text) × (c ∷ rest ≡ name ++ 61 ∷ value) × Lacks 61 name)
    go true e later = inr ([], rest, ap (λ n. n ∷ rest) (eqb-true c 61 e), lacks_none)
    go false e (inl lacks) = inl (lacks_more c rest e lacks)
    go false e (inr p) = inr (c ∷ p.0, p.1, ap (λ l. c ∷ l) p.2, lacks_more c p.0 e p.3)

both : (a b : Bool) → (a && b) ≡ true → (a ≡ true) × (b ≡ true)
both true b e = (refl, e)
both false b e = absurd (true≢false (sym e))

is_not : (b : Bool) → not b ≡ true → b ≡ false
is_not true e = absurd (true≢false (sym e))
is_not false e = refl

lacks_from : (text : Text) → list_any (λ c. c == 61) text ≡ false → Lacks 61 text
lacks_from [] e = lacks_none
lacks_from (c ∷ rest) e = go (c == 61) refl (lacks_from rest)
  where
    go : (b : Bool) → (c == 61) ≡ b → (list_any (λ x. x == 61) rest ≡ false → Lacks 61 rest) → Lacks 61 (c ∷ rest)
    go true is later =
        let bad : true ≡ false = rw is at e in
        absurd (true≢false bad)
    go false is later =
        let none : list_any (λ x. x == 61) rest ≡ false = rw is at e in
        lacks_more c rest is (later none)

pub name_lacks : (name : Text) → is_name name ≡ true → Lacks 61 name
name_lacks name e = lacks_from name (is_not _ (both (not (length name == 0)) _ e).1)

-- a name has a first byte
pub name_begins : (name : Text) → is_name name ≡ true → (c : ℕ) × (rest : Text) × (name ≡ c ∷ rest)
name_begins [] e = absurd (true≢false (sym e))
name_begins (c ∷ rest) e = (c, rest, refl)

abbrev pub is_taken : List Text → Text → Bool
is_taken names name = list_any (λ other. bytes_eq other name) names

pub taken_is_name : (names : List Text) (name : Text) → list_all is_name names ≡ true → is_taken names name ≡ true → is_name name ≡ true
taken_is_name [] name all taken = absurd (true≢false (sym taken))
taken_is_name (n ∷ ns) name all taken = go (bytes_eq n name) refl (taken_is_name ns name (both (is_name n) _ all).1)
  where
    go : (b : Bool) → bytes_eq n name ≡ b → (is_taken ns name ≡ true → is_name name ≡ true) → is_name name ≡ true
    go true e later = ap is_name (sym ((bytes_eq-Decides n name).0 e)) ∙ (both (is_name n) _ all).0
    go false e later =
        let rest : is_taken ns name ≡ true = rw e at taken in
        later rest

-- no name is `=`
pub name_differs : (name : Text) → is_name name ≡ true → bytes_eq (61 ∷ []) name ≡ false
name_differs name e = go (bytes_eq (61 ∷ []) name) refl
  where
    go : (b : Bool) → bytes_eq (61 ∷ []) name ≡ b → bytes_eq (61 ∷ []) name ≡ false
    go false is = is
    go true is =
        let bad : false ≡ true = ap is_name ((bytes_eq-Decides (61 ∷ []) name).0 is) ∙ e in
        absurd (true≢false (sym bad))
