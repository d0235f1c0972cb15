-- What is known of a tree makes it read as each class of which it is.
use Rattle.std.proofs.Common.{◌≡◌, ℕ, ◌+◌, ◌<◌, ◌≤◌, Bool, true, false, ◌||◌, ◌⊎◌, nat_eq, nat_le, [], ◌∷◌}
use Rattle.std.proofs.Common.{refl, sym, subst, inl, inr, true≢false, arith, lit<}
use Rattle.std.proofs.lemmas.Bool.{or_cases, eqb-true, leb-true, le-leb, ne_eqb, cases_lt}
use Rattle.cgrammar.specs.declared.production.Production.{Production}
use Rattle.cgrammar.specs.declared.production.Words.{Words}
use Rattle.cgrammar.specs.declared.production.Words.TheVariants as every_word
use Rattle.cgrammar.specs.Kind.{kind_of}
use Rattle.cgrammar.specs.Grammar as class
use Rattle.cgrammar.specs.Grammar.{Class, under, home, class_number, words_number, is_wider}
use Rattle.cgrammar.specs.Text.{Written, leaf, node, Forest, Stands}
use Rattle.creader.proofs.Complete.Reading.{Reads, reader, has_reader, level_reader, chain_of, chain_part, follow, allows, is_statement}
use Rattle.creader.proofs.Complete.Heads.{Heads, Known, known_as, is_expression, is_level, level_of, levels_of, left}
use Rattle.creader.proofs.Complete.Heads.{left_numbers, is_name_node, is_bare_name, barred_of}
use Rattle.creader.proofs.Complete.Steps.{join}
use Rattle.creader.proofs.Complete.Expressions.Tails.{allowed, expression-ends, expression-level, gone-reaches, left-gone}

no_level : (k n : ℕ) → (nat_eq k (100 + n) || false) ≡ true → k < 100 → ⊥
no_level k n h l = go (or_cases (nat_eq k (100 + n)) false h)
  where
    go : (nat_eq k (100 + n) ≡ true) ⊎ (false ≡ true) → ⊥
    go (inl e) = let same : k ≡ 100 + n = eqb-true k (100 + n) e in omega arith
    go (inr e) = true≢false (sym e)

words-below : (w : Words) → words_number w < 9
unfolding words_number
words-below every_word.Sign = lit< tt
words-below _ = lit< tt

-- what may stand where an expression of level n is wanted is one of that level or a tighter one
pub under-level : (c : Class) (n : ℕ) → under c (class.level n) ≡ true → is_level c ≡ true
unfolding under class_number is_wider is_level
under-level (class.level m) n h = refl
under-level class.callee n h = refl
under-level (class.words w) n h = absurd (no_level _ n h (omega (arith, words-below w)))
under-level _ n h = absurd (no_level _ n h (omega arith))

pub level-under : (c : Class) (n : ℕ) → under c (class.level n) ≡ true → n ≤ level_of c
unfolding under class_number is_wider level_of
level-under (class.level m) n h = go (or_cases (nat_eq (100 + m) (100 + n)) (nat_le n m) h)
  where
    go : (nat_eq (100 + m) (100 + n) ≡ true) ⊎ (nat_le n m ≡ true) → n ≤ m
    go (inl e) = let same : 100 + m ≡ 100 + n = eqb-true (100 + m) (100 + n) e in omega arith
    go (inr l) = leb-true n m l
level-under class.callee n h = go (or_cases (nat_eq 0 (100 + n)) (nat_le n 15) h)
  where
    go : (nat_eq 0 (100 + n) ≡ true) ⊎ (nat_le n 15 ≡ true) → n ≤ 15
    go (inl e) = let same : 0 ≡ 100 + n = eqb-true 0 (100 + n) e in omega arith
    go (inr l) = leb-true n 15 l
level-under (class.words w) n h = absurd (no_level _ n h (omega (arith, words-below w)))
level-under _ n h = absurd (no_level _ n h (omega arith))

no_chain : (n : ℕ) → 15 ≤ n → level_reader n ≡ []
unfolding level_reader chain_of chain_part
no_chain n l =
    let no : (k : ℕ) → k < 15 → nat_eq n k ≡ false = λ k b. ne_eqb n k (λ e. absurd (omega arith)) in
    rw (
      no 0 (lit< tt),
      no 1 (lit< tt),
      no 2 (lit< tt),
      no 13 (lit< tt),
      no 14 (lit< tt),
      no 3 (lit< tt),
      no 4 (lit< tt),
      no 5 (lit< tt),
      no 6 (lit< tt),
      no 7 (lit< tt),
      no 8 (lit< tt),
      no 9 (lit< tt),
      no 10 (lit< tt),
      no 11 (lit< tt),
      no 12 (lit< tt),
    ) refl

pub level-reader : (n : ℕ) → has_reader (class.level n) ≡ true → n < 15
unfolding has_reader reader
level-reader n h = go (cases_lt n 15)
  where
    go : (n < 15) ⊎ (15 ≤ n) → n < 15
    go (inl l) = l
    go (inr l) = absurd (true≢false (sym (rw (no_chain n l) at h)))

-- a token that may stand behind an expression of level n: what has been left goes away
pub heads-reads : (w : Written) (n : ℕ) → Heads w → Stands (class.part (class.level n)) w → has_reader (class.level n) ≡ true
    → Reads (class.level n) w
unfolding reader follow allows is_statement left levels_of is_name_node barred_of is_expression allowed
heads-reads (leaf t) n h s r = absurd s
heads-reads (node p f) n h s r = record {
  reads = λ symbols values next tokens may.
      let l : n ≤ level_of (home p) = level-under (home p) n s in
      let e : is_expression p ≡ true = under-level (home p) n s in
      let b : n < 15 = level-reader n r in
      join (h.heads n (le-leb _ _ l) (le-leb n 14 (omega arith)) symbols values next tokens (expression-ends p n (kind_of next) e l may))
      (gone-reaches (left_numbers n (level_of (home p)) (is_bare_name p)) symbols (node p f ∷ values) next tokens
      (left-gone n (level_of (home p)) (is_bare_name p) (kind_of next) b (omega (arith, expression-level p e)) (le-leb _ _ l) may));
}

-- what is known of an expression
known_as_heads : (b : Bool) (p : Production) (w : Written) → b ≡ true → known_as b p w → Heads w
unfolding known_as
known_as_heads true p w e known = known
known_as_heads false p w e known = absurd (true≢false (sym e))

pub known-heads : (p : Production) (f : Forest) → is_expression p ≡ true → Known (node p f) → Heads (node p f)
unfolding Known
known-heads p f e known = known_as_heads (is_expression p) p (node p f) e known

no_class : (k m : ℕ) → (nat_eq (100 + m) k || false) ≡ true → k < 100 → ⊥
no_class k m h l = go (or_cases (nat_eq (100 + m) k) false h)
  where
    go : (nat_eq (100 + m) k ≡ true) ⊎ (false ≡ true) → ⊥
    go (inl e) = let same : 100 + m ≡ k = eqb-true (100 + m) k e in omega arith
    go (inr e) = true≢false (sym e)

-- an expression is only read as one of some level
only_levels : (d c : Class) → is_level d ≡ true → under d c ≡ true → has_reader c ≡ true → (n : ℕ) × (c ≡ class.level n)
unfolding is_level under class_number is_wider has_reader reader
only_levels _ (class.level n) e u r = (n, refl)
only_levels (class.level m) (class.words w) e u r = absurd (no_class (80 + words_number w) m u (omega (arith, words-below w)))
only_levels class.callee (class.words w) e u r = absurd (true≢false (sym r))
only_levels (class.level m) _ e u r = absurd (no_class _ m u (omega arith))
only_levels class.callee class.callee e u r = absurd (true≢false (sym r))
only_levels class.callee _ e u r = absurd (true≢false (sym u))
only_levels _ _ e u r = absurd (true≢false (sym e))

known_as_reads : (b : Bool) (p : Production) (f : Forest) (c : Class) → is_expression p ≡ b → known_as b p (node p f)
    → under (home p) c ≡ true
    → has_reader c ≡ true
    → Reads c (node p f)
unfolding known_as is_expression
known_as_reads true p f c e known s r =
    let (n, same) = only_levels (home p) c e s r in
    subst (λ d. Reads d (node p f)) (sym same)
    (heads-reads (node p f) n known (subst (λ d. under (home p) d ≡ true) same s) (subst (λ d. has_reader d ≡ true) same r))
known_as_reads false p f c e known s r = known c s r

-- the same from what is known of any tree
pub known-reads : (w : Written) (c : Class) → Known w → Stands (class.part c) w → has_reader c ≡ true → Reads c w
unfolding Known
known-reads (leaf t) c known s r = absurd s
known-reads (node p f) c known s r = known_as_reads (is_expression p) p f c refl known s r
