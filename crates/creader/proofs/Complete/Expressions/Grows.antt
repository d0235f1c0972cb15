-- Expressions that begin with an expression: their first part is read by itself, and what it has left goes on with the token behind it.
use Rattle.std.proofs.Common.{◌≡◌, ℕ, Bool, true, false, not, ◌&&◌, ◌||◌, ◌⊎◌, if◌then◌else◌, nat_le, nat_eq, List, ◌∷◌, ◌++◌, map}
use Rattle.std.proofs.Common.{refl, sym, ◌∙◌, subst, ap, inl, inr, true≢false, arith, append_assoc, append-nil}
use Rattle.std.proofs.lemmas.Bool.{and_parts, and_from, le-leb, leb-true, eqb-true}
use Rattle.csyn.specs.declared.token.Token.{Token}
use Rattle.cgrammar.specs.declared.kind.Kind.{Kind}
use Rattle.cgrammar.specs.declared.production.Production.{Production}
use Rattle.cgrammar.specs.declared.production.Production.TheVariants as make
use Rattle.cgrammar.specs.declared.terminal.Terminal.{Terminal}
use Rattle.creader.specs.declared.part.Symbol.{Symbol}
use Rattle.creader.specs.declared.part.Symbol.TheVariants as symbol
use Rattle.cgrammar.specs.Kind.{kind_of}
use Rattle.cgrammar.specs.Terminal.{accepts}
use Rattle.creader.specs.Rules.{any_accepts}
use Rattle.cgrammar.specs.Grammar as class
use Rattle.cgrammar.specs.Grammar.{Class, Piece, template, home, under, is_wider}
use Rattle.cgrammar.specs.Text.{Written, leaf, node, Forest, none, more, spells, Match, IsProper}
use Rattle.creader.specs.Machine.{at, Reaches}
use Rattle.creader.proofs.Complete.Kinds.{every_kind, at-kind}
use Rattle.creader.proofs.Complete.Classes.{under-ways}
use Rattle.creader.proofs.Complete.Steps.{join, reduce-step, push, reduce-push}
use Rattle.creader.proofs.Complete.Sequence.{readers, fits, ends_open, sequence-reads}
use Rattle.creader.proofs.Complete.Heads.{may_end, Heads, AllKnown, is_expression, is_level, is_bare_name, is_name_node, level_of}
use Rattle.creader.proofs.Complete.Heads.{levels_of, left, left_numbers, postfix_numbers, after_numbers, chain_numbers, tail_of}
use Rattle.creader.proofs.Complete.Heads.{tail_symbol, barred, barred_of}
use Rattle.creader.proofs.Complete.KnownReads.{known-heads, under-level, level-under}
use Rattle.creader.proofs.Complete.Expressions.Tables.{when, when-at, every_below, below-at, every_expression, at-expression}
use Rattle.creader.proofs.Complete.Expressions.Stays.{takes, takes-reaches}
use Rattle.creader.proofs.Complete.Expressions.Tails.{expression-level}

-- the right side: the first part's level, whether a bare name may be it, the token behind it, and the rest
pub record Shape : Type 0 where
  pub level : ℕ
  pub bare : Bool
  pub operator : Terminal
  pub others : List Piece

abbrev pub first_class : Shape → Class
first_class shape = if shape.bare then class.level shape.level else class.callee

-- what becomes of the symbols that are left behind the first part, when the token has been taken
unfoldable pub wanted : Production → List Piece → ℕ → List Symbol
wanted p others n = readers others ++ symbol.Reduce p ∷ map tail_symbol (left_numbers n (level_of (home p)) (is_bare_name p))

unfoldable pub goes_on : Production → Shape → ℕ → Bool → ℕ → Kind → Bool
goes_on p shape m name n kind = takes (map tail_symbol (left_numbers n m name)) kind (wanted p shape.others n)

-- may it be the first part?
unfoldable pub suits : Shape → ℕ → Bool → Bool
suits shape m name = nat_le shape.level m && (shape.bare || not name)

unfoldable pub token_grows : Production → Shape → Kind → Bool
token_grows p shape kind =
    every_below 16 (λ m. every_below 16 (λ n. when (nat_le n (level_of (home p))) (λ _.
    when (suits shape m true) (λ _. goes_on p shape m true n kind) && when (suits shape m false) (λ _. goes_on p shape m false n kind))))
    && every_expression (λ q. when (is_expression q) (λ _. when (suits shape (level_of (home q)) (is_bare_name q)) (λ _. not (any_accepts
    (barred q) kind))))

unfoldable pub grows : Production → Shape → Bool
grows p shape = every_kind (λ kind. when (accepts shape.operator kind) (λ _. token_grows p shape kind))
    && (fits shape.others (may_end p)
    && (not (ends_open shape.others)
    && ((shape.bare || nat_eq shape.level 15)
    && (nat_le (level_of (home p)) shape.level
    && when (nat_le 14 (level_of (home p))) (λ _. nat_eq (level_of (home p)) 15 && nat_eq shape.level 15)))))

nothing_wider : (d : Class) → is_wider d class.callee ≡ true → ⊥
unfolding is_wider
nothing_wider (class.level _) w = true≢false (sym w)
nothing_wider _ w = true≢false (sym w)

not_true : (b : Bool) → not b ≡ true → b ≡ false
not_true true h = absurd (true≢false (sym h))
not_true false h = refl

-- the first part is an expression that suits
callee-class : (d : Class) → under d class.callee ≡ true → d ≡ class.callee
callee-class d h = go d (under-ways d class.callee h)
  where
    go : (d : Class) → (d ≡ class.callee) ⊎ (is_wider d class.callee ≡ true) → d ≡ class.callee
    go d (inl e) = e
    go d (inr w) = absurd (nothing_wider d w)

callee-bare : (q : Production) → home q ≡ class.callee → is_bare_name q ≡ false
unfolding home is_bare_name
callee-bare make.Name e = cc
callee-bare _ e = refl

callee_expression : (d : Class) → d ≡ class.callee → is_level d ≡ true
unfolding is_level
callee_expression d e = rw e refl

callee_suits : (level : ℕ) (d : Class) (name : Bool) → d ≡ class.callee → name ≡ false → level ≡ 15
    → (nat_le level (level_of d) && (false || not name)) ≡ true
unfolding level_of
callee_suits level d name e f l = rw (e, f, l) refl

record Suits (shape : Shape) (q : Production) : Type 0 where
  expression : is_expression q ≡ true
  suits_it : suits shape (level_of (home q)) (is_bare_name q) ≡ true

suits-by : (level : ℕ) (bare : Bool) (operator : Terminal) (others : List Piece) (q : Production) → (bare || nat_eq level 15) ≡ true
    → under (home q) (if bare then class.level level else class.callee) ≡ true
    → Suits (record { level = level; bare = bare; operator = operator; others = others }) q
unfolding suits is_expression
suits-by level true operator others q h u = record {
  expression = under-level (home q) level u;
  suits_it = and_from _ _ (le-leb level (level_of (home q)) (level-under (home q) level u)) refl;
}
suits-by level false operator others q h u =
    let e = callee-class (home q) u in
    let name = callee-bare q e in
    let l : level ≡ 15 = eqb-true level 15 h in
    record { expression = callee_expression (home q) e; suits_it = callee_suits level (home q) (is_bare_name q) e name l }

-- of an expression of level 15 only its tail is left
left-tail : (w : Written) → levels_of w ≡ 15 → left 15 w ≡ tail_of w
unfolding left tail_of left_numbers after_numbers chain_numbers
left-tail w e = rw (e, append-nil (postfix_numbers 15 (is_name_node w))) refl

-- a production of that shape
module _ (p : Production) (shape : Shape) (expression : is_expression p ≡ true) (holds : grows p shape ≡ true) where
  parts_of_test : (every_kind (λ kind. when (accepts shape.operator kind) (λ _. token_grows p shape kind)) ≡ true)
      × (fits shape.others (may_end p) ≡ true)
      × (ends_open shape.others ≡ false)
      × ((shape.bare || nat_eq shape.level 15) ≡ true)
      × (nat_le (level_of (home p)) shape.level ≡ true)
      × (when (nat_le 14 (level_of (home p))) (λ _. nat_eq (level_of (home p)) 15 && nat_eq shape.level 15) ≡ true)
  unfolding grows
  parts_of_test =
      let a = and_parts _ _ holds in
      let b = and_parts _ _ a.1 in
      let c = and_parts _ _ b.1 in
      let d = and_parts _ _ c.1 in
      let e = and_parts _ _ d.1 in
      (a.0, b.0, not_true _ c.0, d.0, e.0, e.1)

  -- the test at a token and a first part
  at_token : (k : Kind) → accepts shape.operator k ≡ true → token_grows p shape k ≡ true
  at_token k a = when-at (accepts shape.operator k) (λ _. token_grows p shape k) (at-kind _ parts_of_test.0 k) a

  first_ends : (q : Production) → Suits shape q → (k : Kind) → accepts shape.operator k ≡ true → not (any_accepts (barred q) k) ≡ true
  unfolding token_grows
  first_ends q s k a =
      let here = when-at (is_expression q) _ (at-expression _ (and_parts _ _ (at_token k a)).1 q s.expression) s.expression in
      when-at (suits shape (level_of (home q)) (is_bare_name q)) _ here s.suits_it

  first_goes : (q : Production) → Suits shape q → (k : Kind) → accepts shape.operator k ≡ true → (n : ℕ)
      → nat_le n (level_of (home p)) ≡ true
      → goes_on p shape (level_of (home q)) (is_bare_name q) n k ≡ true
  unfolding token_grows
  first_goes q s k a n l =
      let one = below-at 16 _ (and_parts _ _ (at_token k a)).0 (level_of (home q)) (omega (arith, expression-level q s.expression)) in
      let two = below-at 16 _ one n (omega (arith, expression-level p expression, leb-true n (level_of (home p)) l)) in
      let both = and_parts _ _ (when-at (nat_le n (level_of (home p))) _ two l) in
      go (is_bare_name q) s.suits_it both.0 both.1
    where
      go : (name : Bool) → suits shape (level_of (home q)) name ≡ true
          → when (suits shape (level_of (home q)) true) (λ _. goes_on p shape (level_of (home q)) true n k) ≡ true
          → when (suits shape (level_of (home q)) false) (λ _. goes_on p shape (level_of (home q)) false n k) ≡ true
          → goes_on p shape (level_of (home q)) name n k ≡ true
      go true s h h' = when-at (suits shape (level_of (home q)) true) (λ _. goes_on p shape (level_of (home q)) true n k) h s
      go false s h h' = when-at (suits shape (level_of (home q)) false) (λ _. goes_on p shape (level_of (home q)) false n k) h' s

  -- from the token behind the first part on
  goes : (q : Production) (g : Forest) (x : Token) (f : Forest) → Suits shape q → accepts shape.operator (kind_of x) ≡ true
      → Match (template p) (more (node q g) (more (leaf x) f)) → Match shape.others f → AllKnown f
      → (n : ℕ) → nat_le n (level_of (home p)) ≡ true
      → (symbols : List Symbol) (values : List Written) (t : Token) (tokens : List Token) → not (any_accepts (barred p) (kind_of t)) ≡ true
      → Reaches (at (left n (node q g) ++ symbols) (node q g ∷ values) (x ∷ (spells f ++ t ∷ tokens)))
      (at (left n (node p (more (node q g) (more (leaf x) f))) ++ symbols) (node p (more (node q g) (more (leaf x) f)) ∷ values)
      (t ∷ tokens))
  unfolding left levels_of is_name_node goes_on wanted push
  goes q g x f s a m others known n l symbols values t tokens e =
      let whole = more (node q g) (more (leaf x) f) in
      let after = map tail_symbol (left_numbers n (level_of (home p)) (is_bare_name p)) in
      let one = takes-reaches (map tail_symbol (left_numbers n (level_of (home q)) (is_bare_name q)))
      (readers shape.others ++ symbol.Reduce p ∷ after) symbols
      (node q g ∷ values) x (spells f ++ t ∷ tokens) (first_goes q s (kind_of x) a n l) in
      let two = sequence-reads shape.others f (may_end p) (symbol.Reduce p ∷ (after ++ symbols)) (leaf x ∷ (node q g ∷ values)) (t ∷ tokens)
      parts_of_test.1 others known e (λ o. absurd (true≢false (sym o ∙ parts_of_test.2))) in
      let three = reduce-step p (after ++ symbols) (push whole values) (t ∷ tokens) in
      join (rw append_assoc at one) (join two (rw (reduce-push p whole values m) at three))

  first_level : (q : Production) → Suits shape q → (n : ℕ) → nat_le n (level_of (home p)) ≡ true → nat_le n (level_of (home q)) ≡ true
  unfolding suits
  first_level q s n l =
      let a = leb-true n (level_of (home p)) l in
      let b = leb-true (level_of (home p)) shape.level parts_of_test.4 in
      let c = leb-true shape.level (level_of (home q)) (and_parts _ _ s.suits_it).0 in
      le-leb n (level_of (home q)) (omega arith)

  -- the level of a first part, where the whole is of level 15
  first_last : (q : Production) → Suits shape q → nat_le 14 (level_of (home p)) ≡ true → (level_of (home p) ≡ 15) × (level_of (home q) ≡ 15)
  unfolding suits
  first_last q s h =
      let both = and_parts _ _ (when-at (nat_le 14 (level_of (home p))) _ parts_of_test.5 h) in
      let a : level_of (home p) ≡ 15 = eqb-true (level_of (home p)) 15 both.0 in
      let b : shape.level ≡ 15 = eqb-true shape.level 15 both.1 in
      let c = leb-true shape.level (level_of (home q)) (and_parts _ _ s.suits_it).0 in
      let d = expression-level q s.expression in
      (a, omega arith)

  by_parts : (f : Forest) → Match (template p) f → Match (class.part (first_class shape) ∷ class.token shape.operator
      ∷ shape.others) f → AllKnown f
      → Heads (node p f)
  unfolding Match IsProper AllKnown levels_of barred_of
  by_parts none m m' known = absurd m'
  by_parts (more (leaf t) f) m m' known = absurd m'.0
  by_parts (more (node q g) none) m m' known = absurd m'.3
  by_parts (more (node q g) (more (node r h) f)) m m' known = absurd m'.3.0
  by_parts (more (node q g) (more (leaf x) f)) m m' known =
      let s : Suits shape q = suits-by shape.level shape.bare shape.operator shape.others q parts_of_test.3 m'.0 in
      let first : Heads (node q g) = known-heads q g s.expression known.0 in
      let ends = first_ends q s (kind_of x) m'.3.0 in
      let going = goes q g x f s m'.3.0 m m'.3.3 known.1.1 in
      record {
        behind = λ h.
            let b = first.behind (first_level q s 14 h) in
            let last = first_last q s h in
            record {
              first = b.first;
              rest = b.rest ++ x ∷ spells f;
              spelled = ap (λ tokens. tokens ++ x ∷ spells f) b.spelled;
              inside = λ a t tokens. rw append_assoc (b.inside a x (spells f ++ t ∷ tokens));
              reads = λ symbols values t tokens e. rw (append_assoc, ← left-tail (node p (more (node q g) (more (leaf x) f))) last.0)
                  (join (b.reads symbols values x (spells f ++ t ∷ tokens) ends)
                  (rw (← left-tail (node q g) last.1) (going 15 (le-leb 15 _ (omega arith)) symbols values t tokens e)));
            };
        heads = λ n l b symbols values t tokens e.
            rw append_assoc (join (first.heads n (first_level q s n l) b symbols values x (spells f ++ t ∷ tokens) ends)
            (going n l symbols values t tokens e));
      }

  pub grows-heads : (f : Forest) → template p ≡ class.part (first_class shape) ∷ class.token shape.operator ∷ shape.others
      → Match (template p) f → AllKnown f → Heads (node p f)
  grows-heads f right_side m known = by_parts f m (subst (λ pieces. Match pieces f) right_side m) known
