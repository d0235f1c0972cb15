-- Facts that are computed: a test at all numbers below a bound, at all productions of expressions.
use Rattle.std.proofs.Common.{◌≡◌, ℕ, zero, suc, ◌<◌, Bool, true, false, ◌&&◌, ◌⊎◌, List, [], ◌∷◌, refl}
use Rattle.std.proofs.Common.{sym, subst, inl, inr, true≢false, arith, zero-le}
use Rattle.std.proofs.lemmas.Bool.{and_parts, or_right, le-leb}
use Rattle.cgrammar.specs.declared.production.Production.{Production}
use Rattle.cgrammar.specs.declared.production.Word.{Word}
use Rattle.cgrammar.specs.declared.production.Word.TheVariants as word
use Rattle.cgrammar.specs.declared.production.Words.{Words}
use Rattle.cgrammar.specs.declared.production.Words.TheVariants as every_word
use Rattle.cgrammar.specs.Grammar as class
use Rattle.cgrammar.specs.Grammar.{Class, home, under, is_wider, class_number, words_number, operator_level}
use Rattle.cgrammar.specs.Grammar.{comparison_level, logical_level, alone, joined}
use Rattle.creader.proofs.Complete.Kinds.{each}
use Rattle.creader.proofs.Complete.Productions.{productions, kept, makers, In, in-makers}
use Rattle.creader.proofs.Complete.Heads.{is_expression, is_level}

-- a test that is made only where another holds
unfoldable pub when : Bool → (Unit {0} → Bool) → Bool
when true test = test tt
when false test = true

pub when-at : (b : Bool) (test : Unit {0} → Bool) → when b test ≡ true → b ≡ true → test tt ≡ true
unfolding when
when-at true test h e = h
when-at false test h e = absurd (true≢false (sym e))

-- at the numbers below a bound
unfoldable pub every_below : ℕ → (ℕ → Bool) → Bool
every_below zero test = true
every_below (suc n) test = test n && every_below n test

either_way : (a b : ℕ) → a < suc b → (a ≡ b) ⊎ (a < b)
either_way a b l = grind arith

at_last_or_below : (test : ℕ → Bool) (i n : ℕ) → (i ≡ n) ⊎ (i < n) → test n ≡ true → (i < n → test i ≡ true) → test i ≡ true
at_last_or_below test i n (inl e) h below = subst (λ x. test x ≡ true) (sym e) h
at_last_or_below test i n (inr m) h below = below m

pub below-at : (n : ℕ) (test : ℕ → Bool) → every_below n test ≡ true → (i : ℕ) → i < n → test i ≡ true
unfolding every_below
below-at zero test h i l = absurd (omega arith)
below-at (suc n) test h i l = at_last_or_below test i n (either_way i n l) (and_parts (test n) (every_below n test) h).0
    (below-at n test (and_parts (test n) (every_below n test) h).1 i)

-- at the productions of expressions
unfoldable pub every_expression : (Production → Bool) → Bool
unfolding makers kept productions under home is_wider class_number words_number operator_level comparison_level logical_level alone joined
every_expression test = each test (makers (class.level 0))

each-in : (test : Production → Bool) (ps : List Production) (p : Production) → each test ps ≡ true → In p ps → test p ≡ true
unfolding each
each-in test [] p h i = absurd i
each-in test (q ∷ ps) p h (inl e) = rw e (and_parts (test q) (each test ps) h).0
each-in test (q ∷ ps) p h (inr i) = each-in test ps p (and_parts (test q) (each test ps) h).1 i

pub level_zero : (d : Class) → is_level d ≡ true → under d (class.level 0) ≡ true
unfolding is_level under is_wider class_number
level_zero (class.level m) h = or_right _ _ (le-leb 0 m zero-le)
level_zero class.callee h = refl
level_zero _ h = absurd (true≢false (sym h))

pub at-expression : (test : Production → Bool) → every_expression test ≡ true → (p : Production) → is_expression p ≡ true → test p ≡ true
unfolding every_expression is_expression
at-expression test h p e = each-in test (makers (class.level 0)) p h (in-makers p (class.level 0) (level_zero (home p) e))

-- words make no expression
pub joined-class : (all : Words) (w : Word) → is_level (joined all w) ≡ false
unfolding joined is_level
joined-class every_word.Sign word.Sign = refl
joined-class every_word.Char word.Sign = refl
joined-class every_word.Length word.Sign = refl
joined-class every_word.Int word.Sign = refl
joined-class every_word.SignChar word.Sign = refl
joined-class every_word.SignLength word.Sign = refl
joined-class every_word.SignInt word.Sign = refl
joined-class every_word.LengthInt word.Sign = refl
joined-class every_word.SignLengthInt word.Sign = refl
joined-class _ _ = refl
