-- What has been left behind an expression goes away before a token that can't go on with it.
use Rattle.std.proofs.Common.{◌≡◌, ℕ, zero, suc, ◌+◌, ◌<◌, ◌≤◌, Bool, true, false, not, ◌&&◌, nat_le, List, []}
use Rattle.std.proofs.Common.{◌∷◌, ◌++◌, map, refl, subst, zero-add, suc-add, ◌-◌, arith}
use Rattle.std.proofs.lemmas.Bool.{and_parts, and_from, leb-true}
use Rattle.csyn.specs.declared.token.Token.{Token}
use Rattle.cgrammar.specs.declared.kind.Kind.{Kind}
use Rattle.cgrammar.specs.declared.production.Production.{Production}
use Rattle.creader.specs.declared.part.Symbol.{Symbol}
use Rattle.cgrammar.specs.Kind.{kind_of}
use Rattle.cgrammar.specs.Terminal.{accepts, keyword_number, punctuator_number}
use Rattle.creader.specs.Rules.{rules, chain_rules, chain_tail_rules, choose, any_accepts}
use Rattle.cgrammar.specs.Grammar.{home, operator_level, comparison_level, logical_level}
use Rattle.cgrammar.specs.Text.{Written}
use Rattle.creader.specs.Machine.{at, Reaches}
use Rattle.creader.proofs.Complete.Reading.{extenders, operators_from}
use Rattle.creader.proofs.Complete.Heads.{level_of, is_level, is_expression, tail_symbol, left_numbers}
use Rattle.creader.proofs.Complete.Heads.{postfix_numbers, after_numbers, chain_numbers, barred}
use Rattle.creader.proofs.Complete.Kinds.{each, every_kind, at-kind, kinds}
use Rattle.creader.proofs.Complete.Steps.{join}
use Rattle.creader.proofs.Complete.Expressions.Tables.{when, when-at, every_below, below-at, every_expression, at-expression}
use Rattle.creader.proofs.Complete.Expressions.Symbols.{same}
use Rattle.creader.proofs.Complete.Expressions.Stays.{stayed, stayed_by, once, settle, settles, settles-reaches}

-- such a token may stand behind an expression of level n
unfoldable pub allowed : ℕ → Kind → Bool
allowed n kind = not (any_accepts (extenders n) kind)

-- and then behind a tighter one
unfoldable tighter_test : Bool
tighter_test = every_below 15 (λ n. every_kind (λ k. when (allowed n k) (λ _. allowed (suc n) k)))

tighter_holds : tighter_test ≡ true
unfolding tighter_test every_below every_kind each kinds when allowed any_accepts accepts keyword_number punctuator_number extenders
    operators_from
tighter_holds = refl

tighter : (n : ℕ) (k : Kind) → n < 15 → allowed n k ≡ true → allowed (suc n) k ≡ true
unfolding tighter_test
tighter n k l h = when-at (allowed n k) _ (at-kind _ (below-at 15 _ tighter_holds n l) k) h

tighter_by : (d n : ℕ) (k : Kind) → d + n ≤ 15 → allowed n k ≡ true → allowed (d + n) k ≡ true
tighter_by zero n k l h = rw zero-add h
tighter_by (suc d) n k l h = rw suc-add (tighter (d + n) k (rw suc-add at l) (tighter_by d n k (omega arith) h))

pub allowed_from : (n m : ℕ) (k : Kind) → n ≤ m → m ≤ 15 → allowed n k ≡ true → allowed m k ≡ true
allowed_from n m k l b h =
    let e : (m - n) + n ≡ m = omega arith in
    subst (λ x. allowed x k ≡ true) e (tighter_by (m - n) n k (rw e b) h)

-- what may stand behind an expression of its level doesn't go on with the last part of an expression
unfoldable ends_test : Bool
ends_test = every_expression (λ p. when (is_expression p) (λ _. nat_le (level_of (home p)) 15
    && every_kind (λ k. when (allowed (level_of (home p)) k) (λ _. not (any_accepts (barred p) k)))))

ends_holds : ends_test ≡ true
unfolding ends_test every_expression is_expression is_level home operator_level comparison_level logical_level level_of barred
    every_kind each kinds when allowed
    any_accepts accepts keyword_number punctuator_number extenders operators_from
ends_holds = refl

pub expression-level : (p : Production) → is_expression p ≡ true → level_of (home p) ≤ 15
unfolding ends_test
expression-level p e = leb-true _ _ (and_parts _ _ (when-at (is_expression p) _ (at-expression _ ends_holds p e) e)).0

pub expression-ends : (p : Production) (n : ℕ) (k : Kind) → is_expression p ≡ true → n ≤ level_of (home p) → allowed n k ≡ true
    → not (any_accepts (barred p) k) ≡ true
unfolding ends_test
expression-ends p n k e l h =
    let here = (and_parts _ _ (when-at (is_expression p) _ (at-expression _ ends_holds p e) e)).1 in
    when-at (allowed (level_of (home p)) k) _ (at-kind _ here k) (allowed_from n (level_of (home p)) k l (expression-level p e) h)

-- one tail goes away
unfoldable pub gone : Kind → ℕ → Bool
gone kind tail = settles (tail_symbol tail ∷ []) kind []

pub gone-reaches : (tails : List ℕ) (more : List Symbol) (values : List Written) (t : Token) (tokens : List Token)
    → each (gone (kind_of t)) tails ≡ true
    → Reaches (at (map tail_symbol tails ++ more) values (t ∷ tokens)) (at more values (t ∷ tokens))
unfolding each gone
gone-reaches [] more values t tokens h = Reaches.here
gone-reaches (tail ∷ tails) more values t tokens h =
    let both = and_parts (gone (kind_of t) tail) (each (gone (kind_of t)) tails) h in
    join (settles-reaches (tail_symbol tail ∷ []) [] (map tail_symbol tails ++ more) values t tokens both.0)
    (gone-reaches tails more values t tokens both.1)

-- each tail from level n on goes away before what may stand behind an expression of level n
unfoldable gone_test : Bool
gone_test = every_below 15 (λ n. every_kind (λ k. when (allowed n k)
    (λ _. every_below 16 (λ tail. when (nat_le n tail) (λ _. gone k tail)))))

gone_holds : gone_test ≡ true
unfolding gone_test gone every_kind every_below each kinds when allowed any_accepts accepts keyword_number punctuator_number
    extenders operators_from
    tail_symbol settles settle once stayed stayed_by choose rules chain_rules chain_tail_rules same
gone_holds = refl

-- and only such tails are left
unfoldable left_test : Bool
left_test = every_below 15 (λ n. every_below 16 (λ m. when (nat_le n m) (λ _.
    each (λ tail. nat_le n tail && nat_le tail 15) (left_numbers n m true) && each (λ tail. nat_le n tail
    && nat_le tail 15) (left_numbers n m false))))

left_holds : left_test ≡ true
unfolding left_test every_below each when left_numbers postfix_numbers after_numbers chain_numbers
left_holds = refl

each-implies : (test other : ℕ → Bool) → ((x : ℕ) → test x ≡ true → other x ≡ true) → (xs : List ℕ) → each test xs ≡ true
    → each other xs ≡ true
unfolding each
each-implies test other f [] h = refl
each-implies test other f (x ∷ xs) h =
    let both = and_parts (test x) (each test xs) h in
    and_from (other x) (each other xs) (f x both.0) (each-implies test other f xs both.1)

left_in_range : (n m : ℕ) (name : Bool) → n < 15 → m < 16 → nat_le n m ≡ true
    → each (λ tail. nat_le n tail && nat_le tail 15) (left_numbers n m name) ≡ true
unfolding left_test
left_in_range n m true a b l = (and_parts _ _ (when-at (nat_le n m) _ (below-at 16 _ (below-at 15 _ left_holds n a) m b) l)).0
left_in_range n m false a b l = (and_parts _ _ (when-at (nat_le n m) _ (below-at 16 _ (below-at 15 _ left_holds n a) m b) l)).1

gone_at : (n tail : ℕ) (k : Kind) → n < 15 → allowed n k ≡ true → nat_le n tail ≡ true → tail < 16 → gone k tail ≡ true
unfolding gone_test
gone_at n tail k a h l b = when-at (nat_le n tail) _ (below-at 16 _
    (when-at (allowed n k) _ (at-kind _ (below-at 15 _ gone_holds n a) k) h) tail b) l

-- all that has been left goes away
pub left-gone : (n m : ℕ) (name : Bool) (k : Kind) → n < 15 → m < 16 → nat_le n m ≡ true → allowed n k ≡ true
    → each (gone k) (left_numbers n m name) ≡ true
left-gone n m name k a b l h =
    each-implies (λ tail. nat_le n tail && nat_le tail 15) (gone k)
    (λ tail both. let parts = and_parts (nat_le n tail) (nat_le tail 15) both in
    let top = leb-true tail 15 parts.1 in gone_at n tail k a h parts.0 (omega arith))
    (left_numbers n m name) (left_in_range n m name a b l)
