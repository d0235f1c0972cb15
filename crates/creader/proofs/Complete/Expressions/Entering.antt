-- Expressions of levels 14 and 15, read from behind their first token: from whatever symbols take that token as a unary expression does.
use Rattle.std.proofs.Common.{◌≡◌, ℕ, ◌≤◌, Bool, true, false, not, ◌&&◌, ◌||◌, ◌⊎◌, if◌then◌else◌, nat_le, nat_eq, List, []}
use Rattle.std.proofs.Common.{◌∷◌, ◌++◌, map, refl, ◌∙◌, subst, ap, inl, inr, arith, append_assoc}
use Rattle.std.proofs.lemmas.List.{map-append}
use Rattle.std.proofs.lemmas.Bool.{and_parts, leb-true, not_from_false}
use Rattle.csyn.specs.declared.token.Token.{Token}
use Rattle.csyn.specs.declared.punctuator.Punctuator.TheVariants as punctuator
use Rattle.cgrammar.specs.declared.kind.Kind.{Kind}
use Rattle.cgrammar.specs.declared.kind.Kind.TheVariants as kind
use Rattle.cgrammar.specs.declared.production.Production.{Production}
use Rattle.creader.specs.declared.part.Part.TheVariants as part
use Rattle.creader.specs.declared.part.Symbol.{Symbol}
use Rattle.creader.specs.declared.part.Symbol.TheVariants as symbol
use Rattle.cgrammar.specs.Kind.{kind_of}
use Rattle.cgrammar.specs.Terminal.{accepts, keyword_number, punctuator_number}
use Rattle.creader.specs.Rules.{rules, chain_rules, chain_tail_rules, choose, any_accepts}
use Rattle.cgrammar.specs.Grammar as class
use Rattle.cgrammar.specs.Grammar.{template, home}
use Rattle.cgrammar.specs.Text.{Written, leaf, node, Forest, spell, Match, IsProper}
use Rattle.creader.specs.Machine.{at, Reaches}
use Rattle.creader.proofs.Complete.Reading.{level_reader, chain_of, chain_part}
use Rattle.creader.proofs.Complete.Kinds.{each, every_kind, at-kind, kinds}
use Rattle.creader.proofs.Complete.Steps.{join}
use Rattle.creader.proofs.Complete.Firsts.{Begins, begins-as, firsts, nullable, written-begins, sign}
use Rattle.creader.proofs.Complete.Heads.{Heads, Behind, Ends, is_expression, is_bare_name, is_name_node, level_of, levels_of, left}
use Rattle.creader.proofs.Complete.Heads.{left_numbers, postfix_numbers, after_numbers, chain_numbers, tail_of, tail_symbol, inner}
use Rattle.creader.proofs.Complete.Heads.{symbols_of, starts_expression}
use Rattle.creader.proofs.Complete.Expressions.Tables.{when, when-at, every_below, below-at, level_zero}
use Rattle.creader.proofs.Complete.Productions.{production_number, operator_number, comparison_number, logical_number}
use Rattle.creader.proofs.Complete.Expressions.Symbols.{same, same_symbol, symbol_number, same-path}
use Rattle.creader.proofs.Complete.Expressions.Stays.{takes, takes_now, taken, taken_by, settle, once, stayed}
use Rattle.creader.proofs.Complete.Expressions.Stays.{stayed_by, takes-reaches, settle-reaches}
use Rattle.creader.proofs.Complete.Expressions.Tails.{expression-level}

abbrev pub is_open : Kind → Bool
is_open kind = accepts (sign punctuator.LeftParenthesis) kind

-- The symbols take the first token of an expression as a unary expression does. At a parenthesis they first become others, which go on,
-- after so many steps, before the first token of the expression in it.
unfoldable pub enters : List Symbol → List Symbol → ℕ → List Symbol → Bool
enters start opened steps after = every_kind (λ k. when (starts_expression k) (λ _.
    when (not (is_open k)) (λ _. takes start k (inner k ++ after))
    && when (is_open k) (λ _. takes start k opened && every_kind (λ l. when (starts_expression l) (λ _. same (settle steps opened l)
    (inner k ++ after))))))

-- before whatever token that passes a test the symbols become these
pub opened-goes : (test : Kind → Bool) (opened found : List Symbol) (steps : ℕ) (symbols : List Symbol) (values : List Written)
    (tokens : List Token)
    → every_kind (λ l. when (test l) (λ _. same (settle steps opened l) found)) ≡ true → Begins test tokens
    → Reaches (at (opened ++ symbols) values tokens) (at (found ++ symbols) values tokens)
opened-goes test opened found steps symbols values [] h b = absurd b
opened-goes test opened found steps symbols values (t ∷ tokens) h b =
    let e = same-path (settle steps opened (kind_of t)) found (when-at (test (kind_of t)) _ (at-kind _ h (kind_of t)) b) in
    subst (λ s. Reaches (at (opened ++ symbols) values (t ∷ tokens)) (at (s ++ symbols) values (t ∷ tokens))) e
    (settle-reaches steps opened symbols values t tokens)

pub enter : (w : Written) (start opened : List Symbol) (steps : ℕ) (after : List Symbol) → enters start opened steps after ≡ true
    → (b : Behind w) → starts_expression (kind_of b.first) ≡ true
    → (symbols : List Symbol) (values : List Written) (t : Token) (tokens : List Token) → Ends w (kind_of t)
    → Reaches (at (start ++ symbols) values (spell w ++ t ∷ tokens)) (at (tail_of w ++ (after ++ symbols)) (w ∷ values) (t ∷ tokens))
unfolding enters
enter w start opened steps after h b s symbols values t tokens e =
    let here = when-at (starts_expression (kind_of b.first)) _ (at-kind _ h (kind_of b.first)) s in
    let both = and_parts _ _ here in
    rw b.spelled (join (go (is_open (kind_of b.first)) refl both.0 both.1) (b.reads (after ++ symbols) values t tokens e))
  where
    go : (o : Bool) → is_open (kind_of b.first) ≡ o
        → when (not (is_open (kind_of b.first))) (λ _. takes start (kind_of b.first) (inner (kind_of b.first) ++ after)) ≡ true
        → when (is_open (kind_of b.first)) (λ _. takes start (kind_of b.first) opened
        && every_kind (λ l. when (starts_expression l) (λ _. same (settle steps opened l) (inner (kind_of b.first) ++ after)))) ≡ true
        → Reaches (at (start ++ symbols) values (b.first ∷ (b.rest ++ t ∷ tokens)))
        (at (inner (kind_of b.first) ++ (after ++ symbols)) (leaf b.first ∷ values) (b.rest ++ t ∷ tokens))
    go false o h h' = rw (← append_assoc (inner (kind_of b.first)))
        (takes-reaches start (inner (kind_of b.first) ++ after) symbols values b.first (b.rest ++ t ∷ tokens)
        (when-at _ _ h (not_from_false _ o)))
    go true o h h' =
        let two = and_parts _ _ (when-at _ _ h' o) in
        rw (← append_assoc (inner (kind_of b.first)))
        (join (takes-reaches start opened symbols values b.first (b.rest ++ t ∷ tokens) two.0)
        (opened-goes starts_expression opened (inner (kind_of b.first) ++ after) steps symbols (leaf b.first ∷ values)
        (b.rest ++ t ∷ tokens) two.1
        (b.inside o t tokens)))

-- how the reader of a level takes a parenthesis, and what stands behind the unary expression
unfoldable pub opened_at : ℕ → List Symbol
opened_at n = if nat_le n 1 then symbol.Read part.AssignmentParenthesis ∷ map tail_symbol (if nat_eq n 0 then 0 ∷ [] else [])
    else (if nat_le n 13 then symbol.Read part.OperandParenthesis ∷ map tail_symbol (after_numbers n 13) else inner
    (kind.Punctuator punctuator.LeftParenthesis))

unfoldable steps_at : ℕ → ℕ
steps_at n = if nat_le n 13 then 1 else 0

unfoldable levels_enter : Bool
levels_enter = every_below 15 (λ n. enters (level_reader n) (opened_at n) (steps_at n) (map tail_symbol (after_numbers n 14)))

levels-enter : levels_enter ≡ true
unfolding levels_enter every_below enters every_kind each kinds when starts_expression firsts any_accepts accepts keyword_number
    punctuator_number
    takes takes_now taken taken_by settle once stayed stayed_by choose rules chain_rules chain_tail_rules level_reader chain_of
    chain_part opened_at
    steps_at
    tail_symbol after_numbers chain_numbers inner symbols_of same same_symbol symbol_number production_number operator_number
    comparison_number logical_number
levels-enter = refl

-- what is left does not tell levels 14 and 15 apart, but for the tail of level 15
fifteen : (n : ℕ) → after_numbers n 15 ≡ after_numbers n 14
unfolding after_numbers chain_numbers
fifteen n = refl

pub after_highest : (n m : ℕ) → 14 ≤ m → m ≤ 15 → after_numbers n m ≡ after_numbers n 14
after_highest n m a b = go (either m a b)
  where
    either : (m : ℕ) → 14 ≤ m → m ≤ 15 → (m ≡ 14) ⊎ (m ≡ 15)
    either m a b = grind arith

    go : (m ≡ 14) ⊎ (m ≡ 15) → after_numbers n m ≡ after_numbers n 14
    go (inl e) = ap (after_numbers n) e
    go (inr e) = ap (after_numbers n) e ∙ fifteen n

or_nothing : (b : Bool) → (b || false) ≡ true → b ≡ true
or_nothing true h = refl
or_nothing false h = h

-- an expression begins as one
pub expression-begins : (p : Production) (f : Forest) → is_expression p ≡ true → Match (template p) f → (t : Token) (tokens : List Token)
    → Begins starts_expression (spell (node p f) ++ t ∷ tokens)
unfolding is_expression starts_expression nullable IsProper
expression-begins p f e m t tokens =
    begins-as (λ kind. any_accepts (firsts (class.level 0)) kind || (nullable (class.level 0)
    && true)) starts_expression (spell (node p f) ++ t ∷ tokens)
    (λ kind h. or_nothing (any_accepts (firsts (class.level 0)) kind) h)
    (written-begins (node p f) m (class.level 0) (level_zero (home p) e) (λ _. true) (t ∷ tokens) refl)

pub behind-starts : (p : Production) (f : Forest) → is_expression p ≡ true → Match (template p) f → (b : Behind (node p f))
    → starts_expression (kind_of b.first) ≡ true
behind-starts p f e m b = rw b.spelled at (expression-begins p f e m b.first [])

-- what is read from behind its first token is read where an expression of any level is wanted
pub behind-heads : (p : Production) (f : Forest) → is_expression p ≡ true → nat_le 14 (level_of (home p)) ≡ true → Match (template p) f
    → Behind (node p f) → Heads (node p f)
unfolding left left_numbers tail_of levels_of is_name_node levels_enter
behind-heads p f e h m b = record {
  behind = λ h. b;
  heads = λ n l n_low symbols values t tokens ends.
      let low = leb-true n 14 n_low in
      let entered = enter (node p f) (level_reader n) (opened_at n) (steps_at n) (map tail_symbol (after_numbers n 14))
      (below-at 15 _ levels-enter n (omega arith)) b
      (behind-starts p f e m b) symbols values t tokens ends in
      rw (
        map-append tail_symbol (postfix_numbers (level_of (home p)) (is_bare_name p)) (after_numbers n (level_of (home p))),
        after_highest n (level_of (home p)) (leb-true 14 _ h) (expression-level p e),
        append_assoc,
      ) entered;
}
