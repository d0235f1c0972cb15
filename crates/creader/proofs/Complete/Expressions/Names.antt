-- A bare name, and the call of a function by its name: which of them it is, the token behind the name says.
use Rattle.std.proofs.Common.{◌≡◌, Bool, true, false, not, List, [], ◌∷◌, ◌++◌, refl, sym, subst, inl, inr, true≢false, append_assoc}
use Rattle.csyn.specs.declared.token.Token.{Token}
use Rattle.csyn.specs.declared.punctuator.Punctuator.TheVariants as punctuator
use Rattle.cgrammar.specs.declared.production.Production.{Production}
use Rattle.cgrammar.specs.declared.production.Production.TheVariants as make
use Rattle.cgrammar.specs.declared.terminal.Terminal.TheVariants as terminal
use Rattle.creader.specs.declared.part.Part.TheVariants as part
use Rattle.creader.specs.declared.part.Symbol.{Symbol}
use Rattle.creader.specs.declared.part.Symbol.TheVariants as symbol
use Rattle.cgrammar.specs.Kind.{kind_of}
use Rattle.cgrammar.specs.Terminal.{accepts, keyword_number, punctuator_number}
use Rattle.creader.specs.Rules.{rules, choose, any_accepts}
use Rattle.cgrammar.specs.Grammar as class
use Rattle.cgrammar.specs.Grammar.{Piece, sign, template, home, under, is_wider, class_number, words_number}
use Rattle.cgrammar.specs.Grammar.{operator_level, comparison_level, logical_level, alone, joined}
use Rattle.cgrammar.specs.Text.{Written, leaf, node, Forest, none, more, spells, Match, IsProper, dangles}
use Rattle.creader.specs.Machine.{at, Reaches}
use Rattle.creader.proofs.Complete.Reading.{reader, has_reader, follow, allows, is_statement}
use Rattle.creader.proofs.Complete.Kinds.{each, every_kind, at-kind, kinds}
use Rattle.creader.proofs.Complete.Steps.{join, reduce-step, push, reduce-push}
use Rattle.creader.proofs.Complete.Productions.{productions, kept, makers, In, in-makers}
use Rattle.creader.proofs.Complete.Firsts.{may_begin, firsts, nullable}
use Rattle.creader.proofs.Complete.Sequence.{readers, fits, ends_open, before_end, sequence-reads}
use Rattle.creader.proofs.Complete.Heads.{may_end, Heads, Behind, AllKnown, is_expression, is_level, is_bare_name, is_name_node}
use Rattle.creader.proofs.Complete.Heads.{level_of, levels_of, postfix_numbers, tail_of, tail_symbol, inner, symbols_of, barred}
use Rattle.creader.proofs.Complete.Heads.{barred_of}
use Rattle.creader.proofs.Complete.Expressions.Tables.{when, when-at}
use Rattle.creader.proofs.Complete.Productions.{production_number, operator_number, comparison_number, logical_number}
use Rattle.creader.proofs.Complete.Expressions.Symbols.{same, same_symbol, symbol_number, same-path}
use Rattle.creader.proofs.Complete.Expressions.Stays.{settles, settles-reaches, takes, takes-reaches, takes_now, taken}
use Rattle.creader.proofs.Complete.Expressions.Stays.{taken_by, settle, once, stayed, stayed_by}
use Rattle.creader.proofs.Complete.Expressions.Entering.{is_open, behind-heads}

identifier-list : makers class.identifier ≡ make.Identifier ∷ []
unfolding makers kept productions under home is_wider class_number words_number operator_level comparison_level logical_level alone joined
identifier-list = refl

only_identifier : (p : Production) → under (home p) class.identifier ≡ true → p ≡ make.Identifier
only_identifier p h = go (rw identifier-list at (in-makers p class.identifier h))
  where
    go : In p (make.Identifier ∷ []) → p ≡ make.Identifier
    go (inl e) = e
    go (inr e) = absurd e

-- what an identifier is
data IsIdentifier : Written → Type 0 where
  identifier : (x : Token) → accepts terminal.Name (kind_of x) ≡ true → IsIdentifier (node make.Identifier (more (leaf x) none))

identifier-parts : (f : Forest) → Match (template make.Identifier) f → IsIdentifier (node make.Identifier f)
unfolding template Match
identifier-parts none m = absurd m
identifier-parts (more (node _ _) f) m = absurd m.0
identifier-parts (more (leaf x) none) m = identifier x m.0
identifier-parts (more (leaf x) (more _ _)) m = absurd m.3

is_identifier : (p : Production) (f : Forest) → under (home p) class.identifier ≡ true → Match (template p) f → IsIdentifier (node p f)
is_identifier p f u m =
    let e = only_identifier p u in
    subst (λ q. IsIdentifier (node q f)) (sym e) (identifier-parts f (subst (λ q. Match (template q) f) e m))

-- what is behind a name, computed
unfoldable name_inner : Bool
name_inner = every_kind (λ k. when (accepts terminal.Name k)
    (λ _. same (inner k) (symbol.Reduce make.Identifier ∷ symbol.Read part.AfterName ∷ [])))

name-inner : name_inner ≡ true
unfolding name_inner every_kind each kinds when accepts keyword_number punctuator_number any_accepts inner symbols_of choose rules
    same same_symbol
    symbol_number
    production_number operator_number comparison_number logical_number
name-inner = refl

unfoldable name_closed : Bool
name_closed = every_kind (λ k. when (accepts terminal.Name k) (λ _. not (is_open k)))

name-closed : name_closed ≡ true
unfolding name_closed every_kind each kinds when accepts keyword_number punctuator_number
name-closed = refl

unfoldable name_alone : Bool
name_alone = every_kind (λ k. when (may_end make.Name k) (λ _. settles (symbol.Read part.AfterName ∷ []) k
    (symbol.Reduce make.Name ∷ symbol.Read part.NameTail ∷ [])))

name-alone : name_alone ≡ true
unfolding name_alone every_kind each kinds when accepts keyword_number punctuator_number any_accepts barred settles settle once
    stayed stayed_by
    choose rules same
    same_symbol symbol_number production_number operator_number comparison_number logical_number
name-alone = refl

abbrev call_pieces : List Piece
call_pieces = class.part class.arguments ∷ sign punctuator.RightParenthesis ∷ []

unfoldable name_called : Bool
name_called = every_kind (λ k. when (is_open k) (λ _. takes (symbol.Read part.AfterName ∷ []) k
    (readers call_pieces ++ symbol.Reduce make.CallFunction ∷ symbol.Read part.PostfixTail ∷ [])))

name-called : name_called ≡ true
unfolding name_called every_kind each kinds when accepts keyword_number punctuator_number any_accepts takes takes_now taken taken_by
    settle once
    stayed stayed_by choose
    rules same same_symbol symbol_number production_number operator_number comparison_number logical_number readers reader
name-called = refl

call-fits : fits call_pieces (may_end make.CallFunction) ≡ true
unfolding fits before_end is_statement reader has_reader every_kind each kinds may_begin firsts nullable any_accepts accepts keyword_number
    punctuator_number follow allows barred
call-fits = refl

-- no name is a parenthesis
name_is_closed : (x : Token) → accepts terminal.Name (kind_of x) ≡ true → is_open (kind_of x) ≡ true → ⊥
unfolding name_closed
name_is_closed x a o = go (is_open (kind_of x)) (when-at (accepts terminal.Name (kind_of x)) _ (at-kind _ name-closed (kind_of x)) a) o
  where
    go : (b : Bool) → not b ≡ true → b ≡ true → ⊥
    go true h e = true≢false (sym h)
    go false h e = true≢false (sym e)

-- an identifier is made of the name
identifier-made : (x : Token) → accepts terminal.Name (kind_of x) ≡ true
    → (symbols : List Symbol) (values : List Written) (tokens : List Token)
    → Reaches (at (inner (kind_of x) ++ symbols) (leaf x ∷ values) tokens)
    (at (symbol.Read part.AfterName ∷ symbols) (node make.Identifier (more (leaf x) none) ∷ values) tokens)
unfolding name_inner push template Match IsProper dangles
identifier-made x a symbols values tokens =
    let m : Match (template make.Identifier) (more (leaf x) none) = (a, tt, (λ _. refl), tt) in
    let found = same-path _ _ (when-at (accepts terminal.Name (kind_of x)) _ (at-kind _ name-inner (kind_of x)) a) in
    let made = reduce-step make.Identifier (symbol.Read part.AfterName ∷ symbols) (leaf x ∷ values) tokens in
    rw found (rw (reduce-push make.Identifier (more (leaf x) none) values m) at made)

-- a bare name
name-behind : (w : Written) → IsIdentifier w → Match (template make.Name) (more w none) → Behind (node make.Name (more w none))
unfolding name_alone tail_of levels_of level_of is_name_node is_bare_name barred_of home postfix_numbers tail_symbol push
name-behind _ (identifier x a) m = record {
  first = x;
  rest = [];
  spelled = refl;
  inside = λ o t tokens. absurd (name_is_closed x a o);
  reads = λ symbols values t tokens e.
      let whole = more (node make.Identifier (more (leaf x) none)) none in
      let alone = settles-reaches (symbol.Read part.AfterName ∷ []) (symbol.Reduce make.Name ∷ symbol.Read part.NameTail ∷ []) symbols
      (node make.Identifier (more (leaf x) none) ∷ values) t tokens (when-at _ _ (at-kind _ name-alone (kind_of t)) e) in
      let made = reduce-step make.Name (symbol.Read part.NameTail ∷ symbols) (push whole values) (t ∷ tokens) in
      join (identifier-made x a symbols values (t ∷ tokens)) (join alone (rw (reduce-push make.Name whole values m) at made));
}

-- a call of a function by its name
call-behind : (w : Written) (y : Token) (f : Forest) → IsIdentifier w → is_open (kind_of y) ≡ true
    → Match (template make.CallFunction) (more w (more (leaf y) f))
    → Match call_pieces f → AllKnown f → Behind (node make.CallFunction (more w (more (leaf y) f)))
unfolding name_called tail_of levels_of level_of is_name_node is_bare_name barred_of home postfix_numbers tail_symbol push ends_open
    is_statement
call-behind _ y f (identifier x a) o m others known = record {
  first = x;
  rest = y ∷ spells f;
  spelled = refl;
  inside = λ o t tokens. absurd (name_is_closed x a o);
  reads = λ symbols values t tokens e.
      let name = node make.Identifier (more (leaf x) none) in
      let whole = more name (more (leaf y) f) in
      let called = takes-reaches (symbol.Read part.AfterName ∷ [])
      (readers call_pieces ++ symbol.Reduce make.CallFunction ∷ symbol.Read part.PostfixTail ∷ []) symbols
      (name ∷ values) y (spells f ++ t ∷ tokens) (when-at (is_open (kind_of y)) _ (at-kind _ name-called (kind_of y)) o) in
      let read = sequence-reads call_pieces f (may_end make.CallFunction)
      (symbol.Reduce make.CallFunction ∷ (symbol.Read part.PostfixTail ∷ symbols))
      (leaf y ∷ (name ∷ values)) (t ∷ tokens) call-fits others known e (λ o. absurd (true≢false (sym o))) in
      let made = reduce-step make.CallFunction (symbol.Read part.PostfixTail ∷ symbols) (push whole values) (t ∷ tokens) in
      join (identifier-made x a symbols values (y ∷ (spells f ++ t ∷ tokens)))
      (join (rw append_assoc at called) (join read (rw (reduce-push make.CallFunction whole values m) at made)));
}

name_parts : (f : Forest) → Match (class.part class.identifier ∷ []) f → Match (template make.Name) f → Heads (node make.Name f)
unfolding Match IsProper is_expression is_level home level_of
name_parts none m m' = absurd m
name_parts (more (leaf _) _) m m' = absurd m.0
name_parts (more (node _ _) (more _ _)) m m' = absurd m.3
name_parts (more (node p g) none) m m' = behind-heads make.Name (more (node p g) none) refl refl m' (name-behind (node p g)
    (is_identifier p g m.0 m.1) m')

pub name-reads : (f : Forest) → Match (template make.Name) f → Heads (node make.Name f)
unfolding template
name-reads f m = name_parts f m m

call_parts : (f : Forest) → Match (class.part class.identifier ∷ sign punctuator.LeftParenthesis ∷ call_pieces) f
    → Match (template make.CallFunction) f → AllKnown f
    → Heads (node make.CallFunction f)
unfolding Match IsProper AllKnown is_expression is_level home level_of
call_parts none m m' known = absurd m
call_parts (more (leaf _) _) m m' known = absurd m.0
call_parts (more (node _ _) none) m m' known = absurd m.3
call_parts (more (node _ _) (more (node _ _) _)) m m' known = absurd m.3.0
call_parts (more (node p g) (more (leaf y) f)) m m' known =
    behind-heads make.CallFunction (more (node p g) (more (leaf y) f)) refl refl m'
    (call-behind (node p g) y f (is_identifier p g m.0 m.1) m.3.0 m' m.3.3 known.1.1)

pub call-reads : (f : Forest) → Match (template make.CallFunction) f → AllKnown f → Heads (node make.CallFunction f)
unfolding template
call-reads f m known = call_parts f m m known
