-- Casts, and sizes of expressions and of types: behind a parenthesis the next token says whether a type stands in it.
use Rattle.std.proofs.Common.{◌≡◌, ℕ, ◌≤◌, Bool, true, false, not, ◌&&◌, List, [], ◌∷◌, ◌++◌, map, refl}
use Rattle.std.proofs.Common.{sym, true≢false, arith, append_assoc, append-nil, lit<}
use Rattle.std.proofs.lemmas.Bool.{and_parts, leb-true, le-leb}
use Rattle.csyn.specs.declared.token.Token.{Token}
use Rattle.csyn.specs.declared.keyword.Keyword.TheVariants as keyword
use Rattle.csyn.specs.declared.punctuator.Punctuator.TheVariants as punctuator
use Rattle.cgrammar.specs.declared.production.Production.{Production}
use Rattle.cgrammar.specs.declared.production.Production.TheVariants as make
use Rattle.creader.specs.declared.part.Part.TheVariants as part
use Rattle.creader.specs.declared.part.Symbol.TheVariants as symbol
use Rattle.cgrammar.specs.declared.terminal.Terminal.TheVariants as terminal
use Rattle.cgrammar.specs.Kind.{kind_of}
use Rattle.cgrammar.specs.Terminal.{accepts, keyword_number, punctuator_number}
use Rattle.creader.specs.Rules.{rules, chain_rules, chain_tail_rules, choose, any_accepts}
use Rattle.cgrammar.specs.Grammar as class
use Rattle.cgrammar.specs.Grammar.{Piece, sign, word, template, home, under}
use Rattle.cgrammar.specs.Text.{leaf, node, Forest, none, more, spells, Match, IsProper}
use Rattle.creader.proofs.Complete.Reading.{reader, level_reader, chain_of, chain_part, has_reader, follow}
use Rattle.creader.proofs.Complete.Reading.{allows, is_statement, extenders, operators_from}
use Rattle.creader.proofs.Complete.Kinds.{each, every_kind, at-kind, kinds}
use Rattle.creader.proofs.Complete.Steps.{join, reduce-step, push, reduce-push}
use Rattle.creader.proofs.Complete.Firsts.{may_begin, firsts, nullable, forest-begins}
use Rattle.creader.proofs.Complete.Sequence.{readers, fits, ends_open, before_end, sequence-reads}
use Rattle.creader.proofs.Complete.Heads.{may_end, Heads, Behind, AllKnown, is_expression, is_level, is_bare_name, is_name_node}
use Rattle.creader.proofs.Complete.Heads.{level_of, levels_of, left, left_numbers, postfix_numbers, after_numbers, chain_numbers}
use Rattle.creader.proofs.Complete.Heads.{tail_of, tail_symbol, inner, symbols_of, starts_expression, barred, barred_of}
use Rattle.creader.proofs.Complete.KnownReads.{known-heads, under-level, level-under}
use Rattle.creader.proofs.Complete.Expressions.Tables.{when, when-at, every_below, below-at}
use Rattle.creader.proofs.Complete.Productions.{production_number, operator_number, comparison_number, logical_number}
use Rattle.creader.proofs.Complete.Expressions.Symbols.{same, same_symbol, symbol_number, same-path}
use Rattle.creader.proofs.Complete.Expressions.Stays.{takes, takes-reaches, takes_now, taken, taken_by, settle, once, stayed, stayed_by}
use Rattle.creader.proofs.Complete.Expressions.Tails.{allowed, gone-reaches, left-gone, expression-ends, expression-level}
use Rattle.creader.proofs.Complete.Expressions.Entering.{is_open, enters, enter, opened-goes, opened_at}
use Rattle.creader.proofs.Complete.Expressions.Entering.{after_highest, behind-heads, behind-starts}

unfoldable sizeof_inner : Bool
sizeof_inner = every_kind (λ k. when (accepts (terminal.Keyword keyword.Sizeof) k)
    (λ _. same (inner k) (symbol.Read part.SizeofOperand ∷ [])))

sizeof-inner : sizeof_inner ≡ true
unfolding sizeof_inner every_kind each kinds when accepts keyword_number punctuator_number any_accepts inner symbols_of choose rules
    same same_symbol
    symbol_number
sizeof-inner = refl

unfoldable sizeof_closed : Bool
sizeof_closed = every_kind (λ k. when (accepts (terminal.Keyword keyword.Sizeof) k) (λ _. not (is_open k)))

sizeof-closed : sizeof_closed ≡ true
unfolding sizeof_closed every_kind each kinds when accepts keyword_number punctuator_number
sizeof-closed = refl

sizeof_is_closed : (x : Token) → accepts (terminal.Keyword keyword.Sizeof) (kind_of x) ≡ true → is_open (kind_of x) ≡ true → ⊥
unfolding sizeof_closed
sizeof_is_closed x a o = go (is_open (kind_of x)) (when-at (accepts (terminal.Keyword keyword.Sizeof) (kind_of x)) _
    (at-kind _ sizeof-closed
    (kind_of x)) a) o
  where
    go : (b : Bool) → not b ≡ true → b ≡ true → ⊥
    go true h e = true≢false (sym h)
    go false h e = true≢false (sym e)

sizeof_found : (x : Token) → accepts (terminal.Keyword keyword.Sizeof) (kind_of x) ≡ true
    → inner (kind_of x) ≡ symbol.Read part.SizeofOperand ∷ []
unfolding sizeof_inner
sizeof_found x a = same-path _ _ (when-at (accepts (terminal.Keyword keyword.Sizeof) (kind_of x)) _ (at-kind _ sizeof-inner (kind_of x)) a)

-- the operand is read as a unary expression, or goes on behind its parenthesis
sizeof-enters : enters (symbol.Read part.SizeofOperand ∷ []) (symbol.Read part.SizeofParenthesis ∷ []) 1
    (symbol.Reduce make.SizeofExpression ∷ []) ≡ true
unfolding enters every_kind each kinds when starts_expression firsts any_accepts accepts keyword_number punctuator_number
    takes takes_now taken taken_by settle once stayed stayed_by choose rules inner symbols_of same same_symbol symbol_number
    production_number
    operator_number comparison_number logical_number
sizeof-enters = refl

-- of an expression of level 14 or 15 only its tail is left where one of level 14 is wanted
nothing_after : (xs : List ℕ) → xs ++ after_numbers 14 14 ≡ xs
unfolding after_numbers chain_numbers
nothing_after xs = append-nil xs

left_highest : (m : ℕ) (name : Bool) → 14 ≤ m → m ≤ 15 → left_numbers 14 m name ≡ postfix_numbers m name
unfolding left_numbers
left_highest m name a b = rw (after_highest 14 m a b) (nothing_after (postfix_numbers m name))

size-behind : (x : Token) (q : Production) (g : Forest) → accepts (terminal.Keyword keyword.Sizeof) (kind_of x) ≡ true
    → under (home q) (class.level 14) ≡ true
    → Match (template q) g → Heads (node q g) → Match (template make.SizeofExpression) (more (leaf x) (more (node q g) none))
    → Behind (node make.SizeofExpression (more (leaf x) (more (node q g) none)))
unfolding tail_of levels_of level_of is_name_node is_bare_name barred barred_of home postfix_numbers push is_expression allowed
size-behind x q g a u proper h m =
    let e : is_expression q ≡ true = under-level (home q) 14 u in
    let low = level-under (home q) 14 u in
    let high = expression-level q e in
    let whole = more (leaf x) (more (node q g) none) in
    let b = h.behind (le-leb 14 (level_of (home q)) low) in
    record {
      first = x;
      rest = spells (more (node q g) none);
      spelled = refl;
      inside = λ o t tokens. absurd (sizeof_is_closed x a o);
      reads = λ symbols values t tokens ends.
          let entered = enter (node q g) (symbol.Read part.SizeofOperand ∷ []) (symbol.Read part.SizeofParenthesis ∷ []) 1
          (symbol.Reduce make.SizeofExpression ∷ [])
          sizeof-enters b (behind-starts q g e proper b) symbols (leaf x ∷ values) t tokens (expression-ends q 14 (kind_of t) e low ends) in
          let over = gone-reaches (postfix_numbers (level_of (home q)) (is_bare_name q))
          (symbol.Reduce make.SizeofExpression ∷ symbols) (node q g ∷
          (leaf x ∷ values)) t tokens
          (rw (left_highest (level_of (home q)) (is_bare_name q) low high) at
          (left-gone 14 (level_of (home q)) (is_bare_name q) (kind_of t) (lit< tt) (omega arith) (le-leb 14 (level_of (home q)) low)
          ends)) in
          let made = reduce-step make.SizeofExpression symbols (push whole values) (t ∷ tokens) in
          rw (sizeof_found x a, append-nil) (join entered (join over (rw (reduce-push make.SizeofExpression whole values m) at made)));
    }

size_parts : (f : Forest) → Match (word keyword.Sizeof ∷ class.part (class.level 14) ∷ []) f
    → Match (template make.SizeofExpression) f → AllKnown f
    → Heads (node make.SizeofExpression f)
unfolding Match IsProper AllKnown is_expression is_level home level_of
size_parts none m m' known = absurd m
size_parts (more (node _ _) _) m m' known = absurd m.0
size_parts (more (leaf _) none) m m' known = absurd m.3
size_parts (more (leaf _) (more (leaf _) _)) m m' known = absurd m.3.0
size_parts (more (leaf _) (more (node _ _) (more _ _))) m m' known = absurd m.3.3
size_parts (more (leaf x) (more (node q g) none)) m m' known =
    behind-heads make.SizeofExpression (more (leaf x) (more (node q g) none)) refl refl m'
    (size-behind x q g m.0 m.3.0 m.3.1 (known-heads q g (under-level (home q) 14 m.3.0) known.1.0) m')

pub size-reads : (f : Forest) → Match (template make.SizeofExpression) f → AllKnown f → Heads (node make.SizeofExpression f)
unfolding template
size-reads f m known = size_parts f m m known

-- a type in parentheses
abbrev type_pieces : List Piece
type_pieces = class.part class.type_name ∷ sign punctuator.RightParenthesis ∷ []

unfoldable sizeof_opens : Bool
sizeof_opens = every_kind (λ k. when (is_open k) (λ _. takes (symbol.Read part.SizeofOperand ∷ []) k
    (symbol.Read part.SizeofParenthesis ∷ [])))

sizeof-opens : sizeof_opens ≡ true
unfolding sizeof_opens every_kind each kinds when accepts keyword_number punctuator_number any_accepts takes takes_now taken
    taken_by settle once
    stayed stayed_by choose
    rules same same_symbol symbol_number
sizeof-opens = refl

type-opened : every_kind (λ l. when (may_begin type_pieces (λ _. true) l)
    (λ _. same (settle 1 (symbol.Read part.SizeofParenthesis ∷ []) l) (readers type_pieces ++ symbol.Reduce make.SizeofType ∷ []))) ≡ true
unfolding every_kind each kinds when may_begin firsts nullable accepts keyword_number punctuator_number any_accepts settle once
    stayed stayed_by
    choose
    rules same same_symbol symbol_number production_number readers reader
type-opened = refl

type-fits : fits type_pieces (may_end make.SizeofType) ≡ true
unfolding fits before_end is_statement reader has_reader every_kind each kinds may_begin firsts nullable any_accepts accepts keyword_number
    punctuator_number follow allows barred
type-fits = refl

type-behind : (x y : Token) (f : Forest) → accepts (terminal.Keyword keyword.Sizeof) (kind_of x) ≡ true → is_open (kind_of y) ≡ true
    → Match (template make.SizeofType) (more (leaf x) (more (leaf y) f)) → Match type_pieces f → AllKnown f
    → Behind (node make.SizeofType (more (leaf x) (more (leaf y) f)))
unfolding tail_of levels_of level_of is_name_node is_bare_name barred_of home postfix_numbers push ends_open is_statement sizeof_opens
type-behind x y f a o m others known = record {
  first = x;
  rest = y ∷ spells f;
  spelled = refl;
  inside = λ o t tokens. absurd (sizeof_is_closed x a o);
  reads = λ symbols values t tokens e.
      let whole = more (leaf x) (more (leaf y) f) in
      let taken = takes-reaches (symbol.Read part.SizeofOperand ∷ []) (symbol.Read part.SizeofParenthesis ∷ []) symbols (leaf x ∷ values) y
      (spells f ++ t ∷ tokens)
      (when-at (is_open (kind_of y)) _ (at-kind _ sizeof-opens (kind_of y)) o) in
      let opened = opened-goes (may_begin type_pieces (λ _. true)) (symbol.Read part.SizeofParenthesis ∷ [])
      (readers type_pieces ++ symbol.Reduce make.SizeofType ∷ []) 1 symbols
      (leaf y ∷ (leaf x ∷ values)) (spells f ++ t ∷ tokens) type-opened
      (forest-begins f type_pieces others (λ _. true) (t ∷ tokens) refl) in
      let read = sequence-reads type_pieces f (may_end make.SizeofType) (symbol.Reduce make.SizeofType ∷ symbols)
      (leaf y ∷ (leaf x ∷ values)) (t ∷ tokens) type-fits others known e (λ o. absurd (true≢false (sym o))) in
      let made = reduce-step make.SizeofType symbols (push whole values) (t ∷ tokens) in
      rw (sizeof_found x a) (join taken (join (rw append_assoc at opened)
      (join read (rw (reduce-push make.SizeofType whole values m) at made))));
}

type_parts : (f : Forest) → Match (word keyword.Sizeof ∷ sign punctuator.LeftParenthesis ∷ type_pieces) f
    → Match (template make.SizeofType) f
    → AllKnown f
    → Heads (node make.SizeofType f)
unfolding Match IsProper AllKnown is_expression is_level home level_of
type_parts none m m' known = absurd m
type_parts (more (node _ _) _) m m' known = absurd m.0
type_parts (more (leaf _) none) m m' known = absurd m.3
type_parts (more (leaf _) (more (node _ _) _)) m m' known = absurd m.3.0
type_parts (more (leaf x) (more (leaf y) f)) m m' known =
    behind-heads make.SizeofType (more (leaf x) (more (leaf y) f)) refl refl m' (type-behind x y f m.0 m.3.0 m' m.3.3 known.1.1)

pub type-reads : (f : Forest) → Match (template make.SizeofType) f → AllKnown f → Heads (node make.SizeofType f)
unfolding template
type-reads f m known = type_parts f m m known

-- a cast
abbrev cast_pieces : List Piece
cast_pieces = class.part class.type_name ∷ sign punctuator.RightParenthesis ∷ class.part (class.level 13) ∷ []

unfoldable cast_opens : Bool
cast_opens = every_below 14 (λ n. every_kind (λ k. when (is_open k) (λ _. takes (level_reader n) k (opened_at n)))
    && every_kind (λ l. when (may_begin cast_pieces (λ _. true) l)
    (λ _. same (settle 1 (opened_at n) l) (readers cast_pieces ++ symbol.Reduce make.Cast ∷ map tail_symbol (left_numbers n 13 false)))))

cast-opens : cast_opens ≡ true
unfolding cast_opens every_below every_kind each kinds when may_begin firsts nullable accepts keyword_number punctuator_number
    any_accepts takes
    takes_now taken taken_by
    settle once stayed stayed_by choose rules chain_rules chain_tail_rules same same_symbol symbol_number production_number readers reader
    level_reader
    chain_of chain_part opened_at tail_symbol left_numbers postfix_numbers after_numbers chain_numbers inner symbols_of
cast-opens = refl

cast-fits : fits cast_pieces (may_end make.Cast) ≡ true
unfolding fits before_end is_statement reader level_reader has_reader every_kind each kinds may_begin firsts nullable any_accepts accepts
    keyword_number punctuator_number
    follow allows barred extenders operators_from
cast-fits = refl

cast-heads : (x : Token) (f : Forest) → is_open (kind_of x) ≡ true → Match (template make.Cast) (more (leaf x) f)
    → Match cast_pieces f → AllKnown f
    → Heads (node make.Cast (more (leaf x) f))
unfolding left levels_of level_of is_name_node is_bare_name barred_of home push ends_open is_statement cast_opens
cast-heads x f o m others known = record {
  behind = λ h. absurd (true≢false (sym h));
  heads = λ n l l' symbols values t tokens e.
      let whole = more (leaf x) f in
      let low = leb-true n 13 l in
      let both = and_parts _ _ (below-at 14 _ cast-opens n (omega arith)) in
      let after = map tail_symbol (left_numbers n 13 false) in
      let taken = takes-reaches (level_reader n) (opened_at n) symbols values x (spells f ++ t ∷ tokens) (when-at (is_open (kind_of x)) _
      (at-kind _ both.0 (kind_of x)) o) in
      let opened = opened-goes (may_begin cast_pieces (λ _. true)) (opened_at n)
      (readers cast_pieces ++ symbol.Reduce make.Cast ∷ after) 1 symbols
      (leaf x ∷ values) (spells f ++ t ∷ tokens) both.1 (forest-begins f cast_pieces others (λ _. true) (t ∷ tokens) refl) in
      let read = sequence-reads cast_pieces f (may_end make.Cast) (symbol.Reduce make.Cast ∷ (after ++ symbols))
      (leaf x ∷ values) (t ∷ tokens) cast-fits others known e (λ o. absurd (true≢false (sym o))) in
      let made = reduce-step make.Cast (after ++ symbols) (push whole values) (t ∷ tokens) in
      join taken (join (rw append_assoc at opened) (join read (rw (reduce-push make.Cast whole values m) at made)));
}

cast_parts : (f : Forest) → Match (sign punctuator.LeftParenthesis ∷ cast_pieces) f → Match (template make.Cast) f → AllKnown f
    → Heads (node make.Cast f)
unfolding Match IsProper AllKnown
cast_parts none m m' known = absurd m
cast_parts (more (node _ _) _) m m' known = absurd m.0
cast_parts (more (leaf x) f) m m' known = cast-heads x f m.0 m' m.3 known.1

pub cast-reads : (f : Forest) → Match (template make.Cast) f → AllKnown f → Heads (node make.Cast f)
unfolding template
cast-reads f m known = cast_parts f m m known
