-- Expressions of levels 14 and 15 that begin with a token of their own, behind which the rule has the right side as it stands.
use Rattle.std.proofs.Common.{◌≡◌, Bool, true, false, not, ◌&&◌, nat_le, List, [], ◌∷◌, ◌++◌, map}
use Rattle.std.proofs.Common.{refl, sym, subst, true≢false, append_assoc}
use Rattle.std.proofs.lemmas.Bool.{and_parts, and_from}
use Rattle.cgrammar.specs.declared.production.Production.{Production}
use Rattle.cgrammar.specs.declared.production.Production.TheVariants as make
use Rattle.cgrammar.specs.declared.terminal.Terminal.{Terminal}
use Rattle.cgrammar.specs.declared.terminal.Terminal.TheVariants as terminal
use Rattle.creader.specs.declared.part.Symbol.{Symbol}
use Rattle.creader.specs.declared.part.Symbol.TheVariants as symbol
use Rattle.cgrammar.specs.Kind.{kind_of}
use Rattle.cgrammar.specs.Terminal.{accepts, keyword_number, punctuator_number}
use Rattle.creader.specs.Rules.{rules, choose, any_accepts}
use Rattle.cgrammar.specs.Grammar as class
use Rattle.cgrammar.specs.Grammar.{Piece, template, home}
use Rattle.cgrammar.specs.Text.{leaf, node, Forest, none, more, spells, Match, IsProper}
use Rattle.creader.proofs.Complete.Reading.{reader, level_reader, has_reader, follow, allows, is_statement, extenders, operators_from}
use Rattle.creader.proofs.Complete.Kinds.{each, every_kind, at-kind, kinds}
use Rattle.creader.proofs.Complete.Steps.{join, reduce-step, push, reduce-push}
use Rattle.creader.proofs.Complete.Firsts.{begins-as, may_begin, firsts, nullable, forest-begins}
use Rattle.creader.proofs.Complete.Sequence.{readers, fits, ends_open, before_end, sequence-reads}
use Rattle.creader.proofs.Complete.Heads.{may_end, Heads, AllKnown, is_expression, is_bare_name, is_name_node, level_of, levels_of}
use Rattle.creader.proofs.Complete.Heads.{postfix_numbers, tail_of, tail_symbol, inner, symbols_of, barred, barred_of}
use Rattle.creader.proofs.Complete.Heads.{starts_expression}
use Rattle.creader.proofs.Complete.Expressions.Tables.{when, when-at}
use Rattle.creader.proofs.Complete.Productions.{production_number, operator_number, comparison_number, logical_number}
use Rattle.creader.proofs.Complete.Expressions.Symbols.{same, same_symbol, symbol_number, same-path}
use Rattle.creader.proofs.Complete.Expressions.Entering.{is_open, behind-heads}

-- what stands behind the first token of an expression that is read so
unfoldable pub behind_symbols : Production → List Piece → List Symbol
behind_symbols p others = readers others ++ symbol.Reduce p ∷ map tail_symbol (postfix_numbers (level_of (home p)) (is_bare_name p))

unfoldable pub starts : Production → Terminal → List Piece → Bool
starts p first others =
    every_kind (λ k. when (accepts first k) (λ _. same (inner k) (behind_symbols p others)))
    && (every_kind (λ k. when (accepts first k && is_open k) (λ _. every_kind (λ l. when (may_begin others (λ _. true) l)
    (λ _. starts_expression l))))
    && (fits others (may_end p)
    && (not (ends_open others)
    && nat_le 14 (level_of (home p)))))

no_end : (b : Bool) → not b ≡ true → b ≡ true → ⊥
no_end true h e = true≢false (sym h)
no_end false h e = true≢false (sym e)

module _ (p : Production) (first : Terminal) (others : List Piece) (expression : is_expression p ≡ true)
    (holds : starts p first others ≡ true) where
  by_parts : (f : Forest) → Match (template p) f → Match (class.token first ∷ others) f → AllKnown f → Heads (node p f)
  unfolding Match IsProper AllKnown starts behind_symbols tail_of levels_of is_name_node barred_of push
  by_parts none m m' known = absurd m'
  by_parts (more (node _ _) f) m m' known = absurd m'.0
  by_parts (more (leaf x) f) m m' known =
      let a = and_parts _ _ holds in
      let b = and_parts _ _ a.1 in
      let c = and_parts _ _ b.1 in
      let d = and_parts _ _ c.1 in
      let after = map tail_symbol (postfix_numbers (level_of (home p)) (is_bare_name p)) in
      let found = same-path _ _ (when-at (accepts first (kind_of x)) _ (at-kind _ a.0 (kind_of x)) m'.0) in
      behind-heads p (more (leaf x) f) expression d.1 m (record {
        first = x;
        rest = spells f;
        spelled = refl;
        inside = λ o t tokens.
            let test = when-at (accepts first (kind_of x) && is_open (kind_of x)) _ (at-kind _ b.0 (kind_of x)) (and_from _ _ m'.0 o) in
            begins-as (may_begin others (λ _. true)) starts_expression (spells f ++ t ∷ tokens)
            (λ l h. when-at (may_begin others (λ _. true) l) _
            (at-kind _ test l) h)
            (forest-begins f others m'.3 (λ _. true) (t ∷ tokens) refl);
        reads = λ symbols values t tokens e.
            let one = sequence-reads others f (may_end p) (symbol.Reduce p ∷ (after ++ symbols)) (leaf x ∷ values) (t ∷ tokens)
            c.0 m'.3 known.1 e (λ o. absurd (no_end _ d.0 o)) in
            let two = reduce-step p (after ++ symbols) (push (more (leaf x) f) values) (t ∷ tokens) in
            rw (found, append_assoc) (join one (rw (reduce-push p (more (leaf x) f) values m) at two));
      })

  starts-heads : (f : Forest) → template p ≡ class.token first ∷ others → Match (template p) f → AllKnown f → Heads (node p f)
  starts-heads f right_side m known = by_parts f m (subst (λ pieces. Match pieces f) right_side m) known

unfoldable pub is_beginning : Production → Bool
is_beginning make.Number = true
is_beginning make.Character = true
is_beginning make.Parenthesised = true
is_beginning make.PreIncrement = true
is_beginning make.PreDecrement = true
is_beginning make.Prefix = true
is_beginning _ = false

unfoldable first_terminal : List Piece → Terminal
first_terminal (class.token t ∷ _) = t
first_terminal _ = terminal.Any

unfoldable other_pieces : List Piece → List Piece
other_pieces [] = []
other_pieces (_ ∷ pieces) = pieces

beginning-holds : (p : Production) → is_beginning p ≡ true → starts p (first_terminal (template p)) (other_pieces (template p)) ≡ true
unfolding is_beginning starts behind_symbols template first_terminal other_pieces every_kind each kinds when starts_expression
    firsts nullable
    may_begin any_accepts
    accepts keyword_number punctuator_number choose rules inner symbols_of tail_symbol postfix_numbers is_bare_name same same_symbol
    symbol_number
    production_number operator_number comparison_number logical_number readers fits ends_open before_end reader level_reader
    has_reader follow allows is_statement extenders
    operators_from barred level_of home
beginning-holds make.Number h = refl
beginning-holds make.Character h = refl
beginning-holds make.Parenthesised h = refl
beginning-holds make.PreIncrement h = refl
beginning-holds make.PreDecrement h = refl
beginning-holds make.Prefix h = refl
beginning-holds _ h = absurd (true≢false (sym h))

beginning-template : (p : Production) → is_beginning p ≡ true
    → template p ≡ class.token (first_terminal (template p)) ∷ other_pieces (template p)
unfolding is_beginning template first_terminal other_pieces
beginning-template make.Number h = refl
beginning-template make.Character h = refl
beginning-template make.Parenthesised h = refl
beginning-template make.PreIncrement h = refl
beginning-template make.PreDecrement h = refl
beginning-template make.Prefix h = refl
beginning-template _ h = absurd (true≢false (sym h))

pub beginning-reads : (p : Production) (f : Forest) → is_beginning p ≡ true → is_expression p ≡ true → Match (template p) f → AllKnown f
    → Heads (node p f)
beginning-reads p f b e m known =
    starts-heads p (first_terminal (template p)) (other_pieces (template p)) e (beginning-holds p b) f (beginning-template p b) m known
