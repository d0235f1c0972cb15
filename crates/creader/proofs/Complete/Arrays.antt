-- How a parameter with empty brackets is read.
use Rattle.std.specs.Prelude.{◌≡◌, true, not, ◌||◌, List, [], ◌∷◌, ◌++◌}
use Rattle.std.proofs.Common.{refl, sym, subst, append_assoc, inl, inr}
use Rattle.csyn.specs.declared.token.Token.{Token}
use Rattle.csyn.specs.declared.punctuator.Punctuator.TheVariants as punctuator
use Rattle.cgrammar.specs.declared.kind.Kind.{Kind}
use Rattle.cgrammar.specs.declared.production.Production.{Production}
use Rattle.cgrammar.specs.declared.production.Production.TheVariants as make
use Rattle.cgrammar.specs.declared.terminal.Terminal.TheVariants as terminal
use Rattle.creader.specs.declared.part.Part.TheVariants as part
use Rattle.creader.specs.declared.part.Symbol.{Symbol}
use Rattle.creader.specs.declared.part.Symbol.TheVariants as symbol
use Rattle.cgrammar.specs.Kind.{kind_of}
use Rattle.cgrammar.specs.Terminal.{accepts, keyword_number, punctuator_number}
use Rattle.cgrammar.specs.Grammar as class
use Rattle.cgrammar.specs.Grammar.{Piece, template, home, under, is_wider, class_number, words_number}
use Rattle.cgrammar.specs.Grammar.{operator_level, comparison_level, logical_level, alone, joined}
use Rattle.cgrammar.specs.Text.{Written, leaf, node, Forest, none, more, IsProper, Match, Stands, spell}
use Rattle.creader.specs.Machine.{at, Reaches}
use Rattle.creader.proofs.Complete.Reading.{reader, Reads}
use Rattle.creader.proofs.Complete.Heads.{Known, AllKnown}
use Rattle.creader.proofs.Complete.Steps.{join, push}
use Rattle.creader.proofs.Complete.Firsts.{sign, begins-as, implied}
use Rattle.creader.proofs.Complete.Sequence.{may_follow, reads-from}
use Rattle.creader.proofs.Complete.Plain.{after_of, ready_check, node-after}
use Rattle.creader.proofs.Complete.Rule.{part-take, made-step}
use Rattle.creader.proofs.Complete.Parameter.{is_bracket, is_closing, is_named, tail-name, end-bracket, length-closing, type-front}
use Rattle.creader.proofs.Complete.Productions.{productions, kept, makers, In, in-makers}
use Rattle.creader.proofs.Complete.Kinds.{kinds, each, every_kind, at-kind}
use Rattle.creader.proofs.Complete.Pointers.{not_qualifier, stars-pointers, parameter-tail, stars-read}

-- only one production makes identifiers
identifier-list : makers class.identifier ≡ make.Identifier ∷ []
unfolding makers kept productions under home is_wider class_number words_number operator_level comparison_level logical_level alone joined
identifier-list = refl

is-identifier : (p : Production) → under (home p) class.identifier ≡ true → p ≡ make.Identifier
is-identifier p h = go (rw identifier-list at (in-makers p class.identifier h))
  where
    go : In p (make.Identifier ∷ []) → p ≡ make.Identifier
    go (inl e) = e
    go (inr e) = absurd e

-- an identifier is a name
pub record IsNamed (w : Written) : Type 0 where
  pub name : Token
  pub is_name : accepts terminal.Name (kind_of name) ≡ true
  pub same : w ≡ node make.Identifier (more (leaf name) none)

-- its only part is a name
identifier-forest : (f : Forest) → Match (template make.Identifier) f → IsNamed (node make.Identifier f)
unfolding template Match
identifier-forest none m = absurd m
identifier-forest (more (leaf x) none) m = record { name = x; is_name = m.0; same = refl }
identifier-forest (more (leaf x) (more v f)) m = absurd m.3
identifier-forest (more (node p g) f) m = absurd m.0

-- what stands as an identifier is a name
pub identifier-named : (w : Written) → Stands (class.part class.identifier) w → IsProper w → IsNamed w
unfolding IsProper
identifier-named (leaf x) s m = absurd s
identifier-named (node p f) s m =
    let same = is-identifier p s in
    rw same (identifier-forest f (rw same at m))

-- a name is no qualifier
name-no-qualifier : (kind : Kind) → is_named kind ≡ true → not_qualifier kind ≡ true
unfolding every_kind kinds each accepts keyword_number punctuator_number
name-no-qualifier kind h = implied _ _ (at-kind (λ k. not (is_named k) || not_qualifier k) all kind) h
  where
    all : every_kind (λ k. not (is_named k) || not_qualifier k) ≡ true
    all = refl

-- from the stars on
array-end : (ty st : Written) (n l r : Token) (symbols : List Symbol) (values : List Written) (tokens : List Token)
    → Match (template make.ArrayParameter) (more ty (more st
    (more (node make.Identifier (more (leaf n) none)) (more (leaf l) (more (leaf r) none)))))
    → Reaches (at (symbol.Reduce make.NoPointers ∷ symbol.Read part.ParameterTail ∷ symbols) (ty ∷ values) (spell st ++ n ∷ l ∷ r ∷ tokens))
    (at symbols (node make.ArrayParameter (more ty (more st (more (node make.Identifier (more (leaf n) none))
    (more (leaf l) (more (leaf r) none))))) ∷ values) tokens)
unfolding template Match IsProper push
array-end ty st n l r symbols values tokens m =
    let i = m.3.3.1 in
    join (stars-read part.ParameterTail part.ParameterAfterStar parameter-tail st m.3.0 m.3.1 symbols (ty ∷ values) (n ∷ l ∷ r ∷ tokens)
    (name-no-qualifier (kind_of n) i.0))
    (join (part-take part.ParameterTail is_named _ symbols (st ∷ ty ∷ values) n (l ∷ r ∷ tokens) tail-name i.0)
    (join (made-step make.Identifier (more (leaf n) none) (symbol.Read part.ParameterEnd ∷ symbols) (st ∷ ty ∷ values) (l ∷ r ∷ tokens) i)
    (join (part-take part.ParameterEnd is_bracket _ symbols (node make.Identifier (more (leaf n) none) ∷ st ∷ ty ∷ values) l
    (r ∷ tokens) end-bracket m.3.3.3.0)
    (join (part-take part.ParameterLength is_closing _ symbols
    (leaf l ∷ node make.Identifier (more (leaf n) none) ∷ st ∷ ty ∷ values) r tokens length-closing m.3.3.3.3.0)
    (made-step make.ArrayParameter (more ty (more st (more (node make.Identifier (more (leaf n) none))
    (more (leaf l) (more (leaf r) none))))) symbols values tokens m)))))

-- what stands behind the type, as if there were pointers of any kind
abbrev array_pieces : List Piece
array_pieces = class.part class.pointers ∷ class.part class.identifier ∷ class.token (sign punctuator.LeftBracket)
    ∷ class.token (sign punctuator.RightBracket) ∷ []

-- with a name written out
array-named : (ty st : Written) (n l r : Token)
    → Match (template make.ArrayParameter) (more ty (more st
    (more (node make.Identifier (more (leaf n) none)) (more (leaf l) (more (leaf r) none)))))
    → Known ty → Reads class.parameter (node make.ArrayParameter
    (more ty (more st (more (node make.Identifier (more (leaf n) none)) (more (leaf l) (more (leaf r) none))))))
unfolding ready_check template reader Match
array-named ty st n l r m known = reads-from class.parameter _ (λ symbols values tokens b.
    let g = more st (more (node make.Identifier (more (leaf n) none)) (more (leaf l) (more (leaf r) none))) in
    let b' = begins-as (may_follow class.parameter (node make.ArrayParameter (more ty g))) (after_of make.ArrayParameter) tokens
    (node-after make.ArrayParameter (more ty g)) b in
    let front = type-front array_pieces ty g (after_of make.ArrayParameter) symbols values tokens refl refl
    (m.0, m.1, m.2, (stars-pointers st m.3.0, m.3.1, m.3.2, m.3.3)) known b' in
    join front (rw (append_assoc (spell st) (n ∷ l ∷ r ∷ []) tokens) (array-end ty st n l r symbols values tokens m)))

-- A parameter with empty brackets is read.
pub array-reads : (f : Forest) → Match (template make.ArrayParameter) f → AllKnown f → Reads class.parameter (node make.ArrayParameter f)
unfolding template Match AllKnown
array-reads none m known = absurd m
array-reads (more ty none) m known = absurd m.3
array-reads (more ty (more st none)) m known = absurd m.3.3
array-reads (more ty (more st (more id none))) m known = absurd m.3.3.3
array-reads (more ty (more st (more id (more l none)))) m known = absurd m.3.3.3.3
array-reads (more ty (more st (more id (more (leaf l) (more (leaf r) none))))) m known =
    let named = identifier-named id m.3.3.0 m.3.3.1 in
    (subst (λ (v : Written). Match (template make.ArrayParameter) (more ty (more st (more v (more (leaf l) (more (leaf r) none)))))
    → Reads class.parameter (node make.ArrayParameter (more ty (more st (more v (more (leaf l) (more (leaf r) none)))))))
    (sym named.same) (λ m'. array-named ty st named.name l r m' known.0)) m
array-reads (more ty (more st (more id (more (leaf l) (more (leaf r) (more v f)))))) m known = absurd m.3.3.3.3.3
array-reads (more ty (more st (more id (more (leaf l) (more (node p g) f))))) m known = absurd m.3.3.3.3.0
array-reads (more ty (more st (more id (more (node p g) (more r f))))) m known = absurd m.3.3.3.0
