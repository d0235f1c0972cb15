-- How a parameter is read: its stars one by one, its name, and whether empty brackets stand behind it.
use Rattle.std.specs.Prelude.{◌≡◌, Bool, true, false, not, List, [], ◌∷◌, ◌++◌}
use Rattle.std.proofs.Common.{refl, append_assoc}
use Rattle.std.proofs.lemmas.Bool.{both_ways, not_from_false}
use Rattle.csyn.specs.declared.token.Token.{Token}
use Rattle.csyn.specs.declared.punctuator.Punctuator.TheVariants as punctuator
use Rattle.cgrammar.specs.declared.kind.Kind.{Kind}
use Rattle.cgrammar.specs.declared.production.Production.TheVariants as make
use Rattle.cgrammar.specs.declared.terminal.Terminal.TheVariants as terminal
use Rattle.creader.specs.declared.part.Part.TheVariants as part
use Rattle.creader.specs.declared.part.Move.TheVariants as move
use Rattle.creader.specs.declared.part.Symbol.{Symbol}
use Rattle.creader.specs.declared.part.Symbol.TheVariants as symbol
use Rattle.cgrammar.specs.Kind.{kind_of}
use Rattle.cgrammar.specs.Terminal.{accepts}
use Rattle.cgrammar.specs.Grammar as class
use Rattle.cgrammar.specs.Grammar.{Piece, template, home}
use Rattle.cgrammar.specs.Text.{Written, leaf, node, Forest, none, more, Match, spell, spells}
use Rattle.creader.specs.Machine.{at, Reaches, reduce}
use Rattle.creader.proofs.Complete.Reading.{reader, has_reader, Reads}
use Rattle.creader.proofs.Complete.Heads.{Known, AllKnown}
use Rattle.creader.proofs.Complete.KnownReads.{known-reads}
use Rattle.creader.proofs.Complete.Steps.{join, reduce-step, push}
use Rattle.creader.proofs.Complete.Firsts.{sign, may_begin, Begins, begins-as, forest-begins, no}
use Rattle.creader.proofs.Complete.Sequence.{may_follow, reads-before, reads-from, readers, ends_open, fits, child-may, sequence-reads}
use Rattle.creader.proofs.Complete.Plain.{after_of, ready_check, node-after}
use Rattle.creader.proofs.Complete.Rule.{rule_check, rule_shape, Chosen, part-take, part-stay, stay-at, made-step, back-reduce}
use Rattle.creader.proofs.Complete.Rule.{back-accepts, back-take-token, back-take, back-stay, hungry, no-tokens, refuse_check}
use Rattle.creader.proofs.Complete.Rule.{refused}
use Rattle.creader.proofs.Complete.Pointers.{is_star, is_qualifier, not_qualifier, not_star, pointers-first}
use Rattle.creader.proofs.Complete.Pointers.{stars-tail, stars-end, parameter-tail}

-- some tokens
abbrev pub is_bracket : Kind → Bool
is_bracket = accepts (sign punctuator.LeftBracket)

abbrev pub is_closing : Kind → Bool
is_closing = accepts (sign punctuator.RightBracket)

abbrev pub is_named : Kind → Bool
is_named = accepts terminal.Name

-- what is still to be read of a parameter behind its lengths, its name, its stars
abbrev ended : List Symbol
ended = symbol.Reduce make.Parameter ∷ []

abbrev lengths : List Symbol
lengths = symbol.Read part.Lengths ∷ ended

abbrev identified : List Symbol
identified = symbol.Reduce make.Identifier ∷ lengths

abbrev named : List Symbol
named = symbol.Take terminal.Name ∷ identified

-- what stands behind an opening bracket
abbrev one_length : List Symbol
one_length = symbol.Read part.Expression ∷ symbol.Take (sign punctuator.RightBracket) ∷ symbol.Read part.Lengths
    ∷ symbol.Reduce make.Length ∷ []

-- what stands behind a star, from a qualifier on
abbrev qualified : List Symbol
qualified = symbol.Read part.Qualifiers ∷ symbol.Reduce make.Qualified ∷ symbol.Reduce make.QualifiedPointer
    ∷ symbol.Read part.PointersTail ∷ []

-- the rules by which a parameter is read
parameter-first : Chosen part.Parameter (λ _. true) move.Stay
    (symbol.Read part.Type ∷ symbol.Reduce make.NoPointers ∷ symbol.Read part.ParameterTail ∷ [])
unfolding rule_check rule_shape
parameter-first = record { index = 0; checked = refl; found = refl }

pub tail-name : Chosen part.ParameterTail is_named move.Take (symbol.Reduce make.Identifier ∷ symbol.Read part.ParameterEnd ∷ [])
unfolding rule_check rule_shape
tail-name = record { index = 1; checked = refl; found = refl }

star-qualifier : Chosen part.ParameterAfterStar is_qualifier move.Take (qualified ++ named)
unfolding rule_check rule_shape
star-qualifier = record { index = 0; checked = refl; found = refl }

after-qualifier : Chosen part.AfterStar is_qualifier move.Take qualified
unfolding rule_check rule_shape
after-qualifier = record { index = 0; checked = refl; found = refl }

pub end-bracket : Chosen part.ParameterEnd is_bracket move.Take (symbol.Read part.ParameterLength ∷ [])
unfolding rule_check rule_shape
end-bracket = record { index = 0; checked = refl; found = refl }

end-other : Chosen part.ParameterEnd (λ k. not (is_bracket k)) move.Stay (symbol.Reduce make.NoLengths ∷ ended)
unfolding rule_check rule_shape
end-other = record { index = 1; checked = refl; found = refl }

pub length-closing : Chosen part.ParameterLength is_closing move.Take (symbol.Reduce make.ArrayParameter ∷ [])
unfolding rule_check rule_shape
length-closing = record { index = 0; checked = refl; found = refl }

length-other : Chosen part.ParameterLength (λ k. not (is_closing k)) move.Stay (one_length ++ ended)
unfolding rule_check rule_shape
length-other = record { index = 1; checked = refl; found = refl }

lengths-bracket : Chosen part.Lengths is_bracket move.Take one_length
unfolding rule_check rule_shape
lengths-bracket = record { index = 0; checked = refl; found = refl }

lengths-other : Chosen part.Lengths (λ k. not (is_bracket k)) move.Stay (symbol.Reduce make.NoLengths ∷ [])
unfolding rule_check rule_shape
lengths-other = record { index = 1; checked = refl; found = refl }

-- behind the name: a length, or none
end-join : (symbols : List Symbol) (values others : List Written) (tokens left : List Token)
    → Reaches (at (lengths ++ symbols) values tokens) (at symbols others left)
    → Reaches (at (symbol.Read part.ParameterEnd ∷ symbols) values tokens) (at symbols others left)
unfolding hungry refuse_check
end-join symbols values others [] left reached = absurd (no-tokens lengths symbols values others left refl reached)
end-join symbols values others (y ∷ tokens) left reached = go (is_bracket (kind_of y)) refl
  where
    length-join : (tokens : List Token) → Reaches (at (one_length ++ ended ++ symbols) (leaf y ∷ values) tokens) (at symbols others left)
        → Reaches (at (symbol.Read part.ParameterLength ∷ symbols) (leaf y ∷ values) tokens) (at symbols others left)
    length-join [] inside = absurd (no-tokens (one_length ++ ended) symbols (leaf y ∷ values) others left refl inside)
    length-join (z ∷ tokens) inside = closing (is_closing (kind_of z)) refl
      where
        closing : (b : Bool) → is_closing (kind_of z) ≡ b
            → Reaches (at (symbol.Read part.ParameterLength ∷ symbols) (leaf y ∷ values) (z ∷ tokens)) (at symbols others left)
        closing true b = absurd (refused (one_length ++ ended) symbols (leaf y ∷ values) others is_closing z tokens left refl b inside)
        closing false b =
            join (part-stay part.ParameterLength (λ k. not (is_closing k)) _ symbols (leaf y ∷ values) z tokens length-other
            (not_from_false _ b)) inside

    go : (b : Bool) → is_bracket (kind_of y) ≡ b → Reaches (at (symbol.Read part.ParameterEnd ∷ symbols) values (y ∷ tokens))
        (at symbols others left)
    go true b =
        join (part-take part.ParameterEnd is_bracket _ symbols values y tokens end-bracket b)
        (length-join tokens (back-take ended symbols values others left part.Lengths is_bracket _ y tokens lengths-bracket b reached))
    go false b =
        join (part-stay part.ParameterEnd (λ k. not (is_bracket k)) _ symbols values y tokens end-other (not_from_false _ b))
        (back-stay ended symbols values others left part.Lengths (λ k. not (is_bracket k)) _ y tokens lengths-other
        (not_from_false _ b) reached)

-- the name itself
name-join : (symbols : List Symbol) (values others : List Written) (x : Token) (tokens left : List Token) → is_star (kind_of x) ≡ false
    → Reaches (at (symbol.Read part.StarsTail ∷ named ++ symbols) values (x ∷ tokens)) (at symbols others left)
    → Reaches (at (symbol.Read part.ParameterTail ∷ symbols) values (x ∷ tokens)) (at symbols others left)
name-join symbols values others x tokens left s reached =
    let r1 = back-stay named symbols values others left part.StarsTail not_star [] x tokens stars-end (not_from_false _ s) reached in
    let n = back-accepts identified symbols values others left terminal.Name x tokens r1 in
    let r2 = back-take-token identified symbols values others left terminal.Name x tokens r1 in
    let r3 = back-reduce lengths symbols (leaf x ∷ values) others left make.Identifier tokens r2 in
    join (part-take part.ParameterTail is_named _ symbols values x tokens tail-name n)
    (join (reduce-step make.Identifier (symbol.Read part.ParameterEnd ∷ symbols) (leaf x ∷ values) tokens)
    (end-join symbols (reduce make.Identifier (leaf x ∷ values)) others tokens left r3))

-- a star, and what stands behind it
star-join : (symbols : List Symbol) (values others : List Written) (x : Token) (tokens left : List Token) → is_star (kind_of x) ≡ true
    → ((values : List Written) → Reaches (at (symbol.Read part.StarsTail ∷ named ++ symbols) values tokens) (at symbols others left)
    → Reaches (at (symbol.Read part.ParameterTail ∷ symbols) values tokens) (at symbols others left))
    → Reaches (at (symbol.Read part.StarsTail ∷ named ++ symbols) values (x ∷ tokens)) (at symbols others left)
    → Reaches (at (symbol.Read part.ParameterTail ∷ symbols) values (x ∷ tokens)) (at symbols others left)
unfolding hungry
star-join symbols values others x [] left s again reached =
    absurd (no-tokens (symbol.Read part.AfterStar ∷ named) symbols (leaf x ∷ values) others left refl
    (back-take named symbols values others left part.StarsTail is_star _ x [] stars-tail.starred s reached))
star-join symbols values others x (y ∷ tokens) left s again reached = go (is_qualifier (kind_of y)) refl
  where
    inside : Reaches (at (symbol.Read part.AfterStar ∷ named ++ symbols) (leaf x ∷ values) (y ∷ tokens)) (at symbols others left)
    inside = back-take named symbols values others left part.StarsTail is_star _ x (y ∷ tokens) stars-tail.starred s reached

    go : (q : Bool) → is_qualifier (kind_of y) ≡ q → Reaches (at (symbol.Read part.ParameterTail ∷ symbols) values (x ∷ y ∷ tokens))
        (at symbols others left)
    go true q =
        join (part-take part.ParameterTail is_star _ symbols values x (y ∷ tokens) parameter-tail.starred s)
        (join (part-take part.ParameterAfterStar is_qualifier _ symbols (leaf x ∷ values) y tokens star-qualifier q)
        (back-take named symbols (leaf x ∷ values) others left part.AfterStar is_qualifier _ y tokens after-qualifier q inside))
    go false q =
        let stay = back-stay named symbols (leaf x ∷ values) others left part.AfterStar not_qualifier _ y tokens stars-tail.bare
        (not_from_false _ q) inside in
        join (part-take part.ParameterTail is_star _ symbols values x (y ∷ tokens) parameter-tail.starred s)
        (join (part-stay part.ParameterAfterStar not_qualifier _ symbols (leaf x ∷ values) y tokens parameter-tail.bare
        (not_from_false _ q))
        (join (reduce-step make.Star (symbol.Read part.ParameterTail ∷ symbols) (leaf x ∷ values) (y ∷ tokens))
        (again (reduce make.Star (leaf x ∷ values))
        (back-reduce (symbol.Read part.StarsTail ∷ named) symbols (leaf x ∷ values) others left make.Star (y ∷ tokens) stay))))

-- Stars and a name, as if the stars were read by themselves.
tail-join : (symbols : List Symbol) (values others : List Written) (tokens left : List Token)
    → Reaches (at (symbol.Read part.StarsTail ∷ named ++ symbols) values tokens) (at symbols others left)
    → Reaches (at (symbol.Read part.ParameterTail ∷ symbols) values tokens) (at symbols others left)
unfolding hungry
tail-join symbols values others [] left reached = absurd (no-tokens (symbol.Read part.StarsTail ∷ named) symbols values others left
    refl reached)
tail-join symbols values others (x ∷ tokens) left reached =
    ways symbols values others x tokens left (λ values' reached'. tail-join symbols values' others tokens left reached') reached
  where
    ways : (symbols : List Symbol) (values others : List Written) (x : Token) (tokens left : List Token)
        → ((values : List Written) → Reaches (at (symbol.Read part.StarsTail ∷ named ++ symbols) values tokens) (at symbols others left)
        → Reaches (at (symbol.Read part.ParameterTail ∷ symbols) values tokens) (at symbols others left))
        → Reaches (at (symbol.Read part.StarsTail ∷ named ++ symbols) values (x ∷ tokens)) (at symbols others left)
        → Reaches (at (symbol.Read part.ParameterTail ∷ symbols) values (x ∷ tokens)) (at symbols others left)
    ways symbols values others x tokens left again reached = go (is_star (kind_of x)) refl
      where
        go : (s : Bool) → is_star (kind_of x) ≡ s → Reaches (at (symbol.Read part.ParameterTail ∷ symbols) values (x ∷ tokens))
            (at symbols others left)
        go true s = star-join symbols values others x tokens left s again reached
        go false s = name-join symbols values others x tokens left s reached

-- pointers and a name
pointers-join : (symbols : List Symbol) (values others : List Written) (tokens left : List Token)
    → Reaches (at (symbol.Read part.Pointers ∷ named ++ symbols) values tokens) (at symbols others left)
    → Reaches (at (symbol.Reduce make.NoPointers ∷ symbol.Read part.ParameterTail ∷ symbols) values tokens) (at symbols others left)
unfolding hungry
pointers-join symbols values others [] left reached = absurd
    (no-tokens (symbol.Read part.Pointers ∷ named) symbols values others left refl reached)
pointers-join symbols values others (x ∷ tokens) left reached =
    let stay = back-stay named symbols values others left part.Pointers (λ _. true) _ x tokens pointers-first refl reached in
    join (reduce-step make.NoPointers (symbol.Read part.ParameterTail ∷ symbols) values (x ∷ tokens))
    (tail-join symbols (reduce make.NoPointers values) others (x ∷ tokens) left
    (back-reduce (symbol.Read part.StarsTail ∷ named) symbols values others left make.NoPointers (x ∷ tokens) stay))

-- the type of a parameter
pub type-front : (pieces : List Piece) (ty : Written) (g : Forest) (after : Kind → Bool) (symbols : List Symbol)
    (values : List Written) (tokens : List Token)
    → fits (class.part class.«type» ∷ pieces) after ≡ true → ends_open (class.part class.«type» ∷ pieces) ≡ false
    → Match (class.part class.«type» ∷ pieces) (more ty g) → Known ty → Begins after tokens
    → Reaches (at (symbol.Read part.Parameter ∷ symbols) values ((spell ty ++ spells g) ++ tokens))
    (at (symbol.Reduce make.NoPointers ∷ symbol.Read part.ParameterTail ∷ symbols) (ty ∷ values) (spells g ++ tokens))
unfolding has_reader reader Match
type-front pieces ty g after symbols values tokens h o m known b =
    let may = child-may class.«type» pieces ty g after tokens h m b (λ e. absurd (both_ways _ o e)) in
    let r = known-reads ty class.«type» known m.0 refl in
    let first = stay-at part.Parameter (λ _. true) _ symbols values ((spell ty ++ spells g) ++ tokens) parameter-first
    (begins-as (may_begin (class.part class.«type» ∷ pieces) after) (λ _. true) ((spell ty ++ spells g) ++ tokens) (λ _ _. refl)
    (forest-begins (more ty g) (class.part class.«type» ∷ pieces) m after tokens b)) in
    join first (rw append_assoc (reads-before class.«type» ty r
    (symbol.Reduce make.NoPointers ∷ symbol.Read part.ParameterTail ∷ symbols) values (spells g ++ tokens) may))

-- its parts may stand before one another
parameter-fits : fits (template make.Parameter) (after_of make.Parameter) ≡ true
unfolding ready_check
parameter-fits = refl

-- A parameter is read, but for one with empty brackets.
pub parameter-reads : (f : Forest) → Match (template make.Parameter) f → AllKnown f → Reads class.parameter (node make.Parameter f)
unfolding ready_check template home reader readers push AllKnown Match
parameter-reads none m known = absurd m
parameter-reads (more ty g) m known = reads-from class.parameter (node make.Parameter (more ty g)) (λ symbols values tokens b.
    let w = node make.Parameter (more ty g) in
    let b' = begins-as (may_follow class.parameter w) (after_of make.Parameter) tokens (node-after make.Parameter (more ty g)) b in
    let pieces = class.part class.pointers ∷ class.part class.identifier ∷ class.part class.lengths ∷ [] in
    let others = sequence-reads pieces g (after_of make.Parameter) (symbol.Reduce make.Parameter ∷ symbols) (ty ∷ values) tokens
    refl m.3 known.1 b' (λ e. absurd (no e)) in
    join (type-front pieces ty g (after_of make.Parameter) symbols values tokens parameter-fits refl m known.0 b')
    (pointers-join symbols (ty ∷ values) (w ∷ values) (spells g ++ tokens) tokens
    (join others (made-step make.Parameter (more ty g) symbols values tokens m))))
