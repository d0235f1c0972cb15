-- How parameters are read: a void alone, and those whose names have stars before them.
use Rattle.std.specs.Prelude.{◌≡◌, Bool, true, false, not, ◌||◌, ◌&&◌, List, [], ◌∷◌, ◌++◌}
use Rattle.std.proofs.Common.{refl}
use Rattle.std.proofs.lemmas.Bool.{and_from, not_from_false}
use Rattle.csyn.specs.declared.token.Token.{Token}
use Rattle.csyn.specs.declared.keyword.Keyword.TheVariants as keyword
use Rattle.csyn.specs.declared.punctuator.Punctuator.TheVariants as punctuator
use Rattle.cgrammar.specs.declared.kind.Kind.{Kind}
use Rattle.cgrammar.specs.declared.production.Production.TheVariants as make
use Rattle.creader.specs.declared.part.Part.TheVariants as part
use Rattle.creader.specs.declared.part.Move.TheVariants as move
use Rattle.creader.specs.declared.part.Symbol.{Symbol}
use Rattle.creader.specs.declared.part.Symbol.TheVariants as symbol
use Rattle.cgrammar.specs.Kind.{kind_of}
use Rattle.cgrammar.specs.Terminal.{accepts}
use Rattle.creader.specs.Rules.{any_accepts}
use Rattle.cgrammar.specs.Grammar as class
use Rattle.cgrammar.specs.Grammar.{template, home}
use Rattle.cgrammar.specs.Text.{Written, leaf, node, Forest, none, more, Match}
use Rattle.creader.specs.Machine.{at, Reaches}
use Rattle.creader.proofs.Complete.Reading.{reader, follow, allows, is_statement, Reads}
use Rattle.creader.proofs.Complete.Heads.{AllKnown}
use Rattle.creader.proofs.Complete.Steps.{join, push}
use Rattle.creader.proofs.Complete.Firsts.{sign, word, begins-as}
use Rattle.creader.proofs.Complete.Sequence.{may_follow, reads-from, readers}
use Rattle.creader.proofs.Complete.Plain.{ready_check, expanded}
use Rattle.creader.proofs.Complete.Rule.{rule_check, rule_shape, Chosen, part-take, part-stay, stay-at, made-step}
use Rattle.creader.proofs.Complete.Rule.{back-take, back-stay, hungry, no-tokens, refuse_check, refused}

-- some tokens
abbrev is_void : Kind → Bool
is_void = accepts (word keyword.Void)

abbrev is_right : Kind → Bool
is_right = accepts (sign punctuator.RightParenthesis)

abbrev base_type : List Symbol
base_type = symbol.Read part.Base ∷ symbol.Read part.Qualifiers ∷ symbol.Reduce make.Based ∷ []

-- what is still to be read behind a parameter, its type, its base, a void
abbrev some_parameters : List Symbol
some_parameters = symbol.Read part.MoreParameters ∷ symbol.Reduce make.SomeParameters ∷ []

abbrev tail_parameters : List Symbol
tail_parameters = symbol.Reduce make.NoPointers ∷ symbol.Read part.ParameterTail ∷ some_parameters

abbrev based_parameters : List Symbol
based_parameters = symbol.Read part.Qualifiers ∷ symbol.Reduce make.Based ∷ tail_parameters

abbrev void_parameters : List Symbol
void_parameters = symbol.Reduce make.VoidBase ∷ based_parameters

-- the rules by which parameters are read
parameters-void : Chosen part.Parameters is_void move.Take (symbol.Read part.AfterVoid ∷ [])
unfolding rule_check rule_shape
parameters-void = record { index = 1; checked = refl; found = refl }

parameters-other : Chosen part.Parameters (λ k. not (is_right k) && not (is_void k)) move.Stay
    (symbol.Read part.Parameter ∷ some_parameters)
unfolding rule_check rule_shape
parameters-other = record { index = 2; checked = refl; found = refl }

void-right : Chosen part.AfterVoid is_right move.Stay (symbol.Reduce make.VoidParameters ∷ [])
unfolding rule_check rule_shape
void-right = record { index = 0; checked = refl; found = refl }

void-other : Chosen part.AfterVoid (λ k. not (is_right k)) move.Stay void_parameters
unfolding rule_check rule_shape
void-other = record { index = 1; checked = refl; found = refl }

parameter-first : Chosen part.Parameter (λ _. true) move.Stay
    (symbol.Read part.Type ∷ symbol.Reduce make.NoPointers ∷ symbol.Read part.ParameterTail ∷ [])
unfolding rule_check rule_shape
parameter-first = record { index = 0; checked = refl; found = refl }

type-void : Chosen part.Type is_void move.Stay base_type
unfolding rule_check rule_shape
type-void = record { index = 1; checked = refl; found = refl }

base-void : Chosen part.Base is_void move.Take (symbol.Reduce make.VoidBase ∷ [])
unfolding rule_check rule_shape
base-void = record { index = 0; checked = refl; found = refl }

-- a parenthesis is what may stand behind them
right-may : (w : Written) (kind : Kind) → may_follow class.parameters w kind ≡ true → is_right kind ≡ true
unfolding is_statement follow allows any_accepts
right-may w kind h = go (is_right kind) h
  where
    go : (r : Bool) → (r || false) ≡ true → r ≡ true
    go true h = refl
    go false h = h

-- a void alone
pub void-reads : (f : Forest) → Match (template make.VoidParameters) f → Reads class.parameters (node make.VoidParameters f)
unfolding template Match reader push
void-reads none m = absurd m
void-reads (more (node p g) f) m = absurd m.0
void-reads (more w (more v f)) m = absurd m.3
void-reads (more (leaf x) none) m = reads-from class.parameters (node make.VoidParameters (more (leaf x) none)) (λ symbols values tokens b.
    join (part-take part.Parameters is_void _ symbols values x tokens parameters-void m.0)
    (join (stay-at part.AfterVoid is_right _ symbols (leaf x ∷ values) tokens void-right
    (begins-as (may_follow class.parameters (node make.VoidParameters (more (leaf x) none))) is_right tokens (right-may _) b))
    (made-step make.VoidParameters (more (leaf x) none) symbols values tokens m)))

-- from void on
void-inside : (symbols : List Symbol) (values others : List Written) (x : Token) (tokens left : List Token) → is_void (kind_of x) ≡ true
    → Reaches (at (symbol.Read part.Parameter ∷ some_parameters ++ symbols) values (x ∷ tokens)) (at symbols others left)
    → Reaches (at (void_parameters ++ symbols) (leaf x ∷ values) tokens) (at symbols others left)
void-inside symbols values others x tokens left v reached =
    let first = back-stay some_parameters symbols values others left part.Parameter (λ _. true) _ x tokens parameter-first refl reached in
    let base = back-stay tail_parameters symbols values others left part.Type is_void _ x tokens type-void v first in
    back-take based_parameters symbols values others left part.Base is_void _ x tokens base-void v base

-- behind a void that is not alone stands the rest of a parameter
void-join : (symbols : List Symbol) (values others : List Written) (x : Token) (tokens left : List Token) → is_void (kind_of x) ≡ true
    → Reaches (at (symbol.Read part.Parameter ∷ some_parameters ++ symbols) values (x ∷ tokens)) (at symbols others left)
    → Reaches (at (symbol.Read part.Parameters ∷ symbols) values (x ∷ tokens)) (at symbols others left)
unfolding hungry refuse_check
void-join symbols values others x [] left v reached =
    absurd (no-tokens void_parameters symbols (leaf x ∷ values) others left refl (void-inside symbols values others x [] left v reached))
void-join symbols values others x (y ∷ tokens) left v reached =
    go (is_right (kind_of y)) refl (void-inside symbols values others x (y ∷ tokens) left v reached)
  where
    go : (b : Bool) → is_right (kind_of y) ≡ b → Reaches (at (void_parameters ++ symbols) (leaf x ∷ values) (y ∷ tokens))
        (at symbols others left)
        → Reaches (at (symbol.Read part.Parameters ∷ symbols) values (x ∷ y ∷ tokens)) (at symbols others left)
    go true b inside = absurd (refused void_parameters symbols (leaf x ∷ values) others is_right y tokens left refl b inside)
    go false b inside =
        join (part-take part.Parameters is_void _ symbols values x (y ∷ tokens) parameters-void v)
        (join (part-stay part.AfterVoid (λ k. not (is_right k)) _ symbols (leaf x ∷ values) y tokens void-other
        (not_from_false (is_right (kind_of y)) b)) inside)

-- parameters, by what they begin with
parameters-join : (symbols : List Symbol) (values others : List Written) (tokens left : List Token)
    → Reaches (at (symbol.Read part.Parameter ∷ some_parameters ++ symbols) values tokens) (at symbols others left)
    → Reaches (at (symbol.Read part.Parameters ∷ symbols) values tokens) (at symbols others left)
unfolding hungry refuse_check
parameters-join symbols values others [] left reached =
    absurd (no-tokens (symbol.Read part.Parameter ∷ some_parameters) symbols values others left refl reached)
parameters-join symbols values others (x ∷ tokens) left reached = go (is_right (kind_of x)) (is_void (kind_of x)) refl refl
  where
    go : (r v : Bool) → is_right (kind_of x) ≡ r → is_void (kind_of x) ≡ v
        → Reaches (at (symbol.Read part.Parameters ∷ symbols) values (x ∷ tokens)) (at symbols others left)
    go true v e e' = absurd (refused (symbol.Read part.Parameter ∷ some_parameters) symbols values others is_right x tokens left
        refl e reached)
    go false true e e' = void-join symbols values others x tokens left e' reached
    go false false e e' =
        join (part-stay part.Parameters (λ k. not (is_right k) && not (is_void k)) _ symbols values x tokens parameters-other
        (and_from _ _ (not_from_false _ e) (not_from_false _ e'))) reached

-- one parameter and more of them
pub some-reads : (f : Forest) → Match (template make.SomeParameters) f → AllKnown f → Reads class.parameters (node make.SomeParameters f)
unfolding ready_check template home reader readers
some-reads f m known = reads-from class.parameters (node make.SomeParameters f) (λ symbols values tokens b.
    parameters-join symbols values (node make.SomeParameters f ∷ values) _ tokens
    (expanded make.SomeParameters f refl m known symbols values tokens b))
