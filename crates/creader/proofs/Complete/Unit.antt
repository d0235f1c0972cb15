-- How units are read: a unit of a structure, of a register, and any other, by what it begins with.
use Rattle.std.specs.Prelude.{◌≡◌, Bool, true, false, not, ◌&&◌, List, [], ◌∷◌, ◌++◌}
use Rattle.std.proofs.Common.{refl}
use Rattle.std.proofs.lemmas.Bool.{and_from, not_from_false}
use Rattle.csyn.specs.declared.token.Token.{Token}
use Rattle.csyn.specs.declared.keyword.Keyword.TheVariants as keyword
use Rattle.csyn.specs.declared.punctuator.Punctuator.TheVariants as punctuator
use Rattle.cgrammar.specs.declared.kind.Kind.{Kind}
use Rattle.cgrammar.specs.declared.production.Production.TheVariants as make
use Rattle.cgrammar.specs.declared.terminal.Terminal.TheVariants as terminal
use Rattle.creader.specs.declared.part.Part.TheVariants as part
use Rattle.creader.specs.declared.part.Move.TheVariants as move
use Rattle.creader.specs.declared.part.Symbol.{Symbol}
use Rattle.creader.specs.declared.part.Symbol.TheVariants as symbol
use Rattle.cgrammar.specs.Kind.{kind_of}
use Rattle.cgrammar.specs.Terminal.{accepts}
use Rattle.cgrammar.specs.Grammar as class
use Rattle.cgrammar.specs.Grammar.{template, home}
use Rattle.cgrammar.specs.Text.{Written, leaf, node, Forest, Match}
use Rattle.creader.specs.Machine.{at, Reaches, reduce}
use Rattle.creader.proofs.Complete.Reading.{reader, Reads}
use Rattle.creader.proofs.Complete.Heads.{AllKnown}
use Rattle.creader.proofs.Complete.Steps.{join, take-step, reduce-step}
use Rattle.creader.proofs.Complete.Firsts.{sign, word}
use Rattle.creader.proofs.Complete.Sequence.{reads-from, readers}
use Rattle.creader.proofs.Complete.Plain.{ready_check, expanded}
use Rattle.creader.proofs.Complete.Rule.{rule_check, rule_shape, Chosen, part-take, part-stay, back-reduce, back-accepts}
use Rattle.creader.proofs.Complete.Rule.{back-take-token, back-take, back-stay, hungry, no-tokens, refuse_check, refused}

-- what stands behind the type of an object or a function
abbrev rest : List Symbol
rest = symbol.Read part.Pointers ∷ symbol.Take terminal.Name ∷ symbol.Reduce make.Identifier ∷ symbol.Read part.ExternalRest
    ∷ symbol.Reduce make.External ∷ []

-- what a type without specifiers is read by
abbrev base_type : List Symbol
base_type = symbol.Read part.Base ∷ symbol.Read part.Qualifiers ∷ symbol.Reduce make.Based ∷ []

-- some tokens
abbrev is_volatile : Kind → Bool
is_volatile = accepts (word keyword.Volatile)

abbrev is_struct : Kind → Bool
is_struct = accepts (word keyword.Struct)

abbrev is_register : Kind → Bool
is_register = accepts (word keyword.Register)

abbrev is_brace : Kind → Bool
is_brace = accepts (sign punctuator.LeftBrace)

-- the rules by which units are read
unit-volatile : Chosen part.Unit is_volatile move.Take (symbol.Read part.AfterVolatile ∷ [])
unfolding rule_check rule_shape
unit-volatile = record { index = 0; checked = refl; found = refl }

unit-struct : Chosen part.Unit is_struct move.Take (symbol.Take terminal.Name ∷ symbol.Reduce make.Identifier
    ∷ symbol.Read part.AfterTag ∷ [])
unfolding rule_check rule_shape
unit-struct = record { index = 1; checked = refl; found = refl }

unit-other : Chosen part.Unit (λ k. not (is_volatile k) && not (is_struct k)) move.Stay (symbol.Read part.Type ∷ rest)
unfolding rule_check rule_shape
unit-other = record { index = 2; checked = refl; found = refl }

volatile-register : Chosen part.AfterVolatile is_register move.Take
    (symbol.Read part.RegisterType ∷ symbol.Take terminal.RegisterName ∷ symbol.Take (sign punctuator.Semicolon)
    ∷ symbol.Reduce make.RegisterUnit ∷ [])
unfolding rule_check rule_shape
volatile-register = record { index = 0; checked = refl; found = refl }

volatile-other : Chosen part.AfterVolatile (λ k. not (is_register k)) move.Stay
    (symbol.Read part.Type ∷ symbol.Reduce make.Specified ∷ rest)
unfolding rule_check rule_shape
volatile-other = record { index = 1; checked = refl; found = refl }

tag-brace : Chosen part.AfterTag is_brace move.Take
    (symbol.Read part.StructMember ∷ symbol.Read part.MoreMembers ∷ symbol.Take (sign punctuator.RightBrace)
    ∷ symbol.Take (sign punctuator.Semicolon) ∷ symbol.Reduce make.StructUnit ∷ [])
unfolding rule_check rule_shape
tag-brace = record { index = 0; checked = refl; found = refl }

tag-other : Chosen part.AfterTag (λ k. not (is_brace k)) move.Stay
    (symbol.Reduce make.StructBase ∷ symbol.Read part.Qualifiers ∷ symbol.Reduce make.Based ∷ rest)
unfolding rule_check rule_shape
tag-other = record { index = 1; checked = refl; found = refl }

type-volatile : Chosen part.Type is_volatile move.Take (symbol.Read part.Type ∷ symbol.Reduce make.Specified ∷ [])
unfolding rule_check rule_shape
type-volatile = record { index = 0; checked = refl; found = refl }

type-struct : Chosen part.Type is_struct move.Stay base_type
unfolding rule_check rule_shape
type-struct = record { index = 1; checked = refl; found = refl }

base-struct : Chosen part.Base is_struct move.Take (symbol.Take terminal.Name ∷ symbol.Reduce make.Identifier
    ∷ symbol.Reduce make.StructBase ∷ [])
unfolding rule_check rule_shape
base-struct = record { index = 1; checked = refl; found = refl }

-- what is still to be read behind volatile
volatile-type : List Symbol
volatile-type = symbol.Read part.Type ∷ symbol.Reduce make.Specified ∷ rest

-- behind volatile stands a type, and no register
volatile-join : (symbols : List Symbol) (values others : List Written) (x : Token) (tokens left : List Token)
    → is_volatile (kind_of x) ≡ true
    → Reaches (at (symbol.Read part.Type ∷ rest ++ symbols) values (x ∷ tokens)) (at symbols others left)
    → Reaches (at (symbol.Read part.Unit ∷ symbols) values (x ∷ tokens)) (at symbols others left)
unfolding volatile-type hungry refuse_check
volatile-join symbols values others x [] left v reached =
    absurd (no-tokens volatile-type symbols (leaf x ∷ values) others left refl
    (back-take rest symbols values others left part.Type is_volatile _ x [] type-volatile v reached))
volatile-join symbols values others x (y ∷ tokens) left v reached = go (is_register (kind_of y)) refl
  where
    inside : Reaches (at (volatile-type ++ symbols) (leaf x ∷ values) (y ∷ tokens)) (at symbols others left)
    inside = back-take rest symbols values others left part.Type is_volatile _ x (y ∷ tokens) type-volatile v reached

    go : (b : Bool) → is_register (kind_of y) ≡ b → Reaches (at (symbol.Read part.Unit ∷ symbols) values (x ∷ y ∷ tokens))
        (at symbols others left)
    go true r = absurd (refused volatile-type symbols (leaf x ∷ values) others is_register y tokens left refl r inside)
    go false r =
        join (part-take part.Unit is_volatile _ symbols values x (y ∷ tokens) unit-volatile v)
        (join (part-stay part.AfterVolatile (λ k. not (is_register k)) _ symbols (leaf x ∷ values) y tokens volatile-other
        (not_from_false (is_register (kind_of y)) r)) inside)

-- what is still to be read behind a structure's name
struct-type : List Symbol
struct-type = symbol.Read part.Qualifiers ∷ symbol.Reduce make.Based ∷ rest

struct-base : List Symbol
struct-base = symbol.Reduce make.StructBase ∷ struct-type

struct-name : List Symbol
struct-name = symbol.Reduce make.Identifier ∷ struct-base

-- from struct on
struct-inside : (symbols : List Symbol) (values others : List Written) (x : Token) (tokens left : List Token) → is_struct (kind_of x) ≡ true
    → Reaches (at (symbol.Read part.Type ∷ rest ++ symbols) values (x ∷ tokens)) (at symbols others left)
    → Reaches (at (symbol.Take terminal.Name ∷ struct-name ++ symbols) (leaf x ∷ values) tokens) (at symbols others left)
unfolding struct-name struct-base struct-type
struct-inside symbols values others x tokens left s reached =
    let base = back-stay rest symbols values others left part.Type is_struct _ x tokens type-struct s reached in
    back-take struct-type symbols values others left part.Base is_struct _ x tokens base-struct s base

-- behind struct and a name stands the rest of a type, and no brace
struct-join : (symbols : List Symbol) (values others : List Written) (x : Token) (tokens left : List Token) → is_struct (kind_of x) ≡ true
    → Reaches (at (symbol.Read part.Type ∷ rest ++ symbols) values (x ∷ tokens)) (at symbols others left)
    → Reaches (at (symbol.Read part.Unit ∷ symbols) values (x ∷ tokens)) (at symbols others left)
unfolding struct-name struct-base struct-type hungry refuse_check
struct-join symbols values others x [] left s reached =
    absurd (no-tokens (symbol.Take terminal.Name ∷ struct-name) symbols (leaf x ∷ values) others left refl
    (struct-inside symbols values others x [] left s reached))
struct-join symbols values others x (y ∷ []) left s reached =
    absurd (no-tokens struct-name symbols (leaf y ∷ leaf x ∷ values) others left refl
    (back-take-token struct-name symbols (leaf x ∷ values) others left terminal.Name y []
    (struct-inside symbols values others x (y ∷ []) left s reached)))
struct-join symbols values others x (y ∷ z ∷ tokens) left s reached = go (is_brace (kind_of z)) refl
  where
    name : accepts terminal.Name (kind_of y) ≡ true
    name = back-accepts struct-name symbols (leaf x ∷ values) others left terminal.Name y (z ∷ tokens)
        (struct-inside symbols values others x (y ∷ z ∷ tokens) left s reached)

    named : List Written
    named = reduce make.Identifier (leaf y ∷ leaf x ∷ values)

    behind : Reaches (at (struct-base ++ symbols) named (z ∷ tokens)) (at symbols others left)
    behind = back-reduce struct-base symbols (leaf y ∷ leaf x ∷ values) others left make.Identifier (z ∷ tokens)
        (back-take-token struct-name symbols (leaf x ∷ values) others left terminal.Name y (z ∷ tokens)
        (struct-inside symbols values others x (y ∷ z ∷ tokens) left s reached))

    front : Reaches (at (symbol.Read part.Unit ∷ symbols) values (x ∷ y ∷ z ∷ tokens))
        (at (symbol.Read part.AfterTag ∷ symbols) named (z ∷ tokens))
    front =
        join (part-take part.Unit is_struct _ symbols values x (y ∷ z ∷ tokens) unit-struct s)
        (join (take-step terminal.Name (symbol.Reduce make.Identifier ∷ symbol.Read part.AfterTag ∷ symbols) (leaf x ∷ values) y
        (z ∷ tokens) name)
        (reduce-step make.Identifier (symbol.Read part.AfterTag ∷ symbols) (leaf y ∷ leaf x ∷ values) (z ∷ tokens)))

    go : (b : Bool) → is_brace (kind_of z) ≡ b → Reaches (at (symbol.Read part.Unit ∷ symbols) values (x ∷ y ∷ z ∷ tokens))
        (at symbols others left)
    go true b = absurd (refused struct-base symbols named others is_brace z tokens left refl b behind)
    go false b =
        join front
        (join (part-stay part.AfterTag (λ k. not (is_brace k)) _ symbols named z tokens tag-other
        (not_from_false (is_brace (kind_of z)) b)) behind)

-- an object or a function
unit-join : (symbols : List Symbol) (values others : List Written) (tokens left : List Token)
    → Reaches (at (symbol.Read part.Type ∷ rest ++ symbols) values tokens) (at symbols others left)
    → Reaches (at (symbol.Read part.Unit ∷ symbols) values tokens) (at symbols others left)
unfolding hungry
unit-join symbols values others [] left reached = absurd (no-tokens (symbol.Read part.Type ∷ rest) symbols values others left refl reached)
unit-join symbols values others (x ∷ tokens) left reached = go (is_volatile (kind_of x)) (is_struct (kind_of x)) refl refl
  where
    go : (v s : Bool) → is_volatile (kind_of x) ≡ v → is_struct (kind_of x) ≡ s
        → Reaches (at (symbol.Read part.Unit ∷ symbols) values (x ∷ tokens)) (at symbols others left)
    go true s e e' = volatile-join symbols values others x tokens left e reached
    go false true e e' = struct-join symbols values others x tokens left e' reached
    go false false e e' =
        join (part-stay part.Unit (λ k. not (is_volatile k) && not (is_struct k)) _ symbols values x tokens unit-other
        (and_from _ _ (not_from_false _ e) (not_from_false _ e'))) reached

-- An object or a function is read.
pub external-reads : (f : Forest) → Match (template make.External) f → AllKnown f → Reads class.unit (node make.External f)
unfolding ready_check template home reader readers
external-reads f m known = reads-from class.unit (node make.External f) (λ symbols values tokens b.
    unit-join symbols values (node make.External f ∷ values) _ tokens (expanded make.External f refl m known symbols values tokens b))

-- what is still to be read of a structure
members : List Symbol
members = symbol.Read part.StructMember ∷ symbol.Read part.MoreMembers ∷ symbol.Take (sign punctuator.RightBrace)
    ∷ symbol.Take (sign punctuator.Semicolon)
    ∷ symbol.Reduce make.StructUnit ∷ []

tag-body : List Symbol
tag-body = symbol.Take (sign punctuator.LeftBrace) ∷ members

tag-name : List Symbol
tag-name = symbol.Reduce make.Identifier ∷ tag-body

structure : List Symbol
structure = symbol.Take terminal.Name ∷ tag-name

-- a structure
structure-join : (symbols : List Symbol) (values others : List Written) (tokens left : List Token)
    → Reaches (at (symbol.Take (word keyword.Struct) ∷ structure ++ symbols) values tokens) (at symbols others left)
    → Reaches (at (symbol.Read part.Unit ∷ symbols) values tokens) (at symbols others left)
unfolding structure tag-name tag-body members hungry
structure-join symbols values others [] left r = absurd (no-tokens (symbol.Take (word keyword.Struct) ∷ structure) symbols values
    others left refl r)
structure-join symbols values others (x ∷ []) left r =
    absurd (no-tokens structure symbols (leaf x ∷ values) others left refl
    (back-take-token structure symbols values others left (word keyword.Struct) x [] r))
structure-join symbols values others (x ∷ y ∷ []) left r =
    absurd (no-tokens tag-name symbols (leaf y ∷ leaf x ∷ values) others left refl
    (back-take-token tag-name symbols (leaf x ∷ values) others left terminal.Name y []
    (back-take-token structure symbols values others left (word keyword.Struct) x (y ∷ []) r)))
structure-join symbols values others (x ∷ y ∷ z ∷ tokens) left r =
    let s = back-accepts structure symbols values others left (word keyword.Struct) x (y ∷ z ∷ tokens) r in
    let r1 = back-take-token structure symbols values others left (word keyword.Struct) x (y ∷ z ∷ tokens) r in
    let n = back-accepts tag-name symbols (leaf x ∷ values) others left terminal.Name y (z ∷ tokens) r1 in
    let r2 = back-take-token tag-name symbols (leaf x ∷ values) others left terminal.Name y (z ∷ tokens) r1 in
    let r3 = back-reduce tag-body symbols (leaf y ∷ leaf x ∷ values) others left make.Identifier (z ∷ tokens) r2 in
    let named = reduce make.Identifier (leaf y ∷ leaf x ∷ values) in
    let b = back-accepts members symbols named others left (sign punctuator.LeftBrace) z tokens r3 in
    let r4 = back-take-token members symbols named others left (sign punctuator.LeftBrace) z tokens r3 in
    join (part-take part.Unit is_struct _ symbols values x (y ∷ z ∷ tokens) unit-struct s)
    (join (take-step terminal.Name (symbol.Reduce make.Identifier ∷ symbol.Read part.AfterTag ∷ symbols) (leaf x ∷ values) y (z ∷ tokens) n)
    (join (reduce-step make.Identifier (symbol.Read part.AfterTag ∷ symbols) (leaf y ∷ leaf x ∷ values) (z ∷ tokens))
    (join (part-take part.AfterTag is_brace _ symbols named z tokens tag-brace b) r4)))

-- A structure is read.
pub struct-unit-reads : (f : Forest) → Match (template make.StructUnit) f → AllKnown f → Reads class.unit (node make.StructUnit f)
unfolding ready_check template home reader readers structure tag-name tag-body members
struct-unit-reads f m known = reads-from class.unit (node make.StructUnit f) (λ symbols values tokens b.
    structure-join symbols values (node make.StructUnit f ∷ values) _ tokens
    (expanded make.StructUnit f refl m known symbols values tokens b))

-- what is still to be read of a register
register-body : List Symbol
register-body = symbol.Read part.RegisterType ∷ symbol.Take terminal.RegisterName ∷ symbol.Take (sign punctuator.Semicolon)
    ∷ symbol.Reduce make.RegisterUnit ∷ []

-- a register
register-join : (symbols : List Symbol) (values others : List Written) (tokens left : List Token)
    → Reaches (at (symbol.Take (word keyword.Volatile) ∷ symbol.Take (word keyword.Register) ∷ register-body ++ symbols) values
    tokens) (at symbols others left)
    → Reaches (at (symbol.Read part.Unit ∷ symbols) values tokens) (at symbols others left)
unfolding register-body hungry
register-join symbols values others [] left r =
    absurd (no-tokens (symbol.Take (word keyword.Volatile) ∷ symbol.Take (word keyword.Register) ∷ register-body) symbols values
    others left refl r)
register-join symbols values others (x ∷ []) left r =
    absurd (no-tokens (symbol.Take (word keyword.Register) ∷ register-body) symbols (leaf x ∷ values) others left refl
    (back-take-token (symbol.Take (word keyword.Register) ∷ register-body) symbols values others left (word keyword.Volatile) x [] r))
register-join symbols values others (x ∷ y ∷ tokens) left r =
    let front = symbol.Take (word keyword.Register) ∷ register-body in
    let v = back-accepts front symbols values others left (word keyword.Volatile) x (y ∷ tokens) r in
    let r1 = back-take-token front symbols values others left (word keyword.Volatile) x (y ∷ tokens) r in
    let g = back-accepts register-body symbols (leaf x ∷ values) others left (word keyword.Register) y tokens r1 in
    let r2 = back-take-token register-body symbols (leaf x ∷ values) others left (word keyword.Register) y tokens r1 in
    join (part-take part.Unit is_volatile _ symbols values x (y ∷ tokens) unit-volatile v)
    (join (part-take part.AfterVolatile is_register _ symbols (leaf x ∷ values) y tokens volatile-register g) r2)

-- A register is read.
pub register-unit-reads : (f : Forest) → Match (template make.RegisterUnit) f → AllKnown f → Reads class.unit (node make.RegisterUnit f)
unfolding ready_check template home reader readers register-body
register-unit-reads f m known = reads-from class.unit (node make.RegisterUnit f) (λ symbols values tokens b.
    register-join symbols values (node make.RegisterUnit f ∷ values) _ tokens
    (expanded make.RegisterUnit f refl m known symbols values tokens b))
