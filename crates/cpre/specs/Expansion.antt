-- The expansion of a source, or its first fault.
use Rattle.std.specs.Prelude.{◌≡◌, ℕ, ◌+◌, ◌-◌, Bool, true, false, not, ◌&&◌, if◌then◌else◌, nat_lt, List, [], ◌∷◌}
use Rattle.std.specs.Prelude.{◌++◌, length, map, is_some, Option, Some, None, Result, Ok, Err}
use Rattle.csyn.specs.declared.cause.Cause.{Cause}
use Rattle.csyn.specs.declared.cause.Cause.TheVariants.{P1, P2, P3, P4, P5, P6, P7}
use Rattle.csyn.specs.declared.fault.SourceFault.{SourceFault}
use Rattle.csyn.specs.declared.fault.SourceFault.TheVariants.{Broken, Memory}
use Rattle.csyn.specs.declared.span.Span.{Span}
use Rattle.csyn.specs.declared.token.Token.{Token}
use Rattle.csyn.specs.declared.tree.TheConstants.{MAX_TOKENS}
use Rattle.cpre.specs.declared.directive.Directive.{Directive}
use Rattle.cpre.specs.declared.directive.Directive.TheVariants.{Define, Include, Ifdef, Ifndef, Else, Endif}
use Rattle.cpre.specs.declared.state.Group.{Group}
use Rattle.cpre.specs.Directive.{directive_of, name_alone, definition, is_stdint, are_same}
use Rattle.cpre.specs.Line.{Item, Line, Plain, End, items}
use Rattle.cpre.specs.Replacement.{Macros, definition_of, expanded}
use Rattle.cpre.specs.Standard.{typed}

-- What is known at a place of a source: the macros that are defined, whether <stdint.h> is included, the groups in which it
-- stands, the innermost first, and the tokens made of what is before it.
pub record State : Type 0 where
  pub macros : Macros
  pub is_included : Bool
  pub groups : List Group
  pub made : List Token

abbrev pub start : State
start = record { macros = []; is_included = false; groups = []; made = [] }

-- A part is kept where it is the chosen one of its group, and what is around the group is kept.
abbrev pub is_kept : List Group → Bool
is_kept [] = true
is_kept (g ∷ groups) = g.is_around_kept && g.is_chosen

abbrev pub is_empty : List Token → Bool
is_empty [] = true
is_empty (t ∷ line) = false

-- ---- definitions and includes

-- a macro that has these tokens already, if it is defined
abbrev pub added : State → List ℕ × List Token → Option (List Token) → Result State Cause
added s m None = Ok (record { macros = s.macros ++ m ∷ []; is_included = s.is_included; groups = s.groups; made = s.made })
added s m (Some tokens) = if are_same tokens m.1 then Ok s else Err P3

abbrev pub define : State → Option (List ℕ × List Token) → Result State Cause
define s None = Err P2
define s (Some m) = added s m (definition_of s.macros m.0)

abbrev pub include : State → List Token → Result State Cause
include s [] = Err P2
include s (t ∷ line) = if is_stdint (t ∷ line) then Ok (record
    { macros = s.macros; is_included = true; groups = s.groups; made = s.made }) else Err P4

-- ---- groups

abbrev pub in_groups : State → List Group → State
in_groups s groups = record { macros = s.macros; is_included = s.is_included; groups = groups; made = s.made }

-- an opening that has its `#endif`, or none
abbrev pub opened : State → Bool → Bool → Result State Cause
opened s is_closed is_chosen =
    if is_closed then Ok (in_groups s (record { is_around_kept = is_kept s.groups; is_chosen = is_chosen; has_else = false } ∷ s.groups))
    else Err P6

abbrev pub opened_by : State → Bool → Bool → Option (List ℕ) → Result State Cause
opened_by s is_closed wanted None = Err P2
opened_by s is_closed wanted (Some name) =
    let is_defined = is_some (definition_of s.macros name) in
    opened s is_closed (if wanted then is_defined else not is_defined)

-- The line of an opening that isn't kept may have any form.
abbrev pub begin_group : State → Bool → Bool → List Token → Result State Cause
begin_group s is_closed wanted line = if is_kept s.groups then opened_by s is_closed wanted (name_alone line) else opened s is_closed false

-- an `#else` or `#endif` without its opening
abbrev pub stray : List Token → Result State Cause
stray line = if is_empty line then Err P5 else Err P2

-- The line is judged where the opening of its group is kept.
abbrev pub is_malformed : Group → List Token → Bool
is_malformed g line = g.is_around_kept && not (is_empty line)

abbrev pub turn_group : State → List Group → List Token → Result State Cause
turn_group s [] line = stray line
turn_group s (g ∷ groups) line =
    if is_malformed g line then Err P2
    else (if g.has_else then Err P5
    else Ok (in_groups s (record { is_around_kept = g.is_around_kept; is_chosen = not g.is_chosen; has_else = true } ∷ groups)))

abbrev pub end_group : State → List Group → List Token → Result State Cause
end_group s [] line = stray line
end_group s (g ∷ groups) line = if is_malformed g line then Err P2 else Ok (in_groups s groups)

-- How many `#endif`s close an opening that stands before these items.
abbrev pub closing : Option Directive → ℕ → ℕ
closing (Some Ifdef) n = n - 1
closing (Some Ifndef) n = n - 1
closing (Some Endif) n = n + 1
closing _ n = n

abbrev pub closers : List Item → ℕ
closers [] = 0
closers (Line place line ∷ rest) = closing (directive_of line) (closers rest)
closers (Plain t ∷ rest) = closers rest
closers (End t ∷ rest) = closers rest

-- ---- items

abbrev pub behind_word : List Token → List Token
behind_word [] = []
behind_word (word ∷ line) = line

-- by the directive, the line behind its word, and whether an opening that stands there has its `#endif`
abbrev pub directed : State → Option Directive → List Token → Bool → Result State Cause
directed s (Some Ifdef) line is_closed = begin_group s is_closed true line
directed s (Some Ifndef) line is_closed = begin_group s is_closed false line
directed s (Some Else) line is_closed = turn_group s s.groups line
directed s (Some Endif) line is_closed = end_group s s.groups line
directed s (Some Define) line is_closed = if is_kept s.groups then define s (definition line) else Ok s
directed s (Some Include) line is_closed = if is_kept s.groups then include s line else Ok s
directed s None line is_closed = if is_kept s.groups then Err P1 else Ok s

abbrev pub with_made : State → List Token → State
with_made s made = record { macros = s.macros; is_included = s.is_included; groups = s.groups; made = made }

-- at most as many tokens as an expansion may have, the end token aside
abbrev pub within : State → List Token → Result State Cause
within s made = if nat_lt MAX_TOKENS (length made) then Err P7 else Ok (with_made s made)

abbrev pub written : State → Token → Result State Cause
written s t = if is_kept s.groups then within s (s.made ++ map (typed s.is_included) (expanded s.macros t)) else Ok s

-- where a rule is broken, and which
abbrev pub Fault : Type 0
Fault = Span × Cause

abbrev pub broken_at : Span → Result State Cause → Result State Fault
broken_at span (Ok s) = Ok s
broken_at span (Err cause) = Err (span, cause)

-- behind an item, before the rest
abbrev pub after_item : State → Item → List Item → Result State Fault
after_item s (Line place line) rest = broken_at place (directed s (directive_of line) (behind_word line) (nat_lt 0 (closers rest)))
after_item s (Plain t) rest = broken_at t.span (written s t)
after_item s (End t) rest = Ok (with_made s (s.made ++ t ∷ []))

abbrev pub and_then : Result State Fault → (State → Result State Fault) → Result State Fault
and_then (Ok s) next = next s
and_then (Err fault) next = Err fault

abbrev pub after_all : State → List Item → Result State Fault
after_all s [] = Ok s
after_all s (item ∷ rest) = and_then (after_item s item rest) (λ behind. after_all behind rest)

-- ---- whole sources

abbrev pub made_of : Result State Fault → Result (List Token) Fault
made_of (Ok s) = Ok s.made
made_of (Err fault) = Err fault

unfoldable pub expansion : List Token → Result (List Token) Fault
expansion tokens = made_of (after_all start (items false tokens))

-- the tokens that the source expands to
abbrev pub Expands : List Token → List Token → Type 0
Expands tokens out = expansion tokens ≡ Ok out

-- the first rule that the source breaks, and where: the least place, and there the least number
abbrev pub IsFault : List Token → Span → Cause → Type 0
IsFault tokens span cause = expansion tokens ≡ Err (span, cause)

-- want of memory may always be answered; else it is the source's first fault
abbrev pub IsFaultOf : List Token → SourceFault → Type 0
IsFaultOf tokens (Broken span cause) = IsFault tokens span cause
IsFaultOf tokens Memory = Unit {0}
