-- The one form of tree that is compiled so far: a function `void main(void)` of writes of constants to the output register, with the
-- halt at its end; and where a tree departs from it.
use Rattle.std.specs.Prelude.{◌≡◌, ℕ, ◌+◌, ◌^◌, ◌<◌, ◌≤◌, Bool, true, false, ◌&&◌, not, nat_lt, if◌then◌else◌}
use Rattle.std.specs.Prelude.{List, [], ◌∷◌, length, codes, Option, Some, None, is_some}
use Rattle.std.specs.List.{AllByRecursion}
use Rattle.std.specs.Str.{bytes_eq}
use Rattle.csyn.specs.declared.span.Span.{Span}
use Rattle.csyn.specs.declared.specifiers.Base.{Base}
use Rattle.csyn.specs.declared.specifiers.Base.TheVariants.{Void}
use Rattle.csyn.specs.declared.specifiers.Specifiers.{Specifiers}
use Rattle.csyn.specs.declared.specifiers.Pointers as pointers
use Rattle.csyn.specs.declared.declaration.Parameters.{Parameters}
use Rattle.csyn.specs.declared.declaration.Parameters.TheVariants as parameters
use Rattle.csyn.specs.declared.expression.ExprKind.{ExprKind, Name, Number, CallFunction, Assign'}
use Rattle.csyn.specs.declared.expression.Exprs as exprs
use Rattle.csyn.specs.declared.statement.StmtKind.{StmtKind, Expression}
use Rattle.csyn.specs.declared.statement.Items as items
use Rattle.csyn.specs.declared.unit.Head.{Head}
use Rattle.csyn.specs.declared.unit.UnitKind.{UnitKind}
use Rattle.csyn.specs.declared.unit.UnitKind.TheVariants as kind
use Rattle.csyn.specs.declared.unit.Units as units
use Rattle.csyn.specs.Tree.{Contents}

-- what one write may write: what LDI loads
abbrev pub IsLoadable : ℕ → Type 0
IsLoadable k = k < 2 ^ 16

-- what a source may write: with the halt, one word each
pub record AreWrites (ks : List ℕ) : Type 0 where
  pub count : length ks ≤ 2047
  pub each : AllByRecursion IsLoadable ks

-- ---- the head

abbrev pub is_void : Base → Bool
is_void Void = true
is_void _ = false

-- `void`, with nothing beside it
abbrev pub is_plain_void : Specifiers → Bool
is_plain_void t = is_void t.base && (not t.is_static && (not t.is_inline && (not t.is_const && not t.is_volatile)))

abbrev pub has_no_pointers : pointers.Pointers → Bool
has_no_pointers pointers.End = true
has_no_pointers _ = false

-- written `(void)`
abbrev pub takes_void : Parameters → Bool
takes_void parameters.Void = true
takes_void _ = false

-- `void main(void)`
unfoldable pub is_main : Head → Bool
is_main head = is_plain_void head.specifiers && (has_no_pointers head.pointers &&
    (bytes_eq head.name (codes "main") && takes_void head.parameters))

-- ---- the items

abbrev pub is_output : ExprKind → Bool
is_output (Name name) = bytes_eq name (codes "__R30")
is_output _ = false

-- a number of at most 65535
abbrev pub loadable_of : ExprKind → Option ℕ
loadable_of (Number n) = if nat_lt n.value (2 ^ 16) then Some n.value else None
loadable_of _ = None

abbrev pub assigned : ExprKind → Option ℕ
assigned (Assign' _ _ target _ _ value) = if is_output target then loadable_of value else None
assigned _ = None

-- the number K of the statement `__R30 = K;`
unfoldable pub write_of : StmtKind → Option ℕ
write_of (Expression (Some e)) = assigned e.value.kind
write_of _ = None

abbrev pub is_nothing : exprs.Exprs → Bool
is_nothing exprs.End = true
is_nothing _ = false

abbrev pub calls_halt : ExprKind → Bool
calls_halt (CallFunction name arguments) = bytes_eq name (codes "__halt") && is_nothing arguments
calls_halt _ = false

-- the statement `__halt();`
unfoldable pub halts : StmtKind → Bool
halts (Expression (Some e)) = calls_halt e.value.kind
halts _ = false

abbrev pub is_end : items.Items → Bool
is_end items.End = true
is_end _ = false

-- ---- what a tree writes

-- the items write these numbers, one after another, and halt at their end
unfoldable pub BodyWrites : items.Items → List ℕ → Type 0
BodyWrites items.End ks = ⊥
BodyWrites (items.Object' _ _ _) ks = ⊥
BodyWrites (items.Statement' _ _ statement _ rest) [] = (halts statement ≡ true) × (is_end rest ≡ true)
BodyWrites (items.Statement' _ _ statement _ rest) (k ∷ ks) = (write_of statement ≡ Some k) × BodyWrites rest ks

-- the unit is a function `void main(void)` with this body
abbrev pub IsMain : UnitKind → items.Items → Type 0
IsMain (kind.Function head all) body = (is_main head ≡ true) × (all ≡ body)
IsMain _ body = ⊥

-- the units are one such function
unfoldable pub IsMainAlone : units.Units → items.Items → Type 0
IsMainAlone (units.More' u _ units.End) body = IsMain u.value.kind body
IsMainAlone _ body = ⊥

-- the units have the form, and write these numbers
pub record IsProgram (all : units.Units) (ks : List ℕ) : Type 0 where
  pub body : items.Items
  pub main : IsMainAlone all body
  pub writes : BodyWrites body ks
  pub are_writes : AreWrites ks

-- ---- where a tree departs from the form

-- Behind so many writes of the body: at the first item that is neither a write, of 2,047 at most, nor the halt with nothing behind
-- it; or at the end of the source, where the last item is no halt.
unfoldable pub body_departure : Span → ℕ → items.Items → Option Span
body_departure end written items.End = Some end
body_departure end written (items.Object' object _ rest) = Some object.value.mark.span
body_departure end written (items.Statement' _ mark statement _ rest) =
    if is_some (write_of statement) && nat_lt written 2047 then body_departure end (written + 1) rest
    else (if halts statement && is_end rest then None else Some mark.span)

-- at a second unit, or in the body
abbrev pub behind_head : Span → items.Items → units.Units → Option Span
behind_head end body units.End = body_departure end 0 body
behind_head end body (units.More' u _ _) = Some u.value.mark.span

-- at the first unit, or behind its head
abbrev pub unit_departure : Span → Span → UnitKind → units.Units → Option Span
unit_departure end begin (kind.Function head body) rest = if is_main head then behind_head end body rest else Some begin
unit_departure end begin _ rest = Some begin

-- at the end of the source, where it has no unit
unfoldable pub units_departure : Span → units.Units → Option Span
units_departure end units.End = Some end
units_departure end (units.More' u _ rest) = unit_departure end u.value.mark.span u.value.kind rest

-- the place at which the tree departs from the form, if it does
abbrev pub departure : Contents → Option Span
departure tree = units_departure tree.end tree.units
