-- When an expression or a statement of a checked program is well typed: what each place is a part of, what each pointer points to, and what each value
-- is of. A checked program's own types tell of a pointer only whether it is volatile and how its elements are spaced; here its target is
-- told too, by the number of a layout.
use Rattle.std.specs.Prelude.{ℕ, ◌≡◌, ◌+◌, ◌^◌, ◌<◌, ◌≤◌, ◌⊎◌, List, [], ◌∷◌, length, Option, Some, None, slice_get, drop, ◌*◌, ⊤}
use Rattle.std.specs.Global.{Box}
use Rattle.prunum.specs.declared.width.Width.TheVariants.{B4}
use Rattle.csyn.specs.declared.specifiers.Sign.{Sign}
use Rattle.csyn.specs.declared.specifiers.Sign.TheVariants.{Signed, Unsigned}
use Rattle.cprogram.specs.declared.access.Access.{Access}
use Rattle.cprogram.specs.declared.access.AccessKind.{AccessKind}
use Rattle.cprogram.specs.declared.access.AccessKind.TheVariants as access
use Rattle.cprogram.specs.declared.pointer.Element.{Element}
use Rattle.cprogram.specs.declared.pointer.Offset.{Offset}
use Rattle.cprogram.specs.declared.pointer.Pointer.{Pointer}
use Rattle.cprogram.specs.declared.pointer.PointerKind.{PointerKind}
use Rattle.cprogram.specs.declared.pointer.PointerKind.TheVariants as pointer
use Rattle.cprogram.specs.declared.scalar.Conversion.{Conversion}
use Rattle.cprogram.specs.declared.scalar.Scalar.{Scalar}
use Rattle.cprogram.specs.declared.scalar.Scalar.TheVariants as scalar
use Rattle.cprogram.specs.declared.value.CallResult.{CallResult}
use Rattle.cprogram.specs.declared.value.CallResult.TheVariants.{Void, Unused, Used}
use Rattle.cprogram.specs.declared.value.PlaceKind as place
use Rattle.cprogram.specs.declared.value.ValueKind as value
use Rattle.cprogram.specs.declared.value.Operand.{Operand}
use Rattle.cprogram.specs.declared.value.Operands as operands
use Rattle.cprogram.specs.declared.value.Value.{Value}
use Rattle.cprogram.specs.declared.statement.Declaration.{Declaration}
use Rattle.cprogram.specs.declared.statement.Declarations as declarations
use Rattle.cprogram.specs.declared.statement.ForFirst.{ForFirst}
use Rattle.cprogram.specs.declared.statement.ForFirst.TheVariants as first
use Rattle.cprogram.specs.declared.statement.Initialiser.{Initialiser}
use Rattle.cprogram.specs.declared.statement.Initialiser.TheVariants as initialiser
use Rattle.cprogram.specs.declared.statement.Items as items
use Rattle.cprogram.specs.declared.statement.LeafValues as leaves
use Rattle.cprogram.specs.declared.statement.StmtKind as stmt
use Rattle.cprogram.specs.declared.statement.SwitchItems as switch
use Rattle.lowerstate.specs.Held.{Meant, OfInteger, ToPlain, ToVolatile, meant_width, Part, Laid}
use Rattle.lowerstate.specs.Conversion.{integer, IsConversion}

-- ---- types

-- what a place is
pub data Placed : Type 0 where
  -- leaves of a plain object
  Leaves : Laid → Placed
  OutsideCore : Placed
  OfCore : Placed

-- the type of a function, by its parameters and its result
pub record Signature : Type 0 where
  pub parameters : List Meant
  pub result : Option Meant

-- what is declared where an expression stands
pub record Declared : Type 0 where
  pub layouts : List Laid  -- of what plain pointers point to
  pub locals : List Laid
  pub objects : List Laid  -- those that aren't volatile
  pub functions : List Signature
  pub result : Option Meant  -- of the function

-- a value's type as the checked program has it
abbrev pub scalar_of : Meant → Scalar
scalar_of (OfInteger t) = scalar.Integer t
scalar_of (ToPlain layout) = scalar.Pointer pointer.Plain
scalar_of ToVolatile = scalar.Pointer pointer.Volatile

abbrev pub IsScalar : Option Scalar → Option Meant → Type 0
IsScalar None t = t ≡ None
IsScalar (Some s) t = (u : Meant) × (t ≡ Some u) × (scalar_of u ≡ s)

abbrev pub number : Sign → Meant
number sign = integer B4 sign

-- the leaves and bytes of the first are among those of the second, from an offset on
pub record IsPart (part whole : Laid) (from : Offset) : Type 0 where
  pub leaves : (i : ℕ) (p : Part) → slice_get part.parts i ≡ Some p
      → slice_get whole.parts (from.leaves + i) ≡ Some (record p { offset = from.bytes + p.offset })
  pub bytes : from.bytes + part.bytes ≤ whole.bytes

-- an array of so many of the one is the other
pub record IsArrayOf (element whole : Laid) (count : ℕ) : Type 0 where
  pub each : (i : ℕ) (p : Part) → slice_get whole.parts i ≡ Some p → (n : ℕ) × (j : ℕ) × (q : Part) × (n + 1 ≤ count)
      × (slice_get element.parts j ≡ Some q) × (i ≡ n * length element.parts + j) × (p ≡ record q { offset = n * element.bytes + q.offset })
  pub leaves : length whole.parts ≡ count * length element.parts
  pub bytes : count * element.bytes ≤ whole.bytes

-- a place that is one value of a type, and the kind of its access
abbrev pub IsRead : AccessKind → Placed → Meant → Type 0
IsRead access.Plain p t = (whole : Laid) × (p ≡ Leaves whole) × (slice_get whole.parts 0 ≡ Some (record { meant = t; offset = 0 }))
IsRead access.Own p t = (p ≡ OutsideCore) × (scalar_of t ≡ scalar.Pointer pointer.Plain → ⊥)
IsRead access.Volatile p t = (p ≡ OutsideCore) × (scalar_of t ≡ scalar.Pointer pointer.Plain → ⊥)
IsRead access.Register p t = (p ≡ OfCore) × (t ≡ number Unsigned)

abbrev pub IsAccess : Access → Placed → Meant → Type 0
IsAccess a p t = (scalar_of t ≡ a.scalar) × IsRead a.kind p t

-- a conversion of a value of one type, where it stands
abbrev pub IsConverted : Conversion → Option Meant → Meant → Type 0
IsConverted c t u = (s : Meant) × (t ≡ Some s) × IsConversion c s u

module _ (d : Declared) where
  -- a layout by its number, with its element as the checked program has it
  abbrev pub IsElement : ℕ → Element → Laid → Type 0
  IsElement layout e laid = (slice_get d.layouts layout ≡ Some laid) × (length laid.parts ≡ e.leaves) × (laid.bytes ≡ e.bytes)

  -- what a pointer of this type points to
  abbrev pub IsTarget : Option Meant → Placed → Type 0
  IsTarget t p = ((layout : ℕ) × (laid : Laid) × (t ≡ Some (ToPlain layout)) × (slice_get d.layouts layout ≡ Some laid) × (p ≡ Leaves laid))
      ⊎ ((t ≡ Some ToVolatile) × (p ≡ OutsideCore))

  -- a pointer whose steps are the elements of its target
  abbrev pub IsStepped : Pointer → Option Meant → Type 0
  IsStepped e t = ((layout : ℕ) × (laid : Laid) × (t ≡ Some (ToPlain layout)) × (e.kind ≡ pointer.Plain) × IsElement layout e.element laid)
      ⊎ ((t ≡ Some ToVolatile) × (e.kind ≡ pointer.Volatile))

  abbrev pub IsMember : Offset → Placed → Placed → Type 0
  IsMember o OutsideCore p = p ≡ OutsideCore
  IsMember o OfCore p = ⊥
  IsMember o (Leaves whole) p = (part : Laid) × (p ≡ Leaves part) × IsPart part whole o

  -- the pointer to the first element of an array, or to a whole place
  abbrev pub IsFirst : PointerKind → ℕ → Placed → Option Meant → Type 0
  IsFirst k count OutsideCore t = (k ≡ pointer.Volatile) × (t ≡ Some ToVolatile)
  IsFirst k count OfCore t = ⊥
  IsFirst k count (Leaves whole) t = (k ≡ pointer.Plain) × (layout : ℕ) × (element : Laid) × (t ≡ Some (ToPlain layout))
      × (slice_get d.layouts layout ≡ Some element) × IsArrayOf element whole count

  -- the arms of ?: and the sides of a comma
  abbrev pub IsArm : Conversion → Option Meant → Option Meant → Type 0
  IsArm c t None = t ≡ None
  IsArm c t (Some u) = IsConverted c t u

  abbrev pub IsCalled : CallResult → Option Meant → Option Meant → Type 0
  IsCalled Void result t = (result ≡ None) × (t ≡ None)
  IsCalled (Unused s) result t = (t ≡ result) × IsScalar (Some s) t
  IsCalled (Used s) result t = (t ≡ result) × IsScalar (Some s) t

  -- ---- expressions

  abbrev mutual
    pub IsPlace : place.PlaceKind → Placed → Type 0
    IsPlace (place.Local l) p = (laid : Laid) × (slice_get d.locals l.0 ≡ Some laid) × (p ≡ Leaves laid)
    IsPlace (place.Global o) p = (laid : Laid) × (slice_get d.objects o.0 ≡ Some laid) × (p ≡ Leaves laid)
    IsPlace (place.Volatile address) p = p ≡ OutsideCore
    IsPlace (place.Register r) p = p ≡ OfCore
    IsPlace (place.Dereference' _ _ v) p = (t : Option Meant) × IsValueOf v t × IsTarget t p
    IsPlace (place.Subscript' e _ _ v sign _ c _ i) p = (t : Option Meant) × (u : Option Meant) × IsValueOf v t × IsValueOf i u
        × IsStepped e t × IsTarget t p × IsConverted c u (number sign)
    IsPlace (place.Member' _ _ a o) p = (q : Placed) × IsPlace a q × IsMember o q p
    IsPlace (place.Arrow' _ _ v o) p = (t : Option Meant) × (q : Placed) × IsValueOf v t × IsTarget t q × IsMember o q p

    -- None is the type void.
    pub IsValueOf : value.ValueKind → Option Meant → Type 0
    IsValueOf (value.Number n sign) t = (n < 2 ^ 32) × (t ≡ Some (number sign))
    IsValueOf (value.Read' a _ p) t = (q : Placed) × (u : Meant) × IsPlace p q × IsAccess a q u × (t ≡ Some u)
    IsValueOf (value.ArrayPointer' e count _ p) t = (q : Placed) × IsPlace p q × IsFirst e.kind count q t × IsStepped e t
    IsValueOf (value.Address' k _ _ p) t = (q : Placed) × IsPlace p q × IsFirst k 1 q t
    IsValueOf (value.Cast' s _ c _ v) t = (u : Option Meant) × (w : Meant) × IsValueOf v u × IsConverted c u w × (scalar_of w ≡ s)
        × (t ≡ Some w)
    IsValueOf (value.Unary' _ sign _ c _ v) t = (u : Option Meant) × IsValueOf v u × IsConverted c u (number sign) × (t ≡ Some (number sign))
    IsValueOf (value.Not' _ _ v) t = (u : Meant) × IsValueOf v (Some u) × (t ≡ Some (number Signed))
    IsValueOf (value.Binary' _ sign _ c _ v _ e _ w) t = (u : Option Meant) × (x : Option Meant) × (z : Sign) × IsValueOf v u × IsValueOf w x
        × IsConverted c u (number sign) × IsConverted e x (number z) × (t ≡ Some (number sign))
    IsValueOf (value.Comparison' _ sign _ c _ v _ e _ w) t = (u : Option Meant) × (x : Option Meant) × IsValueOf v u × IsValueOf w x
        × IsConverted c u (number sign) × IsConverted e x (number sign) × (t ≡ Some (number Signed))
    IsValueOf (value.PointerComparison' _ _ c _ v _ e _ w) t = (u : Option Meant) × (x : Option Meant) × (y : Meant) × (z : Meant)
        × IsValueOf v u × IsValueOf w x × IsConverted c u y × IsConverted e x z × (k : PointerKind) × (scalar_of y ≡ scalar.Pointer k)
        × (scalar_of z ≡ scalar.Pointer k) × (t ≡ Some (number Signed))
    IsValueOf (value.Logical' _ _ _ v _ _ w) t = (u : Meant) × (x : Meant) × IsValueOf v (Some u) × IsValueOf w (Some x)
        × (t ≡ Some (number Signed))
    IsValueOf (value.Conditional' s _ _ q _ c _ v _ e _ w) t = (y : Meant) × (u : Option Meant) × (x : Option Meant) × IsValueOf q (Some y)
        × IsValueOf v u × IsValueOf w x × IsArm c u t × IsArm e x t × IsScalar s t
    IsValueOf (value.Comma' s _ _ v _ _ w) t = (u : Option Meant) × IsValueOf v u × IsValueOf w t × IsScalar s t
    IsValueOf (value.PointerOffset' _ e _ _ v sign _ c _ i) t = (u : Option Meant) × IsValueOf v t × IsValueOf i u × IsStepped e t
        × IsConverted c u (number sign)
    IsValueOf (value.IndexPlusPointer' e sign _ c _ i _ _ v) t = (u : Option Meant) × IsValueOf i u × IsValueOf v t × IsStepped e t
        × IsConverted c u (number sign)
    IsValueOf (value.PointerDifference' e _ _ v _ _ w) t = (u : Option Meant) × (x : Option Meant) × IsValueOf v u × IsValueOf w x
        × IsStepped e u × IsStepped e x × (t ≡ Some (number Signed))
    IsValueOf (value.Assign' a _ _ p _ c _ v) t = (q : Placed) × (u : Option Meant) × (w : Meant) × IsPlace p q × IsValueOf v u
        × IsConverted c u w × IsAccess a q w × (t ≡ Some w)
    IsValueOf (value.AssignWith' _ _ a _ _ p _ c _ v) t = (q : Placed) × (u : Option Meant) × (w : Meant) × (z : Sign) × IsPlace p q
        × IsValueOf v u × IsConverted c u (number z) × IsAccess a q w × (t ≡ Some w)
    IsValueOf (value.OffsetAssign' _ e a _ _ p sign _ c _ i) t = (q : Placed) × (u : Option Meant) × (w : Meant) × IsPlace p q
        × IsValueOf i u × IsConverted c u (number sign) × IsAccess a q w × IsStepped e t × (t ≡ Some w)
    IsValueOf (value.Step' _ _ a _ _ p) t = (q : Placed) × (w : Meant) × IsPlace p q × IsAccess a q w × (t ≡ Some w)
    IsValueOf (value.PointerStep' _ _ e a _ _ p) t = (q : Placed) × (w : Meant) × IsPlace p q × IsAccess a q w × IsStepped e t
        × (t ≡ Some w)
    IsValueOf (value.Call f r arguments) t = (g : Signature) × (slice_get d.functions f.0 ≡ Some g) × AreValuesOf arguments g.parameters
        × IsCalled r g.result t
    IsValueOf (value.LeftmostBit' _ c _ v _ e _ w) t = (u : Option Meant) × (x : Option Meant) × IsValueOf v u × IsValueOf w x
        × IsConverted c u (number Unsigned) × IsConverted e x (number Unsigned) × (t ≡ Some (number Unsigned))
    IsValueOf (value.Delay n) t = t ≡ None
    IsValueOf value.Halt t = t ≡ None
    IsValueOf (value.ScratchpadIn' r _ _ p) t = (q : Placed) × (w : Meant) × IsPlace p q × IsRead access.Plain q w
        × (z : Sign) × (w ≡ number z) × (t ≡ None)
    IsValueOf (value.ScratchpadOut' r _ _ v) t = (u : Meant) × (z : Sign) × IsValueOf v (Some u) × (u ≡ number z) × (t ≡ None)

    pub AreValuesOf : operands.Operands → List Meant → Type 0
    AreValuesOf operands.End [] = ⊤
    AreValuesOf operands.End (t ∷ ts) = ⊥
    AreValuesOf (operands.More' _ c _ v _ rest) [] = ⊥
    AreValuesOf (operands.More' _ c _ v _ rest) (t ∷ ts) = (u : Option Meant) × IsValueOf v u × IsConverted c u t × AreValuesOf rest ts

  -- ---- statements

  -- a value, or none where it is of type void
  abbrev pub IsEffect : Option (Box Value) → Type 0
  IsEffect None = ⊤
  IsEffect (Some v) = (t : Option Meant) × IsValueOf v.value.kind t

  abbrev pub IsCondition : Value → Type 0
  IsCondition v = (t : Meant) × IsValueOf v.kind (Some t)

  abbrev pub IsOptionalCondition : Option (Box Value) → Type 0
  IsOptionalCondition None = ⊤
  IsOptionalCondition (Some v) = IsCondition v.value

  abbrev pub IsOperandOf : Operand → Meant → Type 0
  IsOperandOf o t = (u : Option Meant) × IsValueOf o.value.kind u × IsConverted o.conversion u t

  abbrev pub AreLeafValues : List Part → leaves.LeafValues → Type 0
  AreLeafValues parts leaves.End = ⊤
  AreLeafValues [] (leaves.Value' o _ rest) = ⊥
  AreLeafValues (part ∷ parts) (leaves.Value' o _ rest) = IsOperandOf o.value part.meant × AreLeafValues parts rest
  AreLeafValues parts (leaves.Zeros' n _ rest) = (n ≤ length parts) × AreLeafValues (drop n parts) rest

  abbrev pub IsInitialiser : Laid → Option Initialiser → Type 0
  IsInitialiser laid None = ⊤
  IsInitialiser laid (Some (initialiser.Scalar o)) =
      (t : Meant) × (slice_get laid.parts 0 ≡ Some (record { meant = t; offset = 0 })) × IsOperandOf o.value t
  IsInitialiser laid (Some (initialiser.Leaves values)) = AreLeafValues laid.parts values

  abbrev pub IsDeclaration : Declaration → Type 0
  IsDeclaration l = (laid : Laid) × (slice_get d.locals l.local.0 ≡ Some laid) × IsInitialiser laid l.initialiser

  abbrev pub AreDeclarations : declarations.Declarations → Type 0
  AreDeclarations declarations.End = ⊤
  AreDeclarations (declarations.More' l _ rest) = IsDeclaration l.value × AreDeclarations rest

  abbrev pub IsFirstOf : ForFirst → Type 0
  IsFirstOf (first.Declarations ds) = AreDeclarations ds
  IsFirstOf (first.Expression v) = IsEffect v

  abbrev pub IsReturned : Option (Box Operand) → Option Meant → Type 0
  IsReturned None t = ⊤
  IsReturned (Some o) None = ⊥
  IsReturned (Some o) (Some t) = IsOperandOf o.value t

  abbrev mutual
    pub IsStatement : stmt.StmtKind → Type 0
    IsStatement (stmt.Block list) = AreItems list
    IsStatement (stmt.Expression v) = IsEffect v
    IsStatement (stmt.If' c _ _ a) = IsCondition c.value × IsStatement a
    IsStatement (stmt.IfElse' c _ _ a _ _ b) = IsCondition c.value × IsStatement a × IsStatement b
    IsStatement (stmt.While' c _ _ a) = IsCondition c.value × IsStatement a
    IsStatement (stmt.Do' _ _ a c) = IsStatement a × IsCondition c.value
    IsStatement (stmt.For' f c third _ _ a _) = IsFirstOf f × IsOptionalCondition c × IsEffect third × IsStatement a
    IsStatement (stmt.Switch o list) = ((z : Sign) × IsOperandOf o.value (number z)) × AreSwitchItems list
    IsStatement stmt.Break = ⊤
    IsStatement stmt.Continue = ⊤
    IsStatement (stmt.Return o) = IsReturned o d.result
    IsStatement (stmt.Region r list) = AreItems list

    pub AreItems : items.Items → Type 0
    AreItems items.End = ⊤
    AreItems (items.Declaration' l _ rest) = IsDeclaration l.value × AreItems rest
    AreItems (items.Statement' _ _ a _ rest) = IsStatement a × AreItems rest

    pub AreSwitchItems : switch.SwitchItems → Type 0
    AreSwitchItems switch.End = ⊤
    AreSwitchItems (switch.Case' _ n _ rest) = (n < 2 ^ 32) × AreSwitchItems rest
    AreSwitchItems (switch.Default' _ _ rest) = AreSwitchItems rest
    AreSwitchItems (switch.Statement' _ _ a _ rest) = IsStatement a × AreSwitchItems rest
