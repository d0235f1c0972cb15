-- The type of a value, by its kind, and what a value is where nothing takes it.
use Rattle.std.specs.Prelude.{Option, Some, None}
use Rattle.csyn.specs.declared.specifiers.Sign.TheVariants.{Signed, Unsigned}
use Rattle.cprogram.specs.Scalar.{arithmetic}
use Rattle.cprogram.specs.declared.scalar.Scalar.{Scalar}
use Rattle.cprogram.specs.declared.scalar.Scalar.TheVariants.{Pointer}
use Rattle.cprogram.specs.declared.value.CallResult.{CallResult}
use Rattle.cprogram.specs.declared.value.CallResult.TheVariants.{Void, Unused, Used}
use Rattle.cprogram.specs.declared.value.Value.{Value}
use Rattle.cprogram.specs.declared.value.ValueKind as kind

abbrev pub result_scalar : CallResult → Option Scalar
result_scalar Void = None
result_scalar (Unused s) = Some s
result_scalar (Used s) = Some s

abbrev pub kind_scalar : kind.ValueKind → Option Scalar
kind_scalar (kind.Number _ sign) = Some (arithmetic sign)
kind_scalar (kind.Read' access _ _) = Some access.scalar
kind_scalar (kind.ArrayPointer' pointer _ _ _) = Some (Pointer pointer.kind)
kind_scalar (kind.Address' k _ _ _) = Some (Pointer k)
kind_scalar (kind.Cast' s _ _ _ _) = Some s
kind_scalar (kind.Unary' _ sign _ _ _ _) = Some (arithmetic sign)
kind_scalar (kind.Not' _ _ _) = Some (arithmetic Signed)
kind_scalar (kind.Binary' _ sign _ _ _ _ _ _ _ _) = Some (arithmetic sign)
kind_scalar (kind.Comparison' _ _ _ _ _ _ _ _ _ _) = Some (arithmetic Signed)
kind_scalar (kind.PointerComparison' _ _ _ _ _ _ _ _ _) = Some (arithmetic Signed)
kind_scalar (kind.Logical' _ _ _ _ _ _ _) = Some (arithmetic Signed)
kind_scalar (kind.Conditional' s _ _ _ _ _ _ _ _ _ _ _) = s
kind_scalar (kind.Comma' s _ _ _ _ _ _) = s
kind_scalar (kind.PointerOffset' _ pointer _ _ _ _ _ _ _ _) = Some (Pointer pointer.kind)
kind_scalar (kind.IndexPlusPointer' pointer _ _ _ _ _ _ _ _) = Some (Pointer pointer.kind)
kind_scalar (kind.PointerDifference' _ _ _ _ _ _ _) = Some (arithmetic Signed)
kind_scalar (kind.Assign' access _ _ _ _ _ _ _) = Some access.scalar
kind_scalar (kind.AssignWith' _ _ access _ _ _ _ _ _ _) = Some access.scalar
kind_scalar (kind.OffsetAssign' _ _ access _ _ _ _ _ _ _ _) = Some access.scalar
kind_scalar (kind.Step' _ _ access _ _ _) = Some access.scalar
kind_scalar (kind.PointerStep' _ _ _ access _ _ _) = Some access.scalar
kind_scalar (kind.Call _ r _) = result_scalar r
kind_scalar (kind.LeftmostBit' _ _ _ _ _ _ _ _) = Some (arithmetic Unsigned)
kind_scalar (kind.Delay _) = None
kind_scalar kind.Halt = None
kind_scalar (kind.ScratchpadIn' _ _ _ _) = None
kind_scalar (kind.ScratchpadOut' _ _ _ _) = None

abbrev pub value_scalar : Value → Option Scalar
value_scalar v = kind_scalar v.kind

-- a call's result where nothing takes it
abbrev pub unused_result : CallResult → CallResult
unused_result Void = Void
unused_result (Unused s) = Unused s
unused_result (Used s) = Unused s

-- a value where nothing takes it: only calls tell whether it is taken
abbrev pub unused_kind : kind.ValueKind → kind.ValueKind
unused_kind (kind.Call f r all) = kind.Call f (unused_result r) all
unused_kind k = k
