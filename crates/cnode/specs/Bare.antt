-- Values and places of the checked program without their pointers: the same with each pointer null, all the way down. Two are the same
-- where their bare forms are equal.
use Rattle.csyn.specs.Bare.{nowhere}
use Rattle.cprogram.specs.declared.value.Operands as operands
use Rattle.cprogram.specs.declared.value.Place.{Place}
use Rattle.cprogram.specs.declared.value.PlaceKind as place
use Rattle.cprogram.specs.declared.value.Value.{Value}
use Rattle.cprogram.specs.declared.value.ValueKind as value

abbrev mutual
  pub bare_place_kind : place.PlaceKind → place.PlaceKind
  bare_place_kind (place.Local n) = place.Local n
  bare_place_kind (place.Global n) = place.Global n
  bare_place_kind (place.Volatile a) = place.Volatile a
  bare_place_kind (place.Register r) = place.Register r
  bare_place_kind (place.Dereference' _ m v) = place.Dereference' nowhere m (bare_kind v)
  bare_place_kind (place.Subscript' p _ m v s _ c n w) = place.Subscript' p nowhere m (bare_kind v) s nowhere c n (bare_kind w)
  bare_place_kind (place.Member' _ m p o) = place.Member' nowhere m (bare_place_kind p) o
  bare_place_kind (place.Arrow' _ m v o) = place.Arrow' nowhere m (bare_kind v) o

  pub bare_kind : value.ValueKind → value.ValueKind
  bare_kind (value.Number n s) = value.Number n s
  bare_kind (value.Read' a _ p) = value.Read' a nowhere (bare_place_kind p)
  bare_kind (value.ArrayPointer' p n _ q) = value.ArrayPointer' p n nowhere (bare_place_kind q)
  bare_kind (value.Address' k _ m p) = value.Address' k nowhere m (bare_place_kind p)
  bare_kind (value.Cast' s _ c m v) = value.Cast' s nowhere c m (bare_kind v)
  bare_kind (value.Unary' o s _ c m v) = value.Unary' o s nowhere c m (bare_kind v)
  bare_kind (value.Not' _ m v) = value.Not' nowhere m (bare_kind v)
  bare_kind (value.Binary' o s _ c m v _ d n w) = value.Binary' o s nowhere c m (bare_kind v) nowhere d n (bare_kind w)
  bare_kind (value.Comparison' o s _ c m v _ d n w) = value.Comparison' o s nowhere c m (bare_kind v) nowhere d n (bare_kind w)
  bare_kind (value.PointerComparison' o _ c m v _ d n w) =
      value.PointerComparison' o nowhere c m (bare_kind v) nowhere d n (bare_kind w)
  bare_kind (value.Logical' o _ m v _ n w) = value.Logical' o nowhere m (bare_kind v) nowhere n (bare_kind w)
  bare_kind (value.Conditional' s _ k u _ c m v _ d n w) =
      value.Conditional' s nowhere k (bare_kind u) nowhere c m (bare_kind v) nowhere d n (bare_kind w)
  bare_kind (value.Comma' s _ m v _ n w) = value.Comma' s nowhere m (bare_kind v) nowhere n (bare_kind w)
  bare_kind (value.PointerOffset' i p _ m v s _ d n w) =
      value.PointerOffset' i p nowhere m (bare_kind v) s nowhere d n (bare_kind w)
  bare_kind (value.IndexPlusPointer' p s _ c m v _ n w) =
      value.IndexPlusPointer' p s nowhere c m (bare_kind v) nowhere n (bare_kind w)
  bare_kind (value.PointerDifference' p _ m v _ n w) = value.PointerDifference' p nowhere m (bare_kind v) nowhere n (bare_kind w)
  bare_kind (value.Assign' a _ m p _ d n w) = value.Assign' a nowhere m (bare_place_kind p) nowhere d n (bare_kind w)
  bare_kind (value.AssignWith' o s a _ m p _ d n w) =
      value.AssignWith' o s a nowhere m (bare_place_kind p) nowhere d n (bare_kind w)
  bare_kind (value.OffsetAssign' i q a _ m p s _ d n w) =
      value.OffsetAssign' i q a nowhere m (bare_place_kind p) s nowhere d n (bare_kind w)
  bare_kind (value.Step' x i a _ m p) = value.Step' x i a nowhere m (bare_place_kind p)
  bare_kind (value.PointerStep' x i q a _ m p) = value.PointerStep' x i q a nowhere m (bare_place_kind p)
  bare_kind (value.Call f r all) = value.Call f r (bare_operands all)
  bare_kind (value.LeftmostBit' _ c m v _ d n w) = value.LeftmostBit' nowhere c m (bare_kind v) nowhere d n (bare_kind w)
  bare_kind (value.Delay d) = value.Delay d
  bare_kind value.Halt = value.Halt
  bare_kind (value.ScratchpadIn' r _ m p) = value.ScratchpadIn' r nowhere m (bare_place_kind p)
  bare_kind (value.ScratchpadOut' r _ m v) = value.ScratchpadOut' r nowhere m (bare_kind v)

  pub bare_operands : operands.Operands → operands.Operands
  bare_operands operands.End = operands.End
  bare_operands (operands.More' _ c m v _ rest) = operands.More' nowhere c m (bare_kind v) nowhere (bare_operands rest)

abbrev pub bare_value : Value → Value
bare_value v = record { mark = v.mark; kind = bare_kind v.kind }

abbrev pub bare_place : Place → Place
bare_place p = record { mark = p.mark; kind = bare_place_kind p.kind }
