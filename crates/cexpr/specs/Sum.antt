-- `+` and `-`: of two integers, of a pointer and an integer, of two pointers.
use Rattle.std.specs.Prelude.{List, None, Option, Some, if◌then◌else◌}
use Rattle.csyn.specs.declared.cause.Cause.TheVariants.{S4}
use Rattle.csyn.specs.declared.mark.Mark.{Mark}
use Rattle.csyn.specs.declared.operator.BinaryOperator.TheVariants.{Add, Subtract}
use Rattle.csyn.specs.declared.operator.BinaryOperator.{BinaryOperator}
use Rattle.csyn.specs.declared.specifiers.Sign.TheVariants.{Signed}
use Rattle.cfault.specs.Asked.{asked_of, judged}
use Rattle.cfault.specs.Ruled.{Ruled, built}
use Rattle.cfault.specs.declared.asked.Asked.TheVariants.{No, Yes}
use Rattle.cfault.specs.declared.asked.Asked.{Asked}
use Rattle.cprogram.specs.declared.pointer.Direction.TheVariants.{Down, Up}
use Rattle.cprogram.specs.declared.pointer.Direction.{Direction}
use Rattle.cprogram.specs.declared.pointer.Element.{Element}
use Rattle.cprogram.specs.declared.scalar.Scalar.TheVariants as scalars
use Rattle.cprogram.specs.declared.scalar.Scalar.{Scalar}
use Rattle.ctypes.specs.Convert.{promoted, targets_fit}
use Rattle.ctypes.specs.Shape.{pointed}
use Rattle.ctypes.specs.declared.convert.ConstRule.TheVariants.{Aside}
use Rattle.csize.specs.declared.structure.Structure.{Structure}
use Rattle.cexpr.specs.Ask.{asked_then, at_node, stride, value_scalar}
use Rattle.cexpr.specs.Assign.{written}
use Rattle.cexpr.specs.Binary.{combined}
use Rattle.cexpr.specs.Number.{arithmetic_part, widened}
use Rattle.cexpr.specs.Pair.{integer_part}
use Rattle.cexpr.specs.Place.{pointer_of}
use Rattle.cexpr.specs.declared.item.IntegerItem.{IntegerItem}
use Rattle.cexpr.specs.declared.item.PointerItem.{PointerItem}
use Rattle.cexpr.specs.declared.item.ValueItem.{ValueItem}
use Rattle.cexpr.specs.declared.node.Operation.TheVariants as operation
use Rattle.cexpr.specs.declared.node.Operation.{Operation}
use Rattle.cexpr.specs.declared.sum.Sum.TheVariants.{Difference, Indexed, Integers, Offset}
use Rattle.cexpr.specs.declared.sum.Sum.{Sum}

abbrev pub operator_of : Direction → BinaryOperator
operator_of Up = Add
operator_of Down = Subtract

-- a pointer, and what moves it
abbrev pub offset_of : {V : Type 0} → List Structure → ValueItem V → IntegerItem V → Asked (Sum V)
offset_of structures p i = asked_then (λ q. Yes (Offset q.0 q.1 i)) (stride structures (Some p))

-- an integer before the pointer that it moves; nothing is taken from it
abbrev pub indexed_of : {V : Type 0} → List Structure → Direction → IntegerItem V → ValueItem V → Asked (Sum V)
indexed_of structures Up i p = asked_then (λ q. Yes (Indexed i q.0 q.1)) (stride structures (Some p))
indexed_of _ Down _ _ = No

-- two pointers to one type
unfoldable pub difference_of : {V : Type 0} → List Structure → Direction → ValueItem V → ValueItem V → Asked (Sum V)
difference_of _ Up _ _ = No
difference_of structures Down p q =
    if targets_fit Aside p.ctype.base p.ctype.steps q.ctype.base q.ctype.steps
    then asked_then (λ r. Yes (Difference r.0 r.1 q)) (stride structures (Some p)) else No

abbrev pub sum_by : {V : Type 0} → List Structure → Direction → ValueItem V → ValueItem V → Option Scalar → Option Scalar → Asked (Sum V)
sum_by _ _ a b (Some (scalars.Integer i)) (Some (scalars.Integer j)) = Yes (Integers (integer_part a i) (integer_part b j))
sum_by structures _ a b (Some (scalars.Pointer _)) (Some (scalars.Integer j)) = offset_of structures a (integer_part b j)
sum_by structures d a b (Some (scalars.Integer i)) (Some (scalars.Pointer _)) = indexed_of structures d (integer_part a i) b
sum_by structures d a b (Some (scalars.Pointer _)) (Some (scalars.Pointer _)) = difference_of structures d a b
sum_by _ _ _ _ _ _ = No

unfoldable pub summed : {V : Type 0} → List Structure → Direction → Option (ValueItem V) → Option (ValueItem V) → Asked (Sum V)
summed structures d a b = asked_of a (λ a. asked_of b (λ b. sum_by structures d a b (value_scalar a) (value_scalar b)))

unfoldable pub offset_made : {V : Type 0} → Mark → Direction → PointerItem V → Element → IntegerItem V → ValueItem (Operation V)
offset_made m d p e i =
    written (pointed p.target) m (operation.PointerOffset d (pointer_of p e) p.value (promoted i.integer) (widened i))

unfoldable pub indexed_made : {V : Type 0} → Mark → IntegerItem V → PointerItem V → Element → ValueItem (Operation V)
indexed_made m i p e =
    written (pointed p.target) m (operation.IndexPlusPointer (pointer_of p e) (promoted i.integer) (widened i) p.value)

unfoldable pub difference_made : {V : Type 0} → Mark → PointerItem V → Element → ValueItem V → ValueItem (Operation V)
difference_made m p e q = arithmetic_part Signed None m (operation.PointerDifference (pointer_of p e) p.value q.value)

abbrev pub sum_made : {V : Type 0} → Mark → Direction → Sum V → ValueItem (Operation V)
sum_made m d (Integers a b) = combined m (operator_of d) a b
sum_made m d (Offset p e i) = offset_made m d p e i
sum_made m _ (Indexed i p e) = indexed_made m i p e
sum_made m _ (Difference p e q) = difference_made m p e q

unfoldable pub sum : {V : Type 0} → List Structure → Mark → Direction → Option (ValueItem V) → Option (ValueItem V) →
    Ruled (ValueItem (Operation V))
sum structures m d a b = built (sum_made m d) (judged (at_node m S4) (summed structures d a b))
