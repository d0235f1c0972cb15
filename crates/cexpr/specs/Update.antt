-- `+=` and its like, `++` and `--`.
use Rattle.std.specs.Prelude.{List, None, Option, Some}
use Rattle.csyn.specs.declared.cause.Cause.TheVariants.{S4, S5}
use Rattle.csyn.specs.declared.mark.Mark.{Mark}
use Rattle.csyn.specs.declared.operator.BinaryOperator.TheVariants.{Add, Subtract}
use Rattle.csyn.specs.declared.operator.BinaryOperator.{BinaryOperator}
use Rattle.cfault.specs.Asked.{asked_of, judged}
use Rattle.cfault.specs.Ruled.{Ruled, built, over}
use Rattle.cfault.specs.declared.asked.Asked.TheVariants.{No, Yes}
use Rattle.cfault.specs.declared.asked.Asked.{Asked}
use Rattle.cprogram.specs.declared.pointer.Direction.TheVariants.{Down, Up}
use Rattle.cprogram.specs.declared.pointer.Direction.{Direction}
use Rattle.cprogram.specs.declared.pointer.Element.{Element}
use Rattle.cprogram.specs.declared.pointer.Pointer.{Pointer}
use Rattle.cprogram.specs.declared.pointer.PointerKind.{PointerKind}
use Rattle.cprogram.specs.declared.scalar.Integer.{Integer}
use Rattle.cprogram.specs.declared.scalar.Scalar.TheVariants as scalars
use Rattle.cprogram.specs.declared.scalar.Scalar.{Scalar}
use Rattle.cprogram.specs.declared.value.StepValue.{StepValue}
use Rattle.ctypes.specs.Convert.{promoted}
use Rattle.csize.specs.Size.{inner_element}
use Rattle.csize.specs.declared.structure.Structure.{Structure}
use Rattle.cexpr.specs.Ask.{at_node, target, value_scalar}
use Rattle.cexpr.specs.Assign.{access_of, written}
use Rattle.cexpr.specs.Binary.{operator_sign}
use Rattle.cexpr.specs.Number.{widened}
use Rattle.cexpr.specs.Pair.{integer_part}
use Rattle.cexpr.specs.declared.item.IntegerItem.{IntegerItem}
use Rattle.cexpr.specs.declared.item.Item.{Item}
use Rattle.cexpr.specs.declared.item.TargetItem.{TargetItem}
use Rattle.cexpr.specs.declared.item.ValueItem.{ValueItem}
use Rattle.cexpr.specs.declared.node.Assignment.TheVariants as assignment
use Rattle.cexpr.specs.declared.node.Assignment.{Assignment}
use Rattle.cexpr.specs.declared.node.PlaceUse.TheVariants as place_use
use Rattle.cexpr.specs.declared.node.PlaceUse.{PlaceUse}
use Rattle.cexpr.specs.declared.update.Stepped.TheVariants as stepped
use Rattle.cexpr.specs.declared.update.Stepped.{Stepped}
use Rattle.cexpr.specs.declared.update.Update.TheVariants as update
use Rattle.cexpr.specs.declared.update.Update.{Update}

-- ---- `+=` and its like

-- which way the operator moves a pointer
abbrev pub direction_of : BinaryOperator → Option Direction
direction_of Add = Some Up
direction_of Subtract = Some Down
direction_of _ = None

abbrev pub moved_by : {V P : Type 0} → TargetItem P → PointerKind → IntegerItem V → Option Direction → Option Element → Asked (Update V P)
moved_by t k b (Some d) (Some e) = Yes (update.Pointer d (record { kind = k; element = e }) t b)
moved_by _ _ _ _ _ = No

abbrev pub update_by : {V P : Type 0} → List Structure → BinaryOperator → TargetItem P → ValueItem V → Scalar → Option Scalar →
    Asked (Update V P)
update_by _ _ t b (scalars.Integer i) (Some (scalars.Integer j)) = Yes (update.Number i t (integer_part b j))
update_by structures o t b (scalars.Pointer k) (Some (scalars.Integer j)) =
    moved_by t k (integer_part b j) (direction_of o) (inner_element structures t.ctype.base t.ctype.steps)
update_by _ _ _ _ _ _ = No

unfoldable pub updated : {V P : Type 0} → List Structure → BinaryOperator → Option (TargetItem P) → Option (ValueItem V) →
    Asked (Update V P)
updated structures o t b = asked_of t (λ t. asked_of b (λ b. update_by structures o t b t.scalar (value_scalar b)))

unfoldable pub number_updated : {V P : Type 0} → Mark → BinaryOperator → Integer → TargetItem P → IntegerItem V →
    ValueItem (Assignment V P)
number_updated m o i t b =
    written t.ctype m (assignment.AssignWith o (operator_sign o i b.integer) (access_of t) t.place (widened b))

unfoldable pub pointer_updated : {V P : Type 0} → Mark → Direction → Pointer → TargetItem P → IntegerItem V → ValueItem (Assignment V P)
pointer_updated m d p t b =
    written t.ctype m (assignment.OffsetAssign d p (access_of t) t.place (promoted b.integer) (widened b))

abbrev pub update_made : {V P : Type 0} → Mark → BinaryOperator → Update V P → ValueItem (Assignment V P)
update_made m o (update.Number i t b) = number_updated m o i t b
update_made m o (update.Pointer d p t b) = pointer_updated m d p t b

abbrev pub update_to : {V P : Type 0} → List Structure → Mark → BinaryOperator → Option (TargetItem P) → Option (ValueItem V) →
    Ruled (ValueItem (Assignment V P))
update_to structures m o t b = built (update_made m o) (judged (at_node m S4) (updated structures o t b))

abbrev pub update_over : {V P : Type 0} → List Structure → Mark → BinaryOperator → Ruled (TargetItem P) → Option (ValueItem V) →
    Ruled (ValueItem (Assignment V P))
update_over structures m o t b = over t.faults (update_to structures m o t.gives b)

unfoldable pub assign_with : {V P : Type 0} → List Structure → Mark → BinaryOperator → Option (Item V P) → Option (ValueItem V) →
    Ruled (ValueItem (Assignment V P))
assign_with structures m o a b = update_over structures m o (judged (at_node m S5) (target a)) b

-- ---- `++` and `--`, before and behind

abbrev pub with_size : {P : Type 0} → TargetItem P → PointerKind → Option Element → Asked (Stepped P)
with_size t k (Some e) = Yes (stepped.Pointer (record { kind = k; element = e }) t)
with_size _ _ None = No

abbrev pub step_by : {P : Type 0} → List Structure → TargetItem P → Scalar → Asked (Stepped P)
step_by _ t (scalars.Integer _) = Yes (stepped.Number t)
step_by structures t (scalars.Pointer k) = with_size t k (inner_element structures t.ctype.base t.ctype.steps)

unfoldable pub steps : {P : Type 0} → List Structure → Option (TargetItem P) → Asked (Stepped P)
steps structures t = asked_of t (λ t. step_by structures t t.scalar)

abbrev pub step_made : {P : Type 0} → Mark → StepValue → Direction → Stepped P → ValueItem (PlaceUse P)
step_made m x d (stepped.Number t) = written t.ctype m (place_use.Step x d (access_of t) t.place)
step_made m x d (stepped.Pointer p t) = written t.ctype m (place_use.PointerStep x d p (access_of t) t.place)

abbrev pub step_to : {P : Type 0} → List Structure → Mark → StepValue → Direction → Option (TargetItem P) → Ruled (ValueItem (PlaceUse P))
step_to structures m x d t = built (step_made m x d) (judged (at_node m S4) (steps structures t))

abbrev pub step_over : {P : Type 0} → List Structure → Mark → StepValue → Direction → Ruled (TargetItem P) → Ruled (ValueItem (PlaceUse P))
step_over structures m x d t = over t.faults (step_to structures m x d t.gives)

unfoldable pub step : {V P : Type 0} → List Structure → Mark → StepValue → Direction → Option (Item V P) → Ruled (ValueItem (PlaceUse P))
step structures m x d a = step_over structures m x d (judged (at_node m S5) (target a))
