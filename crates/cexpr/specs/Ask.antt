-- What rules ask of the parts of an expression. What the parts are in the checked program is left open: `V` is what values are there,
-- `P` what places are.
use Rattle.std.specs.Prelude.{Bool, List, None, Option, Some, false}
use Rattle.csyn.specs.declared.cause.Cause.{Cause}
use Rattle.csyn.specs.declared.mark.Mark.{Mark}
use Rattle.cfault.specs.Asked.{asked_of}
use Rattle.cfault.specs.declared.asked.Asked.TheVariants.{No, Unsaid, Yes}
use Rattle.cfault.specs.declared.asked.Asked.{Asked}
use Rattle.cfault.specs.declared.fault.Fault.{Fault}
use Rattle.cprogram.specs.declared.pointer.Element.{Element}
use Rattle.cprogram.specs.declared.pointer.PointerKind.{PointerKind}
use Rattle.cprogram.specs.declared.scalar.Scalar.TheVariants as scalars
use Rattle.cprogram.specs.declared.scalar.Scalar.{Scalar}
use Rattle.ctypes.specs.Shape.{Shape, qualifiers, scalar_of, target_of}
use Rattle.csize.specs.Size.{element_of}
use Rattle.csize.specs.declared.structure.Structure.{Structure}
use Rattle.cexpr.specs.declared.item.IntegerItem.{IntegerItem}
use Rattle.cexpr.specs.declared.item.Item.TheVariants as item
use Rattle.cexpr.specs.declared.item.Item.{Item}
use Rattle.cexpr.specs.declared.item.PlaceItem.{PlaceItem}
use Rattle.cexpr.specs.declared.item.PointerItem.{PointerItem}
use Rattle.cexpr.specs.declared.item.TargetItem.{TargetItem}
use Rattle.cexpr.specs.declared.item.ValueItem.{ValueItem}

-- where it is something that may be asked on
abbrev pub asked_then : {T U : Type 0} → (T → Asked U) → Asked T → Asked U
asked_then _ Unsaid = Unsaid
asked_then _ No = No
asked_then ask (Yes a) = ask a

-- a rule broken at a node
abbrev pub at_node : Mark → Cause → Fault
at_node m cause = record { span = m.span; cause = cause }

abbrev pub value_scalar : {V : Type 0} → ValueItem V → Option Scalar
value_scalar v = scalar_of v.ctype.base v.ctype.steps

abbrev pub as_integer : {V : Type 0} → ValueItem V → Option Scalar → Asked (IntegerItem V)
as_integer v (Some (scalars.Integer i)) = Yes (record { integer = i; number = v.number; value = v.value })
as_integer _ _ = No

abbrev pub to_target : {V : Type 0} → PointerKind → ValueItem V → Option Shape → Asked (PointerItem V)
to_target k v (Some t) = Yes (record { kind = k; target = t; own = v.own; value = v.value })
to_target _ _ None = No

abbrev pub as_pointer : {V : Type 0} → ValueItem V → Option Scalar → Asked (PointerItem V)
as_pointer v (Some (scalars.Pointer k)) = to_target k v (target_of v.ctype)
as_pointer _ _ = No

abbrev pub as_scalar : {V : Type 0} → ValueItem V → Option Scalar → Asked (ValueItem V)
as_scalar v (Some _) = Yes v
as_scalar _ None = No

-- a value of an integer type
unfoldable pub integer : {V : Type 0} → Option (ValueItem V) → Asked (IntegerItem V)
integer a = asked_of a (λ v. as_integer v (value_scalar v))

unfoldable pub pointer : {V : Type 0} → Option (ValueItem V) → Asked (PointerItem V)
pointer a = asked_of a (λ v. as_pointer v (value_scalar v))

-- one of an integer type or a pointer
unfoldable pub scalar : {V : Type 0} → Option (ValueItem V) → Asked (ValueItem V)
scalar a = asked_of a (λ v. as_scalar v (value_scalar v))

-- a pointer to what has a size
abbrev pub with_element : {V : Type 0} → PointerItem V → Option Element → Asked (PointerItem V × Element)
with_element p (Some e) = Yes (p, e)
with_element _ None = No

unfoldable pub stride : {V : Type 0} → List Structure → Option (ValueItem V) → Asked (PointerItem V × Element)
stride structures a = asked_then (λ p. with_element p (element_of structures p.target)) (pointer a)

-- a place that may be written
abbrev pub as_target : {P : Type 0} → PlaceItem P → Bool → Option Scalar → Asked (TargetItem P)
as_target p false (Some s) = Yes (record { scalar = s; ctype = p.ctype; reach = p.reach; place = p.place })
as_target _ _ _ = No

abbrev pub item_target : {V P : Type 0} → Item V P → Asked (TargetItem P)
item_target (item.Value _) = No
item_target (item.Place p) = as_target p (qualifiers p.ctype.base p.ctype.steps).is_const (scalar_of p.ctype.base p.ctype.steps)

unfoldable pub target : {V P : Type 0} → Option (Item V P) → Asked (TargetItem P)
target a = asked_of a item_target
