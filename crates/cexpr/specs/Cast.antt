-- Casts, and `sizeof`.
use Rattle.std.specs.Prelude.{List, None, Option, Some, ℕ}
use Rattle.csyn.specs.declared.cause.Cause.TheVariants.{S17, S4}
use Rattle.csyn.specs.declared.mark.Mark.{Mark}
use Rattle.csyn.specs.declared.specifiers.Sign.TheVariants.{Unsigned}
use Rattle.cfault.specs.Asked.{asked_of, found, judged}
use Rattle.cfault.specs.Ruled.{Ruled, built, unsaid}
use Rattle.cfault.specs.declared.asked.Asked.TheVariants.{No, Yes}
use Rattle.cfault.specs.declared.asked.Asked.{Asked}
use Rattle.cprogram.specs.Arithmetic.{number_converted}
use Rattle.cprogram.specs.declared.pointer.Element.{Element}
use Rattle.cprogram.specs.declared.scalar.Conversion.{Conversion}
use Rattle.cprogram.specs.declared.scalar.Scalar.TheVariants as scalars
use Rattle.cprogram.specs.declared.scalar.Scalar.{Scalar}
use Rattle.ctypes.specs.Convert.{cast}
use Rattle.ctypes.specs.Shape.{Shape, scalar_of}
use Rattle.ctypes.specs.declared.base.BaseKind.TheVariants.{Void}
use Rattle.ctypes.specs.declared.base.BaseKind.{BaseKind}
use Rattle.csize.specs.Size.{element_of}
use Rattle.csize.specs.declared.structure.Structure.{Structure}
use Rattle.cexpr.specs.Ask.{at_node, value_scalar}
use Rattle.cexpr.specs.Assign.{is_zero}
use Rattle.cexpr.specs.Number.{folded_one}
use Rattle.cexpr.specs.Unary.{constant}
use Rattle.cexpr.specs.declared.item.Item.TheVariants as item
use Rattle.cexpr.specs.declared.item.Item.{Item}
use Rattle.cexpr.specs.declared.item.ValueItem.{ValueItem}
use Rattle.cexpr.specs.declared.node.Constant.{Constant}
use Rattle.cexpr.specs.declared.node.Operation.TheVariants as operation
use Rattle.cexpr.specs.declared.node.Operation.{Operation}

-- ---- casts

-- the number that a constant becomes: casts to pointers give none
abbrev pub cast_number : Option Scalar → Scalar → Option ℕ → Option ℕ
cast_number (Some (scalars.Integer i)) (scalars.Integer j) n = folded_one (number_converted i j.width) n
cast_number _ _ _ = None

abbrev pub cast_made : {V : Type 0} → Mark → Shape → ValueItem V → Scalar → Conversion → ValueItem (Operation V)
cast_made m t v s c =
    record {
      ctype = t;
      number = cast_number (value_scalar v) s v.number;
      own = None;
      value = record { mark = m; kind = operation.Cast s (record { conversion = c; value = v.value }) };
    }

-- what a cast does to a value
unfoldable pub cast_from : {V : Type 0} → ValueItem V → Shape → Option Conversion
cast_from v t = cast (is_zero v.number) v.ctype t

abbrev pub cast_by : Option Scalar → Option Conversion → Asked (Scalar × Conversion)
cast_by (Some s) (Some c) = Yes (s, c)
cast_by _ _ = No

-- void, and pointers to it, are cast to nothing and nothing to them
abbrev pub cast_to : {V : Type 0} → Shape → ValueItem V → BaseKind → Asked (Scalar × Conversion)
cast_to _ _ Void = No
cast_to t v _ = cast_by (scalar_of t.base t.steps) (cast_from v t)

abbrev pub cast_of : {V : Type 0} → Mark → Shape → ValueItem V → Ruled (ValueItem (Operation V))
cast_of m t v = built (λ p. cast_made m t v p.0 p.1) (judged (at_node m S17) (cast_to t v t.base.kind))

unfoldable pub casted : {V : Type 0} → Mark → Option Shape → Option (ValueItem V) → Ruled (ValueItem (Operation V))
casted m (Some t) (Some v) = cast_of m t v
casted _ _ _ = unsaid

-- ---- sizeof evaluates nothing, and is a constant whatever its operand is

abbrev pub part_type : {V P : Type 0} → Item V P → Shape
part_type (item.Value v) = v.ctype
part_type (item.Place p) = p.ctype

-- pointers to void have no size either
abbrev pub size_by : List Structure → Shape → BaseKind → Asked Element
size_by _ _ Void = No
size_by structures t _ = found (element_of structures t)

abbrev pub size_of : List Structure → Shape → Asked Element
size_of structures t = size_by structures t t.base.kind

abbrev pub size_made : Mark → Element → ValueItem Constant
size_made m e = constant m e.bytes Unsigned

-- of a type name, and of an expression
unfoldable pub type_size : List Structure → Mark → Option Shape → Ruled (ValueItem Constant)
type_size structures m t = built (size_made m) (judged (at_node m S4) (asked_of t (size_of structures)))

unfoldable pub expression_size : {V P : Type 0} → List Structure → Mark → Option (Item V P) → Ruled (ValueItem Constant)
expression_size structures m a = built (size_made m) (judged (at_node m S4) (asked_of a (λ a. size_of structures (part_type a))))
