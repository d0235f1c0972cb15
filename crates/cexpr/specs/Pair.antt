-- Two operands of one type: two integers, two pointers of which one converts to the other's type, or two of no value.
use Rattle.std.specs.Prelude.{None, Option, Some}
use Rattle.cfault.specs.Asked.{asked_of}
use Rattle.cfault.specs.declared.asked.Asked.TheVariants.{No, Yes}
use Rattle.cfault.specs.declared.asked.Asked.{Asked}
use Rattle.cprogram.specs.declared.scalar.Conversion.TheVariants.{Same}
use Rattle.cprogram.specs.declared.scalar.Conversion.{Conversion}
use Rattle.cprogram.specs.declared.scalar.Integer.{Integer}
use Rattle.cprogram.specs.declared.scalar.Scalar.TheVariants as scalars
use Rattle.cprogram.specs.declared.scalar.Scalar.{Scalar}
use Rattle.cexpr.specs.Ask.{value_scalar}
use Rattle.cexpr.specs.Assign.{implied_from}
use Rattle.cexpr.specs.declared.item.IntegerItem.{IntegerItem}
use Rattle.cexpr.specs.declared.item.OperandItem.{OperandItem}
use Rattle.cexpr.specs.declared.item.ValueItem.{ValueItem}
use Rattle.cexpr.specs.declared.pair.Pair.TheVariants.{Integers, Pointers, Voids}
use Rattle.cexpr.specs.declared.pair.Pair.{Pair}

abbrev pub integer_part : {V : Type 0} → ValueItem V → Integer → IntegerItem V
integer_part v i = record { integer = i; number = v.number; value = v.value }

abbrev pub operand_part : {V : Type 0} → ValueItem V → Conversion → OperandItem V
operand_part v c = record { conversion = c; value = v.value }

-- by what converts the left one to the right one's type, and the other way round
abbrev pub unified : {V : Type 0} → ValueItem V → ValueItem V → Option Conversion → Option Conversion → Asked (Pair V)
unified a b (Some c) _ = Yes (Pointers b.ctype (operand_part a c) (operand_part b Same))
unified a b None (Some c) = Yes (Pointers a.ctype (operand_part a Same) (operand_part b c))
unified _ _ None None = No

unfoldable pub unify : {V : Type 0} → ValueItem V → ValueItem V → Asked (Pair V)
unify a b = unified a b (implied_from a b.ctype) (implied_from b a.ctype)

abbrev pub pair_by : {V : Type 0} → ValueItem V → ValueItem V → Option Scalar → Option Scalar → Asked (Pair V)
pair_by a b (Some (scalars.Integer i)) (Some (scalars.Integer j)) = Yes (Integers (integer_part a i) (integer_part b j))
pair_by a b (Some _) (Some _) = unify a b
pair_by a b None None = Yes (Voids a b)
pair_by _ _ _ _ = No

unfoldable pub paired : {V : Type 0} → Option (ValueItem V) → Option (ValueItem V) → Asked (Pair V)
paired a b = asked_of a (λ a. asked_of b (λ b. pair_by a b (value_scalar a) (value_scalar b)))
