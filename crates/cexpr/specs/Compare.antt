-- Comparisons.
use Rattle.std.specs.Prelude.{None, Option, ℕ, if◌then◌else◌}
use Rattle.csyn.specs.declared.cause.Cause.TheVariants.{S4}
use Rattle.csyn.specs.declared.mark.Mark.{Mark}
use Rattle.csyn.specs.declared.operator.ComparisonOperator.{ComparisonOperator}
use Rattle.csyn.specs.declared.specifiers.Sign.TheVariants.{Signed}
use Rattle.cfault.specs.Asked.{judged}
use Rattle.cfault.specs.Ruled.{Ruled, built}
use Rattle.cfault.specs.declared.asked.Asked.TheVariants.{No, Yes}
use Rattle.cfault.specs.declared.asked.Asked.{Asked}
use Rattle.cprogram.specs.Arithmetic as arithmetic
use Rattle.cprogram.specs.declared.scalar.Integer.{Integer}
use Rattle.ctypes.specs.Convert.{common}
use Rattle.cexpr.specs.Ask.{asked_then, at_node}
use Rattle.cexpr.specs.Number.{arithmetic_part, as_word, folded, widened}
use Rattle.cexpr.specs.Pair.{paired}
use Rattle.cexpr.specs.declared.compare.Compared.TheVariants as compared
use Rattle.cexpr.specs.declared.compare.Compared.{Compared}
use Rattle.cexpr.specs.declared.item.IntegerItem.{IntegerItem}
use Rattle.cexpr.specs.declared.item.OperandItem.{OperandItem}
use Rattle.cexpr.specs.declared.item.ValueItem.{ValueItem}
use Rattle.cexpr.specs.declared.node.Operation.TheVariants as operation
use Rattle.cexpr.specs.declared.node.Operation.{Operation}
use Rattle.cexpr.specs.declared.pair.Pair.TheVariants as pair
use Rattle.cexpr.specs.declared.pair.Pair.{Pair}

abbrev pub comparison_number : ComparisonOperator → Integer → Integer → ℕ → ℕ → ℕ
comparison_number o i j a b = if arithmetic.compared o (common i j) (as_word i a) (as_word j b) then 1 else 0

unfoldable pub integers_compared : {V : Type 0} → Mark → ComparisonOperator → IntegerItem V → IntegerItem V → ValueItem (Operation V)
integers_compared m o a b =
    arithmetic_part Signed (folded (comparison_number o a.integer b.integer) a.number b.number) m
    (operation.Comparison o (common a.integer b.integer) (widened a) (widened b))

unfoldable pub pointers_compared : {V : Type 0} → Mark → ComparisonOperator → OperandItem V → OperandItem V → ValueItem (Operation V)
pointers_compared m o a b = arithmetic_part Signed None m (operation.PointerComparison o a b)

-- two integers or two pointers
abbrev pub as_compared : {V : Type 0} → Pair V → Asked (Compared V)
as_compared (pair.Integers a b) = Yes (compared.Integers a b)
as_compared (pair.Pointers _ a b) = Yes (compared.Pointers a b)
as_compared (pair.Voids _ _) = No

abbrev pub comparison_made : {V : Type 0} → Mark → ComparisonOperator → Compared V → ValueItem (Operation V)
comparison_made m o (compared.Integers a b) = integers_compared m o a b
comparison_made m o (compared.Pointers a b) = pointers_compared m o a b

unfoldable pub comparison : {V : Type 0} → Mark → ComparisonOperator → Option (ValueItem V) → Option (ValueItem V) →
    Ruled (ValueItem (Operation V))
comparison m o a b = built (comparison_made m o) (judged (at_node m S4) (asked_then as_compared (paired a b)))
