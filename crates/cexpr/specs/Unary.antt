-- Numbers and characters, and operators on one value.
use Rattle.std.specs.Prelude.{Option, Some, ℕ, ◌==◌, if◌then◌else◌}
use Rattle.csyn.specs.declared.cause.Cause.TheVariants.{S4}
use Rattle.csyn.specs.declared.mark.Mark.{Mark}
use Rattle.csyn.specs.declared.specifiers.Sign.TheVariants.{Signed}
use Rattle.csyn.specs.declared.specifiers.Sign.{Sign}
use Rattle.cfault.specs.Asked.{judged}
use Rattle.cfault.specs.Ruled.{Ruled, built}
use Rattle.cprogram.specs.Arithmetic as arithmetic
use Rattle.cprogram.specs.declared.scalar.Integer.{Integer}
use Rattle.cprogram.specs.declared.value.UnaryOperator.{UnaryOperator}
use Rattle.ctypes.specs.Convert.{promoted}
use Rattle.cexpr.specs.Ask.{at_node, integer, scalar}
use Rattle.cexpr.specs.Number.{arithmetic_part, as_word, folded_one, widened}
use Rattle.cexpr.specs.declared.item.IntegerItem.{IntegerItem}
use Rattle.cexpr.specs.declared.item.ValueItem.{ValueItem}
use Rattle.cexpr.specs.declared.node.Constant.{Constant}
use Rattle.cexpr.specs.declared.node.Operation.TheVariants as operation
use Rattle.cexpr.specs.declared.node.Operation.{Operation}

-- a constant of this value
unfoldable pub constant : Mark → ℕ → Sign → ValueItem Constant
constant m n s = arithmetic_part s (Some n) m (record { number = n; sign = s })

-- the operator on a number of its type
abbrev pub unary_number : UnaryOperator → Integer → ℕ → ℕ
unary_number o i a = arithmetic.unary o (as_word i a)

unfoldable pub unary_made : {V : Type 0} → Mark → UnaryOperator → IntegerItem V → ValueItem (Operation V)
unary_made m o a =
    arithmetic_part (promoted a.integer) (folded_one (unary_number o a.integer) a.number) m
    (operation.Unary o (promoted a.integer) (widened a))

-- an operator in front of an integer
unfoldable pub unary : {V : Type 0} → Mark → UnaryOperator → Option (ValueItem V) → Ruled (ValueItem (Operation V))
unary m o a = built (unary_made m o) (judged (at_node m S4) (integer a))

abbrev pub not_number : ℕ → ℕ
not_number a = if a == 0 then 1 else 0

unfoldable pub not_made : {V : Type 0} → Mark → ValueItem V → ValueItem (Operation V)
not_made m a = arithmetic_part Signed (folded_one not_number a.number) m (operation.Not a.value)

-- `!` of an integer or a pointer
unfoldable pub negated : {V : Type 0} → Mark → Option (ValueItem V) → Ruled (ValueItem (Operation V))
negated m a = built (not_made m) (judged (at_node m S4) (scalar a))
