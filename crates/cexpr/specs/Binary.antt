-- Operators between two integers.
use Rattle.std.specs.Prelude.{Option, ℕ}
use Rattle.csyn.specs.declared.cause.Cause.TheVariants.{S4}
use Rattle.csyn.specs.declared.mark.Mark.{Mark}
use Rattle.csyn.specs.declared.operator.BinaryOperator.TheVariants.{ShiftLeft, ShiftRight}
use Rattle.csyn.specs.declared.operator.BinaryOperator.{BinaryOperator}
use Rattle.csyn.specs.declared.specifiers.Sign.{Sign}
use Rattle.cfault.specs.Asked.{both, judged}
use Rattle.cfault.specs.Ruled.{Ruled, built}
use Rattle.cprogram.specs.Arithmetic as arithmetic
use Rattle.cprogram.specs.declared.scalar.Integer.{Integer}
use Rattle.ctypes.specs.Convert.{common, promoted}
use Rattle.cexpr.specs.Ask.{at_node, integer}
use Rattle.cexpr.specs.Number.{arithmetic_part, as_word, folded, widened}
use Rattle.cexpr.specs.declared.item.IntegerItem.{IntegerItem}
use Rattle.cexpr.specs.declared.item.ValueItem.{ValueItem}
use Rattle.cexpr.specs.declared.node.Operation.TheVariants as operation
use Rattle.cexpr.specs.declared.node.Operation.{Operation}

-- each side of a shift is widened by itself, and the left one's type is the shift's
abbrev pub operator_sign : BinaryOperator → Integer → Integer → Sign
operator_sign ShiftLeft i _ = promoted i
operator_sign ShiftRight i _ = promoted i
operator_sign _ i j = common i j

-- the operator on two numbers of their types
abbrev pub binary_number : BinaryOperator → Integer → Integer → ℕ → ℕ → ℕ
binary_number o i j a b = arithmetic.binary o (operator_sign o i j) (as_word i a) (as_word j b)

unfoldable pub combined : {V : Type 0} → Mark → BinaryOperator → IntegerItem V → IntegerItem V → ValueItem (Operation V)
combined m o a b =
    let sign = operator_sign o a.integer b.integer in
    arithmetic_part sign (folded (binary_number o a.integer b.integer) a.number b.number) m
    (operation.Binary o sign (widened a) (widened b))

-- two integers
unfoldable pub binary : {V : Type 0} → Mark → BinaryOperator → Option (ValueItem V) → Option (ValueItem V) → Ruled (ValueItem (Operation V))
binary m o a b = built (λ p. combined m o p.0 p.1) (judged (at_node m S4) (both (integer a) (integer b)))
