-- Which operation stands for an operator of C on numbers of four bytes.
use Rattle.std.specs.Prelude.{Bool, true, false}
use Rattle.csyn.specs.declared.specifiers.Sign.{Sign}
use Rattle.csyn.specs.declared.specifiers.Sign.TheVariants.{Signed, Unsigned}
use Rattle.csyn.specs.declared.operator.BinaryOperator.{BinaryOperator}
use Rattle.csyn.specs.declared.operator.BinaryOperator.TheVariants as source
use Rattle.csyn.specs.declared.operator.ComparisonOperator.{ComparisonOperator}
use Rattle.csyn.specs.declared.operator.ComparisonOperator.TheVariants as order
use Rattle.midcode.specs.declared.op.BinaryOp.{BinaryOp}
use Rattle.midcode.specs.declared.op.BinaryOp.TheVariants as binary

abbrev pub operation : BinaryOperator → Sign → BinaryOp
operation source.Multiply sign = binary.Multiply
operation source.Divide Signed = binary.QuotientSigned
operation source.Divide Unsigned = binary.Quotient
operation source.Remainder Signed = binary.RemainderSigned
operation source.Remainder Unsigned = binary.Remainder
operation source.Add sign = binary.Add
operation source.Subtract sign = binary.Subtract
operation source.ShiftLeft sign = binary.ShiftLeft
operation source.ShiftRight Signed = binary.ShiftRightSigned
operation source.ShiftRight Unsigned = binary.ShiftRight
operation source.BitAnd sign = binary.And
operation source.BitXor sign = binary.Xor
operation source.BitOr sign = binary.Or

-- a comparison whose sides change places
abbrev pub is_swapped : ComparisonOperator → Bool
is_swapped order.Greater = true
is_swapped order.GreaterEqual = true
is_swapped o = false

abbrev pub comparing : ComparisonOperator → Sign → BinaryOp
comparing order.Less Signed = binary.LessSigned
comparing order.Less Unsigned = binary.Less
comparing order.Greater Signed = binary.LessSigned
comparing order.Greater Unsigned = binary.Less
comparing order.LessEqual Signed = binary.LessOrEqualSigned
comparing order.LessEqual Unsigned = binary.LessOrEqual
comparing order.GreaterEqual Signed = binary.LessOrEqualSigned
comparing order.GreaterEqual Unsigned = binary.LessOrEqual
comparing order.Equal sign = binary.Equal
comparing order.NotEqual sign = binary.NotEqual
