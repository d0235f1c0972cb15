-- What the operations of C give on numbers (C99 6.3.1 and 6.5). A number of a width is below 2 to its number of bits. What is
-- computed has four bytes, with or without sign; narrower numbers are widened before. Shift counts modulo 32 and quotients by 0 are
-- those of the numbers below (prunum), this project's own choice.
use Rattle.std.specs.Prelude.{ℕ, ◌+◌, ◌-◌, ◌*◌, ◌^◌, ◌==◌, Bool, not, ℤ, pos, int_lt, int_le, bit_and, bit_or, bit_xor}
use Rattle.csyn.specs.declared.operator.BinaryOperator.{BinaryOperator}
use Rattle.csyn.specs.declared.operator.BinaryOperator.TheVariants.{Multiply, Divide, Remainder, Add, Subtract, ShiftLeft}
use Rattle.csyn.specs.declared.operator.BinaryOperator.TheVariants.{ShiftRight, BitAnd, BitXor, BitOr}
use Rattle.csyn.specs.declared.operator.ComparisonOperator.{ComparisonOperator}
use Rattle.csyn.specs.declared.operator.ComparisonOperator.TheVariants.{Less, Greater, LessEqual, GreaterEqual, Equal, NotEqual}
use Rattle.csyn.specs.declared.specifiers.Sign.{Sign}
use Rattle.csyn.specs.declared.specifiers.Sign.TheVariants.{Signed, Unsigned}
use Rattle.prunum.specs.Number.{wrap, wrap_signed, sext, quot_u, quot_s, rem_u, rem_s, shl, shr_u, shr_s}
use Rattle.prunum.specs.declared.width.Width.{Width}
use Rattle.prunum.specs.declared.width.Width.TheVariants.{B4}
use Rattle.cprogram.specs.declared.scalar.Integer.{Integer}
use Rattle.cprogram.specs.declared.value.UnaryOperator.{UnaryOperator}
use Rattle.cprogram.specs.declared.value.UnaryOperator.TheVariants.{Plus, Minus, Complement}

-- a number of a width with a sign or none, widened to four bytes
abbrev pub widened : Sign → Width → ℕ → ℕ
widened Unsigned _ v = v
widened Signed w v = wrap_signed B4 (sext w v)

-- a number of a type, as a number of another width
abbrev pub number_converted : Integer → Width → ℕ → ℕ
number_converted from to v = wrap to (widened from.sign from.width v)

abbrev pub unary : UnaryOperator → ℕ → ℕ
unary Plus a = a
unary Minus a = wrap B4 (2 ^ 32 - a)
unary Complement a = 2 ^ 32 - 1 - a

-- of two numbers of the sign; a shift's count has a sign of its own, of which nothing depends
abbrev pub binary : BinaryOperator → Sign → ℕ → ℕ → ℕ
binary Multiply _ a b = wrap B4 (a * b)
binary Divide Signed a b = quot_s a b
binary Divide Unsigned a b = quot_u a b
binary Remainder Signed a b = rem_s a b
binary Remainder Unsigned a b = rem_u a b
binary Add _ a b = wrap B4 (a + b)
binary Subtract _ a b = wrap B4 (a + (2 ^ 32 - b))
binary ShiftLeft _ a b = shl a b
binary ShiftRight Signed a b = shr_s a b
binary ShiftRight Unsigned a b = shr_u a b
binary BitAnd _ a b = bit_and a b
binary BitXor _ a b = bit_xor a b
binary BitOr _ a b = bit_or a b

-- the whole number that a number of four bytes stands for
abbrev pub meant : Sign → ℕ → ℤ
meant Unsigned a = pos a
meant Signed a = sext B4 a

abbrev pub compared : ComparisonOperator → Sign → ℕ → ℕ → Bool
compared Less sign a b = int_lt (meant sign a) (meant sign b)
compared Greater sign a b = int_lt (meant sign b) (meant sign a)
compared LessEqual sign a b = int_le (meant sign a) (meant sign b)
compared GreaterEqual sign a b = int_le (meant sign b) (meant sign a)
compared Equal _ a b = a == b
compared NotEqual _ a b = not (a == b)
