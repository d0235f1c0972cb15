-- What operations compute, on numbers of 32 bits.
use Rattle.std.specs.Prelude.{ℕ, zero, suc, ◌+◌, ◌-◌, ◌*◌, ◌/◌, ◌%◌, ◌^◌, ◌==◌, Bool, nat_lt, nat_le}
use Rattle.std.specs.Prelude.{not, if◌then◌else◌, bit_and, bit_or, bit_xor}
use Rattle.prunum.specs.Number.{quot_u, quot_s, rem_u, rem_s, shl, shr_u, shr_s}
use Rattle.midcode.specs.declared.op.UnaryOp.{UnaryOp}
use Rattle.midcode.specs.declared.op.UnaryOp.TheVariants.{Negate, Complement, Not}
use Rattle.midcode.specs.declared.op.BinaryOp.{BinaryOp}
use Rattle.midcode.specs.declared.op.BinaryOp.TheVariants as binary

abbrev pub truth : Bool → ℕ
truth b = if b then 1 else 0

unfoldable pub unary_value : UnaryOp → ℕ → ℕ
unary_value Negate a = (2 ^ 32 - a) % 2 ^ 32
unary_value Complement a = 2 ^ 32 - 1 - a
unary_value Not a = truth (a == 0)

-- Numbers of two's complement are in the order of these.
abbrev pub shifted : ℕ → ℕ
shifted a = (a + 2 ^ 31) % 2 ^ 32

-- the number of the highest bit below n that is the given one, or 32
abbrev pub leftmost : ℕ → ℕ → ℕ → ℕ
leftmost zero a bit = 32
leftmost (suc n) a bit = if a / 2 ^ n % 2 == bit then n else leftmost n a bit

unfoldable pub binary_value : BinaryOp → ℕ → ℕ → ℕ
binary_value binary.Add a b = (a + b) % 2 ^ 32
binary_value binary.Subtract a b = (a + (2 ^ 32 - b)) % 2 ^ 32
binary_value binary.And a b = bit_and a b
binary_value binary.Or a b = bit_or a b
binary_value binary.Xor a b = bit_xor a b
binary_value binary.ShiftLeft a b = shl a b
binary_value binary.ShiftRight a b = shr_u a b
binary_value binary.ShiftRightSigned a b = shr_s a b
binary_value binary.Multiply a b = a * b % 2 ^ 32
binary_value binary.Quotient a b = quot_u a b
binary_value binary.QuotientSigned a b = quot_s a b
binary_value binary.Remainder a b = rem_u a b
binary_value binary.RemainderSigned a b = rem_s a b
binary_value binary.Equal a b = truth (a == b)
binary_value binary.NotEqual a b = truth (not (a == b))
binary_value binary.Less a b = truth (nat_lt a b)
binary_value binary.LessSigned a b = truth (nat_lt (shifted a) (shifted b))
binary_value binary.LessOrEqual a b = truth (nat_le a b)
binary_value binary.LessOrEqualSigned a b = truth (nat_le (shifted a) (shifted b))
binary_value binary.LeftmostBit a b = leftmost 32 a (b % 2)
