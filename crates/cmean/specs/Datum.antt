-- What a scalar of C holds while a program runs (C99 6.2.5), and what conversions and operators make of numbers (C99 6.3, 6.5). That
-- results wrap, what a division by 0 gives and that a shift counts modulo 32 are this project's own choices.
use Rattle.std.specs.Prelude.{ℕ, zero, suc, ◌/◌, ◌+◌, ◌-◌, ◌*◌, ◌%◌, ◌^◌, ◌==◌, nat_lt, nat_le, Bool, true, false, not}
use Rattle.std.specs.Prelude.{if◌then◌else◌, ℤ, pos, Option, Some, None, bit_and, bit_or, bit_xor}
use Rattle.prunum.specs.declared.width.Width.{Width}
use Rattle.prunum.specs.declared.width.Width.TheVariants.{B4}
use Rattle.prunum.specs.Number.{wrap, wrap_signed, sext, quot_u, rem_u, quot_s, rem_s, shl, shr_u, shr_s}
use Rattle.csyn.specs.declared.specifiers.Sign.{Sign}
use Rattle.csyn.specs.declared.specifiers.Sign.TheVariants.{Signed, Unsigned}
use Rattle.csyn.specs.declared.operator.BinaryOperator.{BinaryOperator}
use Rattle.csyn.specs.declared.operator.BinaryOperator.TheVariants.{Multiply, Divide, Remainder, Add, Subtract, ShiftLeft}
use Rattle.csyn.specs.declared.operator.BinaryOperator.TheVariants.{ShiftRight, BitAnd, BitXor, BitOr}
use Rattle.csyn.specs.declared.operator.ComparisonOperator.{ComparisonOperator}
use Rattle.csyn.specs.declared.operator.ComparisonOperator.TheVariants.{Less, Greater, LessEqual, GreaterEqual, Equal, NotEqual}
use Rattle.cprogram.specs.declared.scalar.Integer.{Integer}
use Rattle.cprogram.specs.declared.scalar.Scalar.{Scalar}
use Rattle.cprogram.specs.declared.scalar.Scalar.TheVariants as scalar
use Rattle.cprogram.specs.declared.scalar.Conversion.{Conversion}
use Rattle.cprogram.specs.declared.scalar.Conversion.TheVariants as conversion
use Rattle.cprogram.specs.declared.pointer.PointerKind.TheVariants as kind
use Rattle.cprogram.specs.declared.value.UnaryOperator.{UnaryOperator}
use Rattle.cprogram.specs.declared.value.UnaryOperator.TheVariants.{Plus, Minus, Complement}

-- an element of an array of an object, or the place one past its last. A single object is an array of one.
pub record Spot : Type 0 where
  pub object : ℕ  -- the number of the object
  pub first : ℕ  -- the leaf of the object at which the array begins
  pub count : ℕ  -- how many elements the array has
  pub index : ℕ  -- which of them it is; the count, where it is one past the last
  pub leaf : ℕ  -- the leaf at which the element begins
  pub byte : ℕ  -- the byte of the object at which it begins

pub data Datum : Type 0 where
  Number : ℕ → Datum  -- below 2 to the number of its bits
  Null : Datum  -- the plain pointer to nothing
  Plain : Spot → Datum  -- a plain pointer
  Address : ℕ → Datum  -- a volatile pointer, which is an absolute address

-- ---- conversions

-- a number of this type, as one of four bytes
abbrev pub extended : Integer → ℕ → ℕ
extended t n = elim t.sign [ Signed ↦ wrap_signed B4 (sext t.width n) | Unsigned ↦ n ]

-- what a value becomes; none, where no program asks for it
abbrev pub convert : Conversion → Datum → Option Datum
convert conversion.Same d = Some d
convert (conversion.Integer from to) (Number n) = Some (Number (wrap to (extended from n)))
convert (conversion.ToAddress from) (Number n) = Some (Address (extended from n))
convert (conversion.FromAddress to) (Address a) = Some (Number (wrap to a))
convert conversion.ToNull (Number n) = Some Null
convert c d = None

-- what these bytes, read from outside, are in this type
abbrev pub received : Scalar → ℕ → Datum
received (scalar.Integer t) n = Number (wrap t.width n)
received (scalar.Pointer kind.Plain) n = Null
received (scalar.Pointer kind.Volatile) n = Address (wrap B4 n)

-- 0 in this type
abbrev pub zero_of : Scalar → Datum
zero_of t = received t 0

-- the number that is written for a value; none for a plain pointer, which no program writes to the outside
abbrev pub written : Datum → Option ℕ
written (Number n) = Some n
written (Address a) = Some a
written d = None

abbrev pub width_of : Scalar → Width
width_of (scalar.Integer t) = t.width
width_of (scalar.Pointer _) = B4

-- ---- operators on numbers of four bytes

-- 1 for true and 0 for false (C99 6.5.8)
abbrev pub truth_number : Bool → ℕ
truth_number b = if b then 1 else 0

-- whether a value is unequal to 0 (C99 6.5.3.3)
abbrev pub is_true : Datum → Bool
is_true (Number n) = not (n == 0)
is_true Null = false
is_true (Plain p) = true
is_true (Address a) = not (a == 0)

abbrev pub unary : UnaryOperator → ℕ → ℕ
unary Plus n = n
unary Minus n = wrap B4 (2 ^ 32 - n)
unary Complement n = 2 ^ 32 - 1 - n

abbrev pub binary : BinaryOperator → Sign → ℕ → ℕ → ℕ
binary Multiply sign a b = wrap B4 (a * b)
binary Divide Signed a b = quot_s a b
binary Divide Unsigned a b = quot_u a b
binary Remainder Signed a b = rem_s a b
binary Remainder Unsigned a b = rem_u a b
binary Add sign a b = wrap B4 (a + b)
binary Subtract sign a b = wrap B4 (a + (2 ^ 32 - b))
binary ShiftLeft sign a b = shl a b
binary ShiftRight Signed a b = shr_s a b
binary ShiftRight Unsigned a b = shr_u a b
binary BitAnd sign a b = bit_and a b
binary BitXor sign a b = bit_xor a b
binary BitOr sign a b = bit_or a b

-- of numbers that are in this order already: whether the comparison holds of one that is below, equal or above
abbrev pub compare : ComparisonOperator → ℕ → ℕ → Bool
compare Less a b = nat_lt a b
compare Greater a b = nat_lt b a
compare LessEqual a b = nat_le a b
compare GreaterEqual a b = nat_le b a
compare Equal a b = a == b
compare NotEqual a b = not (a == b)

-- Numbers with a sign are in the order of what they are above the least.
abbrev pub ranked : Sign → ℕ → ℕ
ranked Signed n = wrap B4 (n + 2 ^ 31)
ranked Unsigned n = n

abbrev pub comparison : ComparisonOperator → Sign → ℕ → ℕ → ℕ
comparison op sign a b = truth_number (compare op (ranked sign a) (ranked sign b))

-- a number by its sign
abbrev pub signed_value : Sign → ℕ → ℤ
signed_value Signed n = sext B4 n
signed_value Unsigned n = pos n

-- the highest of the lowest bits of a, so many of them, that is like bit 0 of b; or 32
abbrev pub leftmost_below : ℕ → ℕ → ℕ → ℕ
leftmost_below zero a b = 32
leftmost_below (suc k) a b = if a / 2 ^ k % 2 == b % 2 then k else leftmost_below k a b

-- the number of the highest bit of a that is like bit 0 of b, or 32 where none is
abbrev pub leftmost_bit : ℕ → ℕ → ℕ
leftmost_bit a b = leftmost_below 32 a b
