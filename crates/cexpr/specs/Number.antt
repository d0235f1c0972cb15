-- Numbers of four bytes.
use Rattle.std.specs.Prelude.{None, Option, Some, false, ℕ, []}
use Rattle.csyn.specs.declared.mark.Mark.{Mark}
use Rattle.csyn.specs.declared.specifiers.Sign.TheVariants.{Signed, Unsigned}
use Rattle.csyn.specs.declared.specifiers.Sign.{Sign}
use Rattle.prunum.specs.declared.width.Width.TheVariants.{B4}
use Rattle.cprogram.specs.Arithmetic.{number_converted}
use Rattle.cprogram.specs.Scalar.{converted}
use Rattle.cprogram.specs.declared.scalar.Integer.{Integer}
use Rattle.ctypes.specs.Shape.{Shape}
use Rattle.ctypes.specs.declared.base.BaseKind.TheVariants.{Int, UnsignedInt, Void}
use Rattle.ctypes.specs.declared.base.BaseKind.{BaseKind}
use Rattle.cexpr.specs.declared.item.IntegerItem.{IntegerItem}
use Rattle.cexpr.specs.declared.item.OperandItem.{OperandItem}
use Rattle.cexpr.specs.declared.item.ValueItem.{ValueItem}

abbrev pub arithmetic_kind : Sign → BaseKind
arithmetic_kind Signed = Int
arithmetic_kind Unsigned = UnsignedInt

abbrev pub unqualified : BaseKind → Shape
unqualified kind = record { base = record { kind = kind; qualifiers = record { is_const = false; is_volatile = false } }; steps = [] }

-- int or unsigned int
abbrev pub arithmetic_type : Sign → Shape
arithmetic_type s = unqualified (arithmetic_kind s)

abbrev pub void_type : Shape
void_type = unqualified Void

-- a value of such a type, with its number where it is a constant
abbrev pub arithmetic_part : {N : Type 0} → Sign → Option ℕ → Mark → N → ValueItem N
arithmetic_part s number m kind =
    record { ctype = arithmetic_type s; number = number; own = None; value = record { mark = m; kind = kind } }

-- a number as one of four bytes
abbrev pub widened : {V : Type 0} → IntegerItem V → OperandItem V
widened a = record { conversion = converted a.integer B4; value = a.value }

-- a number of a type, widened to four bytes
abbrev pub as_word : Integer → ℕ → ℕ
as_word i = number_converted i B4

-- the number that an operation gives of one constant, and of two
abbrev pub folded_one : (ℕ → ℕ) → Option ℕ → Option ℕ
folded_one f (Some a) = Some (f a)
folded_one _ None = None

abbrev pub folded : (ℕ → ℕ → ℕ) → Option ℕ → Option ℕ → Option ℕ
folded f (Some a) (Some b) = Some (f a b)
folded _ _ _ = None
