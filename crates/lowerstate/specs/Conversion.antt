-- What a conversion is between, which operations do it, and which do `!`.
use Rattle.std.specs.Prelude.{ℕ, ◌≡◌, ◌⊎◌}
use Rattle.prunum.specs.declared.width.Width.{Width}
use Rattle.prunum.specs.declared.width.Width.TheVariants.{B4}
use Rattle.csyn.specs.declared.specifiers.Sign.{Sign}
use Rattle.csyn.specs.declared.specifiers.Sign.TheVariants.{Signed, Unsigned}
use Rattle.midcode.specs.declared.register.VReg.{VReg}
use Rattle.midcode.specs.declared.op.OpKind.{OpKind}
use Rattle.midcode.specs.declared.op.OpKind.TheVariants as op
use Rattle.midcode.specs.declared.op.BinaryOp.TheVariants as two
use Rattle.midcode.specs.declared.op.Operand.TheVariants as operand
use Rattle.cprogram.specs.declared.scalar.Integer.{Integer}
use Rattle.cprogram.specs.declared.scalar.Conversion.{Conversion}
use Rattle.cprogram.specs.declared.scalar.Conversion.TheVariants as conversion
use Rattle.lowerstate.specs.Held.{Meant, OfInteger, ToPlain, ToVolatile}
use Rattle.lowerstate.specs.Piece.{Code, Free, next_register, followed, register}

-- ---- types

abbrev pub integer : Width → Sign → Meant
integer width sign = OfInteger (record { width = width; sign = sign })

-- A number keeps its bits under another sign.
abbrev pub AreAlike : Meant → Meant → Type 0
AreAlike t u = (t ≡ u) ⊎ ((w : Width) × (s : Sign) × (z : Sign) × (t ≡ integer w s) × (u ≡ integer w z))

-- the conversion makes a value of the first type one of the second
abbrev pub IsConversion : Conversion → Meant → Meant → Type 0
IsConversion conversion.Same t u = AreAlike t u
IsConversion (conversion.Integer from to) t u = (t ≡ OfInteger from) × (z : Sign) × (u ≡ integer to z)
IsConversion (conversion.ToAddress from) t u = (t ≡ OfInteger from) × (u ≡ ToVolatile)
IsConversion (conversion.FromAddress to) t u = (t ≡ ToVolatile) × (z : Sign) × (u ≡ integer to z)
IsConversion conversion.ToNull t u = (from : Integer) × (t ≡ OfInteger from) × (layout : ℕ) × (u ≡ ToPlain layout)

-- ---- code

-- a number as one of four bytes, which the register that it goes to cuts
abbrev pub extending : Sign → VReg → VReg → OpKind
extending Signed to from = op.Widen to from
extending Unsigned to from = op.Copy to from

abbrev pub conversion_code : Conversion → Free → Code → Code
conversion_code conversion.Same f a = a
conversion_code (conversion.Integer from to) f a =
    followed f a (extending from.sign (register (next_register f a)) (register a.result)) to
conversion_code (conversion.ToAddress from) f a =
    followed f a (extending from.sign (register (next_register f a)) (register a.result)) B4
conversion_code (conversion.FromAddress to) f a = followed f a (op.Copy (register (next_register f a)) (register a.result)) to
conversion_code conversion.ToNull f a = followed f a (op.Constant (register (next_register f a)) 0) B4

-- 1 for 0, and 0 for everything else
abbrev pub not_code : Free → Code → Code
not_code f a = followed f a (op.Binary two.Equal (register (next_register f a)) (register a.result) (operand.Constant 0)) B4
