-- The width of a scalar type, in which a pointer has four bytes (SPRUHV7), and what turns a number of a type into one of a width.
use Rattle.std.specs.Prelude.{ℕ}
use Rattle.prunum.specs.Width.{byte_count}
use Rattle.prunum.specs.declared.width.Width.{Width}
use Rattle.prunum.specs.declared.width.Width.TheVariants.{B1, B2, B4}
use Rattle.csyn.specs.declared.specifiers.Sign.{Sign}
use Rattle.cprogram.specs.declared.scalar.Integer.{Integer}
use Rattle.cprogram.specs.declared.scalar.Scalar.{Scalar}
use Rattle.cprogram.specs.declared.scalar.Scalar.TheVariants as scalar
use Rattle.cprogram.specs.declared.scalar.Conversion.{Conversion}
use Rattle.cprogram.specs.declared.scalar.Conversion.TheVariants as conversion

abbrev pub scalar_width : Scalar → Width
scalar_width (scalar.Integer i) = i.width
scalar_width (scalar.Pointer _) = B4

abbrev pub scalar_bytes : Scalar → ℕ
scalar_bytes s = byte_count (scalar_width s)

abbrev between : Integer → Width → Width → Conversion
between _ B1 B1 = conversion.Same
between _ B2 B2 = conversion.Same
between _ B4 B4 = conversion.Same
between i _ to = conversion.Integer i to

abbrev pub converted : Integer → Width → Conversion
converted i to = between i i.width to

-- the type of arithmetic of a sign: int or unsigned int
abbrev pub arithmetic : Sign → Scalar
arithmetic s = scalar.Integer (record { width = B4; sign = s })
