-- The integer types of the PRU C compiler guide (SPRUHV7), in which plain char has no sign.
use Rattle.std.specs.Prelude.{Option, Some, None}
use Rattle.csyn.specs.declared.specifiers.Sign.TheVariants.{Signed, Unsigned}
use Rattle.prunum.specs.declared.width.Width.TheVariants.{B1, B2, B4}
use Rattle.cprogram.specs.declared.scalar.Integer.{Integer}
use Rattle.ctypes.specs.declared.base.BaseKind.{BaseKind}
use Rattle.ctypes.specs.declared.base.BaseKind.TheVariants.{Void, Char, SignedChar, UnsignedChar, Short}
use Rattle.ctypes.specs.declared.base.BaseKind.TheVariants.{UnsignedShort, Int, UnsignedInt, Struct}

abbrev pub kind_integer : BaseKind → Option Integer
kind_integer Void = None
kind_integer Char = Some (record { width = B1; sign = Unsigned })
kind_integer SignedChar = Some (record { width = B1; sign = Signed })
kind_integer UnsignedChar = Some (record { width = B1; sign = Unsigned })
kind_integer Short = Some (record { width = B2; sign = Signed })
kind_integer UnsignedShort = Some (record { width = B2; sign = Unsigned })
kind_integer Int = Some (record { width = B4; sign = Signed })
kind_integer UnsignedInt = Some (record { width = B4; sign = Unsigned })
kind_integer (Struct _) = None
