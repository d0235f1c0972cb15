-- Which registers the words of memory may name: R30 and R31 are neither moved nor part of an address.
use Rattle.std.specs.Prelude.{Bool, true, false, nat_lt}
use Rattle.isa.specs.declared.access.Base.{Base}
use Rattle.isa.specs.declared.access.Base.TheVariants as base
use Rattle.isa.specs.declared.field.Operand.{Operand}
use Rattle.isa.specs.declared.field.Operand.TheVariants as operand

abbrev pub is_low_base : Base → Bool
is_low_base (base.Reg n) = nat_lt n 30
is_low_base (base.Constant c) = true

abbrev pub is_low_operand : Operand → Bool
is_low_operand (operand.Field f) = nat_lt f.reg 30
is_low_operand (operand.Imm n) = true

abbrev pub is_constant : Base → Bool
is_constant (base.Reg n) = false
is_constant (base.Constant c) = true
