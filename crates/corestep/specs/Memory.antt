-- Memory as a core sees it, its own data RAM at 0: the AM335x reference manual, chapter PRU-ICSS. The size of the outside memory and of the
-- part of the RAM that is the core's alone are this project's own.
use Rattle.std.specs.Prelude.{ℕ, ◌+◌, ◌-◌, ◌%◌, ◌^◌, ◌&&◌, Bool, nat_lt, nat_le, if◌then◌else◌, List, take}
use Rattle.isa.specs.declared.access.Access.{Access}
use Rattle.isa.specs.declared.access.Base.{Base}
use Rattle.isa.specs.declared.access.Base.TheVariants as base
use Rattle.isa.specs.Constants as constants
use Rattle.corestep.specs.declared.table.Class.{Class}
use Rattle.corestep.specs.declared.table.Class.TheVariants as classes
use Rattle.corestep.specs.Fields.{register, operand_value, with_bytes}

-- The part of the core's own RAM that nobody else reads or writes has so many bytes, from 0 on. The volatile window is behind it.
abbrev pub private_bytes : ℕ
private_bytes = 0x1E00

-- where an access goes by its first byte: the own RAM, the outside memory, or the shared side, to which all else counts
abbrev pub class_of : ℕ → Class
class_of addr =
    if nat_lt addr 0x2000 then classes.Own
    else if nat_le 0x80000 addr && nat_le addr 0x8FFFF then classes.Outside
    else classes.Shared

-- all bytes of an access are in the private part
abbrev pub is_private : ℕ → ℕ → Bool
is_private addr len = nat_le (addr + len) private_bytes

-- ---- addresses

abbrev pub base_value : List ℕ → Base → ℕ
base_value registers (base.Reg n) = register registers n
base_value registers (base.Constant c) = constants.address_of c

-- base plus offset, which wraps
abbrev pub address_of : List ℕ → Access → ℕ
address_of registers a = (base_value registers a.base + operand_value registers 0 a.offset) % 2 ^ 32

-- ---- the private part

-- The private part after a store: what lies behind it, and what begins behind it, doesn't reach it.
abbrev pub ram_after : List ℕ → ℕ → List ℕ → List ℕ
ram_after ram addr bytes =
    if nat_lt addr private_bytes then with_bytes addr (take (private_bytes - addr) bytes) ram else ram
