-- Fields of registers, as SPRUIJ2 names them. R0 to R30 are 124 bytes, the low byte of each first, and a field is a range of them.
use Rattle.std.specs.Prelude.{ℕ, ◌+◌, ◌*◌, ◌/◌, ◌%◌, ◌^◌, ◌==◌, nat_lt, if◌then◌else◌, List, [], ◌∷◌, ◌++◌, length, take, drop}
use Rattle.prunum.specs.declared.width.Width.{Width}
use Rattle.prunum.specs.declared.width.Width.TheVariants.{B1, B2, B4}
use Rattle.prunum.specs.Width.{byte_count}
use Rattle.prunum.specs.Bytes.{little_bytes, little_number}
use Rattle.prutrace.specs.declared.event.Place.TheVariants.{Reg30, Reg31}
use Rattle.prutrace.specs.declared.event.Event.{Event}
use Rattle.prutrace.specs.declared.event.Event.TheVariants.{Read, Write}
use Rattle.isa.specs.declared.field.Field.{Field}
use Rattle.isa.specs.declared.field.Operand.{Operand}
use Rattle.isa.specs.declared.field.Operand.TheVariants as operand
use Rattle.isa.specs.declared.field.Part.{Part}
use Rattle.isa.specs.declared.field.Part.TheVariants as parts

-- ---- ranges

-- a part's first byte in its register
abbrev pub first_byte : Part → ℕ
first_byte parts.B0 = 0
first_byte parts.B1 = 1
first_byte parts.B2 = 2
first_byte parts.B3 = 3
first_byte parts.W0 = 0
first_byte parts.W1 = 1
first_byte parts.W2 = 2
first_byte parts.All = 0

abbrev pub width_of : Part → Width
width_of parts.B0 = B1
width_of parts.B1 = B1
width_of parts.B2 = B1
width_of parts.B3 = B1
width_of parts.W0 = B2
width_of parts.W1 = B2
width_of parts.W2 = B2
width_of parts.All = B4

-- how many bytes it has
abbrev pub part_length : Part → ℕ
part_length part = byte_count (width_of part)

-- a field's first byte among those of all registers
abbrev pub place_of : Field → ℕ
place_of f = 4 * f.reg + first_byte f.part

-- so many bytes of a list, from a place on
abbrev pub bytes_at : ℕ → ℕ → List ℕ → List ℕ
bytes_at at len list = take len (drop at list)

-- the list with these bytes from a place on
abbrev pub with_bytes : ℕ → List ℕ → List ℕ → List ℕ
with_bytes at bytes list = take at list ++ (bytes ++ drop (at + length bytes) list)

-- ---- reading

-- the number in one of R0 to R30
abbrev pub register : List ℕ → ℕ → ℕ
register registers r = little_number 4 (bytes_at (4 * r) 4 registers)

-- what a part has of a whole register
abbrev pub part_of : Part → ℕ → ℕ
part_of part whole = whole / 2 ^ (8 * first_byte part) % 2 ^ (8 * part_length part)

-- What a source reads: R30 and R31 are read as the whole register `outer`, which shows.
abbrev pub field_value : List ℕ → ℕ → Field → ℕ
field_value registers outer f =
    if nat_lt f.reg 30 then little_number (part_length f.part) (bytes_at (place_of f) (part_length f.part) registers)
    else part_of f.part outer

abbrev pub operand_value : List ℕ → ℕ → Operand → ℕ
operand_value registers outer (operand.Field f) = field_value registers outer f
operand_value registers outer (operand.Imm n) = n

-- the event of a source
abbrev pub field_reads : ℕ → Field → List Event
field_reads outer f =
    if f.reg == 30 then Read Reg30 B4 outer ∷ [] else if f.reg == 31 then Read Reg31 B4 outer ∷ [] else []

abbrev pub operand_reads : ℕ → Operand → List Event
operand_reads outer (operand.Field f) = field_reads outer f
operand_reads outer (operand.Imm n) = []

-- ---- writing

-- R0 to R30 with a number, cut to the field, in it. R31 keeps nothing.
abbrev pub with_field : Field → ℕ → List ℕ → List ℕ
with_field d n registers =
    if nat_lt d.reg 31 then with_bytes (place_of d) (little_bytes (part_length d.part) n) registers else registers

-- what a write to a part of R31 gives it: 0 in the bytes that are not written
abbrev pub given_to_r31 : Part → ℕ → ℕ
given_to_r31 part n = n % 2 ^ (8 * part_length part) * 2 ^ (8 * first_byte part)

-- The event of a write to a field: the whole new value of R30, and what R31 is given.
abbrev pub field_writes : Field → ℕ → List ℕ → List Event
field_writes d n registers =
    if d.reg == 30 then Write Reg30 B4 (register (with_field d n registers) 30) ∷ []
    else if d.reg == 31 then Write Reg31 B4 (given_to_r31 d.part n) ∷ []
    else []
