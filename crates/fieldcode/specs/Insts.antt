-- The instructions that operations become, and the fields that they need besides those of homes. Homes are in R5 to R25; R0 to R2, R4 and
-- R26 to R29 are scratch.
use Rattle.std.specs.Prelude.{ℕ, ◌+◌, ◌*◌, ◌/◌, ◌%◌, ◌^◌, nat_lt, if◌then◌else◌, List, [], ◌∷◌, ◌++◌}
use Rattle.std.proofs.Common.{refl, lit<}
use Rattle.prunum.specs.Width.{byte_count}
use Rattle.prunum.specs.declared.width.Width.{Width}
use Rattle.prunum.specs.declared.width.Width.TheVariants.{B1, B2, B4}
use Rattle.isa.specs.Ranges as IsaRanges
use Rattle.isa.specs.Note.{is_access}
use Rattle.isa.specs.declared.access.Access.{Access}
use Rattle.isa.specs.declared.access.Base.TheVariants as base
use Rattle.isa.specs.declared.access.Constant.TheVariants.{C24}
use Rattle.isa.specs.declared.field.Field.{Field}
use Rattle.isa.specs.declared.field.Part.{Part}
use Rattle.isa.specs.declared.field.Part.TheVariants as parts
use Rattle.isa.specs.declared.field.Operand.TheVariants as operand
use Rattle.isa.specs.declared.inst.Inst.{Inst}
use Rattle.isa.specs.declared.inst.Inst.TheVariants as inst
use Rattle.isa.specs.declared.note.NoteKind.TheVariants as kinds
use Rattle.isa.specs.declared.program.Item.{Item}
use Rattle.isa.specs.declared.program.Item.TheVariants as item
use Rattle.fieldcode.specs.Ranges as Ranges

-- ---- fields

-- the lowest part of a width
abbrev pub low_part : Width → Part
low_part B1 = parts.B0
low_part B2 = parts.W0
low_part B4 = parts.All

-- the lowest field of a width in a register
abbrev pub low_field : ℕ → Width → Field
low_field r w = record { reg = r % 32; part = low_part w; in_range = IsaRanges.register r }

abbrev pub whole : ℕ → Field
whole r = low_field r B4

-- a half of the field's register
abbrev pub half : Part → Field → Field
half part f = record { reg = f.reg; part = part; in_range = f.in_range }

-- what an operation has between its instructions, a mask, and operands with their sign bits turned
abbrev pub between : Field
between = whole 1

abbrev pub mask : Field
mask = whole 2

abbrev pub turned_left : Field
turned_left = whole 0

abbrev pub turned_right : Field
turned_right = whole 4

-- ---- constants

-- a field becomes a number below 2^32, cut to it: its low half, and where it has a high half that isn't 0, this too
abbrev pub constant_in : Part → Field → ℕ → List Inst
constant_in parts.All d n =
    if nat_lt n 65536 then inst.Ldi d n ∷ []
    else inst.Ldi (half parts.W0 d) (n % 65536) ∷ inst.Ldi (half parts.W2 d) (n / 65536 % 65536) ∷ []
constant_in part d n = inst.Ldi d (n % 65536) ∷ []

abbrev pub constant : Field → ℕ → List Inst
constant d n = constant_in d.part d n

-- ---- slots

-- a move of the low bytes of R26, R27 or R28 from or to the own RAM, at the address in R0
abbrev pub slot_access : ℕ → Width → Access
slot_access r w = record {
  first = 26 + r % 3;
  byte = 0;
  len = byte_count w;
  base = base.Constant C24;
  offset = operand.Field (whole 0);
  in_register = lit< tt;
  some_byte = Ranges.some_byte w;
  below = Ranges.below r w;
  low_base = refl;
  low_offset = refl;
}

abbrev pub from_slot : ℕ → ℕ → Width → List Inst
from_slot at r w = inst.Ldi (whole 0) (at % 65536) ∷ inst.Load (slot_access r w) ∷ []

abbrev pub to_slot : ℕ → ℕ → Width → List Inst
to_slot at r w = inst.Ldi (whole 0) (at % 65536) ∷ inst.Store (slot_access r w) ∷ []

-- ---- items

-- an instruction whose access, where it is one, stays in the own RAM
abbrev pub noted : Inst → List Item
noted i = if is_access i then item.Note kinds.Own 0 ∷ item.Whole i ∷ [] else item.Whole i ∷ []

abbrev pub items : List Inst → List Item
items [] = []
items (i ∷ is) = noted i ++ items is
