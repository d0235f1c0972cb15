-- What an instruction does, whatever the words are numbered by: one case for each row of the word table.
use Rattle.std.specs.Prelude.{ℕ, zero, suc, ◌+◌, ◌*◌, ◌%◌, ◌^◌, true, false, if◌then◌else◌, List, [], ◌∷◌, ◌++◌, length}
use Rattle.std.specs.List.{flat_map}
use Rattle.std.specs.Int.{w32, bit_not}
use Rattle.prunum.specs.Bytes.{little_bytes}
use Rattle.prutrace.specs.declared.event.Event.{Event}
use Rattle.prutrace.specs.declared.event.Event.TheVariants.{Halted}
use Rattle.isa.specs.declared.access.Access.{Access}
use Rattle.isa.specs.declared.control.Jump.{Jump}
use Rattle.isa.specs.declared.control.Jump.TheVariants as jump
use Rattle.isa.specs.declared.field.Field.{Field}
use Rattle.isa.specs.declared.inst.Inst.{Inst}
use Rattle.isa.specs.declared.inst.Inst.TheVariants as inst
use Rattle.isa.specs.declared.transfer.Transfer.{Transfer}
use Rattle.corestep.specs.declared.goes.Goes.{Goes}
use Rattle.corestep.specs.declared.goes.Goes.TheVariants.{Behind, Number, Target, Around, Nowhere}
use Rattle.corestep.specs.Fields.{bytes_at, register, field_value, operand_value, field_reads}
use Rattle.corestep.specs.Fields.{operand_reads, with_field, field_writes, with_bytes}
use Rattle.corestep.specs.Memory.{address_of, is_private, ram_after}
use Rattle.corestep.specs.Pieces.{access_events, bank_number, pad_events}
use Rattle.corestep.specs.Compute.{computed, leftmost, is_taken}

-- What a word reads outside R0 to R29 and the private part: the whole register of its first source and of its second, where these are
-- in R30 or R31, the bytes of a load that isn't private, and registers of the scratchpad.
pub record Given : Type 0 where
  pub first : ℕ
  pub second : ℕ
  pub bytes : List ℕ
  pub pads : List ℕ

-- what is left behind it, what shows, the address and the bytes of a store that isn't private, and where it goes on
pub record Effect : Type 0 where
  pub registers : List ℕ
  pub ram : List ℕ
  pub events : List Event
  pub at : ℕ
  pub stored : List ℕ
  pub goes : Goes

-- ---- by formats. `registers` and `ram` are those before the word.

-- the events show, and nothing is written
abbrev pub shows : List ℕ → List ℕ → List Event → Goes → Effect
shows registers ram events goes = record { registers = registers; ram = ram; events = events; at = 0; stored = []; goes = goes }

-- after the events of its sources, a number is written to a field
abbrev pub writes : List ℕ → List ℕ → List Event → Field → ℕ → Goes → Effect
writes registers ram events d n goes = shows (with_field d n registers) ram (events ++ field_writes d n registers) goes

-- the word that a jump goes to: a field is cut to 16 bits
abbrev pub jump_number : List ℕ → ℕ → Jump → ℕ
jump_number registers outer (jump.Field f) = field_value registers outer f % 2 ^ 16
jump_number registers outer (jump.Word n) = n

abbrev pub jump_reads : ℕ → Jump → List Event
jump_reads outer (jump.Field f) = field_reads outer f
jump_reads outer (jump.Word n) = []

-- registers of a bank into the same registers of the core
abbrev pub moved_in : List ℕ → List ℕ → Transfer → List ℕ → Effect
moved_in registers ram t values =
    shows (with_bytes (4 * t.first) (flat_map (little_bytes 4) values) registers) ram
    (pad_events false (bank_number t.bank) t.first values) Behind

-- the numbers in so many registers, from one on
abbrev pub numbers_from : List ℕ → ℕ → ℕ → List ℕ
numbers_from registers r zero = []
numbers_from registers r (suc count) = register registers r ∷ numbers_from registers (r + 1) count

abbrev pub moved_out : List ℕ → List ℕ → Transfer → Effect
moved_out registers ram t =
    shows registers ram (pad_events true (bank_number t.bank) t.first (numbers_from registers t.first t.count)) Behind

-- where the first byte of an access is in the registers
abbrev pub access_place : Access → ℕ
access_place a = 4 * a.first + a.byte

abbrev pub loaded : List ℕ → List ℕ → Access → ℕ → List ℕ → Effect
loaded registers ram a addr bytes =
    if is_private addr a.len then shows (with_bytes (access_place a) (bytes_at addr a.len ram) registers) ram [] Behind
    else shows (with_bytes (access_place a) bytes registers) ram (access_events false addr bytes) Behind

abbrev pub stored : List ℕ → List ℕ → ℕ → List ℕ → Effect
stored registers ram addr bytes =
    if is_private addr (length bytes) then shows registers (with_bytes addr bytes ram) [] Behind
    else record {
      registers = registers;
      ram = ram_after ram addr bytes;
      events = access_events true addr bytes;
      at = addr;
      stored =
          bytes;
      goes = Behind;
    }

-- ---- each instruction. `behind` is the number of the next word.

abbrev pub effect : ℕ → List ℕ → List ℕ → Given → Inst → Effect
effect behind registers ram g (inst.Alu op d a b) =
    writes registers ram (field_reads g.first a ++ operand_reads g.second b) d
    (computed op (field_value registers g.first a) (operand_value registers g.second b)) Behind
effect behind registers ram g (inst.Not d a) =
    writes registers ram (field_reads g.first a) d (bit_not w32 (field_value registers g.first a)) Behind
effect behind registers ram g (inst.Jmp to) = shows registers ram (jump_reads g.first to) (Number (jump_number registers g.first to))
effect behind registers ram g (inst.Jal d to) =
    writes registers ram (jump_reads g.first to) d behind (Number (jump_number registers g.first to))
effect behind registers ram g (inst.Ldi d n) = writes registers ram [] d n Behind
effect behind registers ram g (inst.Lmbd d a b) =
    writes registers ram (field_reads g.first a ++ operand_reads g.second b) d
    (leftmost (field_value registers g.first a) (operand_value registers g.second b)) Behind
effect behind registers ram g inst.Halt = shows registers ram (Halted ∷ []) Nowhere
effect behind registers ram g (inst.Xin t) = moved_in registers ram t g.pads
effect behind registers ram g (inst.Xout t) = moved_out registers ram t
effect behind registers ram g (inst.Loop body) = shows registers ram [] Around
effect behind registers ram g (inst.Branch condition offset a b) =
    shows registers ram (field_reads g.first a ++ operand_reads g.second b)
    (if is_taken condition (field_value registers g.first a) (operand_value registers g.second b) then Target else Behind)
effect behind registers ram g (inst.Qba offset) = shows registers ram [] Target
effect behind registers ram g (inst.Load a) = loaded registers ram a (address_of registers a) g.bytes
effect behind registers ram g (inst.Store a) = stored registers ram (address_of registers a) (bytes_at (access_place a) a.len registers)
