-- What an instruction reads of its core's input.
use Rattle.std.specs.Prelude.{ℕ, ◌==◌, if◌then◌else◌, List, take, Option, Some, None}
use Rattle.isa.specs.declared.control.Jump.{Jump}
use Rattle.isa.specs.declared.control.Jump.TheVariants as jump
use Rattle.isa.specs.declared.field.Field.{Field}
use Rattle.isa.specs.declared.field.Operand.{Operand}
use Rattle.isa.specs.declared.field.Operand.TheVariants as operand
use Rattle.isa.specs.declared.inst.Inst.{Inst}
use Rattle.isa.specs.declared.inst.Inst.TheVariants as inst
use Rattle.corestep.specs.declared.out.Input.{Input}
use Rattle.corestep.specs.Fields.{register}
use Rattle.corestep.specs.Effect.{Given, Effect, effect}

-- the sources, in their order
abbrev pub field_of : Operand → Option Field
field_of (operand.Field f) = Some f
field_of (operand.Imm n) = None

abbrev pub field_in : Jump → Option Field
field_in (jump.Field f) = Some f
field_in (jump.Word n) = None

abbrev pub first_source : Inst → Option Field
first_source (inst.Alu op d a b) = Some a
first_source (inst.Not d a) = Some a
first_source (inst.Jmp to) = field_in to
first_source (inst.Jal d to) = field_in to
first_source (inst.Lmbd d a b) = Some a
first_source (inst.Branch condition offset a b) = Some a
first_source _ = None

abbrev pub second_source : Inst → Option Field
second_source (inst.Alu op d a b) = field_of b
second_source (inst.Lmbd d a b) = field_of b
second_source (inst.Branch condition offset a b) = field_of b
second_source _ = None

-- how many bytes and registers of the scratchpad it reads at most
abbrev pub load_length : Inst → ℕ
load_length (inst.Load a) = a.len
load_length _ = 0

abbrev pub pad_count : Inst → ℕ
pad_count (inst.Xin t) = t.count
pad_count _ = 0

-- the whole register that a source in R30 or R31 is a field of
abbrev pub outer_of : List ℕ → ℕ → Field → ℕ
outer_of registers r31 f = if f.reg == 30 then register registers 30 else r31

abbrev pub outer_in : List ℕ → ℕ → Option Field → ℕ
outer_in registers r31 None = 0
outer_in registers r31 (Some f) = outer_of registers r31 f

abbrev pub given_by : List ℕ → Input → Inst → Given
given_by registers input i = record {
  first = outer_in registers input.r31 (first_source i);
  second = outer_in registers input.r31 (second_source i);
  bytes = take (load_length i) input.bytes;
  pads = take (pad_count i) input.pads;
}

-- the effect of an instruction with this input
abbrev pub effect_of : ℕ → List ℕ → List ℕ → Input → Inst → Effect
effect_of behind registers ram input i = effect behind registers ram (given_by registers input i) i
