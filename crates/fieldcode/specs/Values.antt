-- What operations on values become, whatever their homes.
use Rattle.std.specs.Prelude.{ℕ, ◌+◌, ◌%◌, nat_le, if◌then◌else◌, List, [], ◌∷◌, ◌++◌, Option, Some, None, slice_get}
use Rattle.prunum.specs.declared.width.Width.{Width}
use Rattle.prunum.specs.declared.width.Width.TheVariants.{B4}
use Rattle.isa.specs.declared.field.Field.{Field}
use Rattle.isa.specs.declared.field.Operand.{Operand}
use Rattle.isa.specs.declared.field.Operand.TheVariants as isa_operand
use Rattle.isa.specs.declared.inst.Inst.{Inst}
use Rattle.midcode.specs.declared.op.BinaryOp.{BinaryOp}
use Rattle.midcode.specs.declared.op.BinaryOp.TheVariants as binary
use Rattle.subreg.specs.declared.home.Home.{Home}
use Rattle.subreg.specs.declared.home.Home.TheVariants as home
use Rattle.fieldcode.specs.Insts.{low_field, whole, constant, from_slot, to_slot}
use Rattle.fieldcode.specs.Homes.{slot_place}
use Rattle.fieldcode.specs.Works.{Work, work_code, binary_work}

-- A virtual register as an operation sees it: its width and its home.
pub record Place : Type 0 where
  pub width : Width
  pub home : Home

-- The right operand of a binary operation.
pub data Right : Type 0 where
  InPlace : Place → Right
  Constant : ℕ → Right

-- what is fetched first, and the field that then has the number
pub record Source : Type 0 where
  pub fetch : List Inst
  pub field : Field

abbrev pub source_in : ℕ → Width → Home → ℕ → Source
source_in slots w (home.Field f) r = record { fetch = []; field = f }
source_in slots w (home.Slot n) r = record { fetch = from_slot (slot_place slots n) r w; field = low_field (26 + r % 3) w }

-- The left operand comes from its slot to R26, the right one to R27.
abbrev pub left_source : ℕ → Place → Source
left_source slots p = source_in slots p.width p.home 0

pub record OperandSource : Type 0 where
  pub fetch : List Inst
  pub operand : Operand

abbrev pub as_operand : Source → OperandSource
as_operand s = record { fetch = s.fetch; operand = isa_operand.Field s.field }

-- a number up to 255 stands in the instruction
abbrev pub number_source : ℕ → OperandSource
number_source n =
    if nat_le n 255 then record { fetch = []; operand = isa_operand.Imm n }
    else record { fetch = constant (whole 27) n; operand = isa_operand.Field (whole 27) }

abbrev pub right_source : ℕ → Right → OperandSource
right_source slots (InPlace p) = as_operand (source_in slots p.width p.home 1)
right_source slots (Constant n) = number_source n

-- the field that a result is put into, and what puts it into its slot
pub record Sink : Type 0 where
  pub field : Field
  pub keep : List Inst

abbrev pub sink_in : ℕ → Width → Home → Sink
sink_in slots w (home.Field f) = record { field = f; keep = [] }
sink_in slots w (home.Slot n) = record { field = low_field 28 w; keep = to_slot (slot_place slots n) 2 w }

abbrev pub sink : ℕ → Place → Sink
sink slots p = sink_in slots p.width p.home

-- ---- operations

abbrev pub put_by : Sink → Work → List Inst
put_by s w = work_code w s.field ++ s.keep

-- an operation with one operand
abbrev pub one_code : ℕ → (Field → Work) → Place → Place → List Inst
one_code slots work to from =
    let a = left_source slots from in
    a.fetch ++ put_by (sink slots to) (work a.field)

-- Shifts take their number modulo 32.
abbrev pub reduced : BinaryOp → Right → Right
reduced binary.ShiftLeft (Constant n) = Constant (n % 32)
reduced binary.ShiftRight (Constant n) = Constant (n % 32)
reduced binary.ShiftRightSigned (Constant n) = Constant (n % 32)
reduced o right = right

abbrev pub two_code : ℕ → BinaryOp → Place → Place → Right → List Inst
two_code slots o to left right =
    let a = left_source slots left in
    let b = right_source slots (reduced o right) in
    a.fetch ++ (b.fetch ++ put_by (sink slots to) (binary_work o a.field b.operand))

abbrev pub constant_code : ℕ → Place → ℕ → List Inst
constant_code slots to n = let s = sink slots to in constant s.field n ++ s.keep
