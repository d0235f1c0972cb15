-- The word table, this project's own: which bits each instruction has in its word.
use Rattle.std.specs.Prelude.{ℕ, ◌+◌, ◌-◌, ◌*◌, ◌/◌, ◌%◌, ◌^◌, ◌<◌, pos, unsigned_abs}
use Rattle.std.specs.Int.{int_rem_euclid}
use Rattle.isa.specs.declared.access.Access.{Access}
use Rattle.isa.specs.declared.access.Base.{Base}
use Rattle.isa.specs.declared.access.Base.TheVariants as base
use Rattle.isa.specs.declared.access.Constant.{Constant}
use Rattle.isa.specs.declared.access.Constant.TheVariants.{C0, C4, C24, C25, C28}
use Rattle.isa.specs.declared.control.BranchOffset.{BranchOffset}
use Rattle.isa.specs.declared.control.Condition.{Condition}
use Rattle.isa.specs.declared.control.Condition.TheVariants.{Lt, Eq, Le, Gt, Ne, Ge, BitClear, BitSet}
use Rattle.isa.specs.declared.control.Jump.{Jump}
use Rattle.isa.specs.declared.control.Jump.TheVariants as jump
use Rattle.isa.specs.declared.field.Part.{Part}
use Rattle.isa.specs.declared.field.Part.TheVariants.{B0, B1, B2, B3, W0, W1, W2, All}
use Rattle.isa.specs.declared.field.Field.{Field}
use Rattle.isa.specs.declared.field.Operand.{Operand}
use Rattle.isa.specs.declared.field.Operand.TheVariants as operand
use Rattle.isa.specs.declared.inst.AluOp.{AluOp}
use Rattle.isa.specs.declared.inst.AluOp.TheVariants.{Add, Sub, Lsl, Lsr, Rsb, And, Or, Xor, Min, Max, Clr, Set}
use Rattle.isa.specs.declared.inst.Inst.{Inst}
use Rattle.isa.specs.declared.inst.Inst.TheVariants.{Alu, Not, Jmp, Jal, Ldi, Lmbd, Halt, Xin, Xout, Loop, Branch, Qba, Load, Store}
use Rattle.isa.specs.declared.row.Row.{Row}
use Rattle.isa.specs.declared.transfer.Bank.{Bank}
use Rattle.isa.specs.declared.transfer.Bank.TheVariants.{Bank0, Bank1, Bank2}
use Rattle.isa.specs.declared.transfer.Transfer.{Transfer}

-- ---- the numbers of parts, operations, conditions, devices and constants

abbrev pub part_number : Part → ℕ
part_number B0 = 0
part_number B1 = 1
part_number B2 = 2
part_number B3 = 3
part_number W0 = 4
part_number W1 = 5
part_number W2 = 6
part_number All = 7

abbrev pub op_number : AluOp → ℕ
op_number Add = 0
op_number Sub = 2
op_number Lsl = 4
op_number Lsr = 5
op_number Rsb = 6
op_number And = 8
op_number Or = 9
op_number Xor = 10
op_number Min = 12
op_number Max = 13
op_number Clr = 14
op_number Set = 15

-- bits 31 to 27 of a branch
abbrev pub condition_number : Condition → ℕ
condition_number Lt = 0b01001
condition_number Eq = 0b01010
condition_number Le = 0b01011
condition_number Gt = 0b01100
condition_number Ne = 0b01101
condition_number Ge = 0b01110
condition_number BitClear = 0b11001
condition_number BitSet = 0b11010

abbrev pub device_number : Bank → ℕ
device_number Bank0 = 10
device_number Bank1 = 11
device_number Bank2 = 12

abbrev pub constant_number : Constant → ℕ
constant_number C0 = 0
constant_number C4 = 4
constant_number C24 = 24
constant_number C25 = 25
constant_number C28 = 28

-- ---- the bytes and bits that operands have

abbrev pub field_code : Field → ℕ
field_code f = 32 * part_number f.part + f.reg

-- bit 24: 0 for a field, 1 for a number
abbrev pub io : Operand → ℕ
io (operand.Field f) = 0
io (operand.Imm n) = 1

abbrev pub operand_code : Operand → ℕ
operand_code (operand.Field f) = field_code f
operand_code (operand.Imm n) = n

-- the low ten bits of the offset
abbrev pub offset_bits : BranchOffset → ℕ
offset_bits o = unsigned_abs (int_rem_euclid o.words (pos 1024))

-- bits 31 to 28 of SBCO and SBBO
abbrev pub store_number : Base → ℕ
store_number (base.Constant c) = 8
store_number (base.Reg n) = 14

-- bits 31 to 28 of LBCO and LBBO
abbrev pub load_number : Base → ℕ
load_number (base.Constant c) = 9
load_number (base.Reg n) = 15

abbrev pub base_number : Base → ℕ
base_number (base.Constant c) = constant_number c
base_number (base.Reg n) = n

-- ---- rows

-- a jump to a field or a number, where the top byte of the first is `top` and the low byte is `low`
abbrev pub jump_row : ℕ → Jump → ℕ → Row
jump_row top (jump.Field f) low = record { top = top; third = field_code f; second = 0; low = low }
jump_row top (jump.Word n) low = record { top = top + 1; third = n / 256; second = n % 256; low = low }

abbrev pub transfer_row : ℕ → Transfer → Row
transfer_row top t = record { top = top; third = device_number t.bank; second = t.first; low = t.count }

-- A memory word has the length less 1 in three places: bit 6 in bit 27, bits 5 to 3 in bits 15 to 13 and bits 2 to 0 in
-- bits 7 to 5.
abbrev pub access_row : ℕ → Access → Row
access_row number a =
    let k = a.len - 1 in
    record {
      top = 16 * number + 8 * (k / 64) + 2 * a.byte + io a.offset;
      third = operand_code a.offset;
      second = 32 * (k / 8 % 8) + base_number a.base;
      low = 32 * (k % 8) + a.first;
    }

-- bits 31 to 24, 23 to 16, 15 to 8 and 7 to 0 of each instruction
abbrev pub row : Inst → Row
row (Alu op d a b) = record { top = 2 * op_number op + io b; third = operand_code b; second = field_code a; low = field_code d }
row (Not d a) = record { top = 0x16; third = 0; second = field_code a; low = field_code d }
row (Jmp to) = jump_row 0x20 to 0
row (Jal d to) = jump_row 0x22 to (field_code d)
row (Ldi d n) = record { top = 0x24; third = n / 256; second = n % 256; low = field_code d }
row (Lmbd d a b) = record { top = 0x26 + io b; third = operand_code b; second = field_code a; low = field_code d }
row Halt = record { top = 0x2A; third = 0; second = 0; low = 0 }
row (Xin moved) = transfer_row 0x2E moved
row (Xout moved) = transfer_row 0x2F moved
row (Loop body) = record { top = 0x31; third = body.count - 1; second = body.length; low = 0 }
row (Branch condition offset a b) = record {
  top = 8 * condition_number condition + 2 * (offset_bits offset / 256) + io b;
  third = operand_code b;
  second = field_code a;
  low = offset_bits offset % 256;
}
row (Qba offset) = record { top = 8 * 0b01111 + 2 * (offset_bits offset / 256) + 1; third = 0; second = 0; low = offset_bits offset % 256 }
row (Load access) = access_row (load_number access.base) access
row (Store access) = access_row (store_number access.base) access

-- the word with these four bytes
abbrev pub joined : Row → ℕ
joined r = r.top * 2 ^ 24 + r.third * 2 ^ 16 + r.second * 2 ^ 8 + r.low

unfoldable pub word_of : Inst → ℕ
word_of i = joined (row i)

-- ---- what a variable for an instruction may be in a law

abbrev pub OperandFits : Operand → Type 0
OperandFits (operand.Field f) = Unit {0}
OperandFits (operand.Imm n) = n < 2 ^ 8

abbrev pub JumpFits : Jump → Type 0
JumpFits (jump.Field f) = Unit {0}
JumpFits (jump.Word n) = n < 2 ^ 16

-- The numbers of 8 and 16 bits in an instruction fit their types. In the code each instruction is such.
abbrev pub Fits : Inst → Type 0
Fits (Alu op d a b) = OperandFits b
Fits (Not d a) = Unit {0}
Fits (Jmp to) = JumpFits to
Fits (Jal d to) = JumpFits to
Fits (Ldi d n) = n < 2 ^ 16
Fits (Lmbd d a b) = OperandFits b
Fits Halt = Unit {0}
Fits (Xin moved) = Unit {0}
Fits (Xout moved) = Unit {0}
Fits (Loop body) = Unit {0}
Fits (Branch condition offset a b) = OperandFits b
Fits (Qba offset) = Unit {0}
Fits (Load access) = OperandFits access.offset
Fits (Store access) = OperandFits access.offset
