-- The mnemonic and the operands that an instruction is written with.
use Rattle.std.specs.Prelude.{ℕ, ◌==◌, if◌then◌else◌}
use Rattle.isa.specs.declared.access.Access.{Access}
use Rattle.isa.specs.declared.access.Base.{Base}
use Rattle.isa.specs.declared.access.Base.TheVariants as base
use Rattle.isa.specs.declared.control.Jump.{Jump}
use Rattle.isa.specs.declared.control.Jump.TheVariants as jump
use Rattle.isa.specs.declared.field.Field.{Field}
use Rattle.isa.specs.declared.field.Operand.{Operand}
use Rattle.isa.specs.declared.field.Operand.TheVariants as operand
use Rattle.isa.specs.declared.field.Part.{Part}
use Rattle.isa.specs.declared.field.Part.TheVariants.{B1, B2, B3, All}
use Rattle.isa.specs.declared.inst.Inst.{Inst}
use Rattle.isa.specs.declared.inst.Inst.TheVariants.{Alu, Not, Jmp, Jal, Ldi, Lmbd, Halt, Xin, Xout, Loop, Branch, Qba, Load, Store}
use Rattle.isa.specs.declared.transfer.Transfer.{Transfer}
use Rattle.isa.specs.Row.{constant_number, device_number}
use Rattle.asmword.specs.declared.form.Form.{Form}
use Rattle.asmword.specs.declared.form.Operands.TheVariants.{Nothing, One, Two, Three, Four}
use Rattle.asmword.specs.declared.form.Word.{Word}
use Rattle.asmword.specs.declared.form.Word.TheVariants as word
use Rattle.asmword.specs.declared.mnemonic.Mnemonic.{Mnemonic}
use Rattle.asmword.specs.declared.mnemonic.Mnemonic.TheVariants as mnemonic

abbrev pub field_word : Field → Word
field_word f = word.Field f.reg f.part

abbrev pub value_word : Operand → Word
value_word (operand.Field f) = field_word f
value_word (operand.Imm n) = word.Number n

-- a label, where it goes to a numbered word
abbrev pub jump_word : Jump → Word
jump_word (jump.Field f) = field_word f
jump_word (jump.Word n) = word.Label

abbrev pub base_word : Base → Word
base_word (base.Reg n) = word.Field n All
base_word (base.Constant c) = word.Constant (constant_number c)

-- byte 0 of a register has the register's own name
abbrev pub byte_part : ℕ → Part
byte_part k = if k == 0 then All else (if k == 1 then B1 else (if k == 2 then B2 else B3))

abbrev pub transfer_form : Mnemonic → Transfer → Form
transfer_form m t = record {
  mnemonic = m;
  operands = Three (word.Number (device_number t.bank)) (word.Field t.first All) (word.Number t.count);
}

-- one mnemonic where the address is counted from a register, and another where it is from a constant
abbrev pub base_mnemonic : Mnemonic → Mnemonic → Base → Mnemonic
base_mnemonic register constant (base.Reg n) = register
base_mnemonic register constant (base.Constant c) = constant

abbrev pub access_form : Mnemonic → Mnemonic → Access → Form
access_form register constant a = record {
  mnemonic = base_mnemonic register constant a.base;
  operands = Four (word.Field a.first (byte_part a.byte)) (base_word a.base) (value_word a.offset) (word.Number a.len);
}

abbrev pub written : Inst → Form
written (Alu op d a b) = record { mnemonic = mnemonic.Alu op; operands = Three (field_word d) (field_word a) (value_word b) }
written (Not d a) = record { mnemonic = mnemonic.Not; operands = Two (field_word d) (field_word a) }
written (Jmp to) = record { mnemonic = mnemonic.Jmp; operands = One (jump_word to) }
written (Jal d to) = record { mnemonic = mnemonic.Jal; operands = Two (field_word d) (jump_word to) }
written (Ldi d n) = record { mnemonic = mnemonic.Ldi; operands = Two (field_word d) (word.Number n) }
written (Lmbd d a b) = record { mnemonic = mnemonic.Lmbd; operands = Three (field_word d) (field_word a) (value_word b) }
written Halt = record { mnemonic = mnemonic.Halt; operands = Nothing }
written (Xin moved) = transfer_form mnemonic.Xin moved
written (Xout moved) = transfer_form mnemonic.Xout moved
written (Loop body) = record { mnemonic = mnemonic.Loop; operands = Two word.Label (word.Number body.count) }
written (Branch condition offset a b) = record {
  mnemonic = mnemonic.Branch condition;
  operands = Three word.Label (field_word a) (value_word b);
}
written (Qba offset) = record { mnemonic = mnemonic.Qba; operands = One word.Label }
written (Load access) = access_form mnemonic.Lbbo mnemonic.Lbco access
written (Store access) = access_form mnemonic.Sbbo mnemonic.Sbco access
