-- The mnemonics as they are printed: SPRUIJ2's words.
use Rattle.std.specs.Prelude.{ℕ, List, codes}
use Rattle.isa.specs.declared.control.Condition.{Condition}
use Rattle.isa.specs.declared.control.Condition.TheVariants.{Lt, Eq, Le, Gt, Ne, Ge, BitClear, BitSet}
use Rattle.isa.specs.declared.inst.AluOp.{AluOp}
use Rattle.isa.specs.declared.inst.AluOp.TheVariants.{Add, Sub, Lsl, Lsr, Rsb, And, Or, Xor, Min, Max, Clr, Set}
use Rattle.asmword.specs.declared.mnemonic.Mnemonic.{Mnemonic}
use Rattle.asmword.specs.declared.mnemonic.Mnemonic.TheVariants.{Alu, Not, Jmp, Jal, Ldi, Lmbd, Halt, Xin, Xout, Loop, Branch}
use Rattle.asmword.specs.declared.mnemonic.Mnemonic.TheVariants.{Qba, Lbbo, Lbco, Sbbo, Sbco}

abbrev pub alu_name : AluOp → List ℕ
alu_name Add = codes "ADD"
alu_name Sub = codes "SUB"
alu_name Lsl = codes "LSL"
alu_name Lsr = codes "LSR"
alu_name Rsb = codes "RSB"
alu_name And = codes "AND"
alu_name Or = codes "OR"
alu_name Xor = codes "XOR"
alu_name Min = codes "MIN"
alu_name Max = codes "MAX"
alu_name Clr = codes "CLR"
alu_name Set = codes "SET"

abbrev pub branch_name : Condition → List ℕ
branch_name Lt = codes "QBLT"
branch_name Eq = codes "QBEQ"
branch_name Le = codes "QBLE"
branch_name Gt = codes "QBGT"
branch_name Ne = codes "QBNE"
branch_name Ge = codes "QBGE"
branch_name BitClear = codes "QBBC"
branch_name BitSet = codes "QBBS"

abbrev pub mnemonic_name : Mnemonic → List ℕ
mnemonic_name (Alu op) = alu_name op
mnemonic_name Not = codes "NOT"
mnemonic_name Jmp = codes "JMP"
mnemonic_name Jal = codes "JAL"
mnemonic_name Ldi = codes "LDI"
mnemonic_name Lmbd = codes "LMBD"
mnemonic_name Halt = codes "HALT"
mnemonic_name Xin = codes "XIN"
mnemonic_name Xout = codes "XOUT"
mnemonic_name Loop = codes "LOOP"
mnemonic_name (Branch condition) = branch_name condition
mnemonic_name Qba = codes "QBA"
mnemonic_name Lbbo = codes "LBBO"
mnemonic_name Lbco = codes "LBCO"
mnemonic_name Sbbo = codes "SBBO"
mnemonic_name Sbco = codes "SBCO"
