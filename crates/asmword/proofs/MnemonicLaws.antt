-- Each mnemonic's name is read as that mnemonic, in the table.
use Rattle.std.proofs.Common.{◌≡◌, refl, lit<, Some}
use Rattle.isa.specs.declared.control.Condition.{Condition}
use Rattle.isa.specs.declared.control.Condition.TheVariants.{Lt, Eq, Le, Gt, Ne, Ge, BitClear, BitSet}
use Rattle.isa.specs.declared.inst.AluOp.{AluOp}
use Rattle.isa.specs.declared.inst.AluOp.TheVariants.{Add, Sub, Lsl, Lsr, Rsb, And, Or, Xor, Min, Max, Clr, Set}
use Rattle.asmword.specs.declared.mnemonic.Mnemonic.{Mnemonic}
use Rattle.asmword.specs.declared.mnemonic.Mnemonic.TheVariants.{Alu, Not, Jmp, Jal, Ldi, Lmbd, Halt, Xin, Xout, Loop, Branch}
use Rattle.asmword.specs.declared.mnemonic.Mnemonic.TheVariants.{Qba, Lbbo, Lbco, Sbbo, Sbco}
use Rattle.asmword.specs.Mnemonics.{mnemonic_name}
use Rattle.asmword.specs.Reading.{is_named, named_among, mnemonic_in}
use Rattle.asmword.proofs.WordLaws.{Good}

abbrev pub Named : Mnemonic → Type 0
Named m = Good (mnemonic_name m) × (mnemonic_in (mnemonic_name m) ≡ Some m)

alu_named : (op : AluOp) → Named (Alu op)
unfolding mnemonic_in named_among is_named
alu_named Add = ((refl, lit< tt), refl)
alu_named Sub = ((refl, lit< tt), refl)
alu_named Lsl = ((refl, lit< tt), refl)
alu_named Lsr = ((refl, lit< tt), refl)
alu_named Rsb = ((refl, lit< tt), refl)
alu_named And = ((refl, lit< tt), refl)
alu_named Or = ((refl, lit< tt), refl)
alu_named Xor = ((refl, lit< tt), refl)
alu_named Min = ((refl, lit< tt), refl)
alu_named Max = ((refl, lit< tt), refl)
alu_named Clr = ((refl, lit< tt), refl)
alu_named Set = ((refl, lit< tt), refl)

branch_named : (condition : Condition) → Named (Branch condition)
unfolding mnemonic_in named_among is_named
branch_named Lt = ((refl, lit< tt), refl)
branch_named Eq = ((refl, lit< tt), refl)
branch_named Le = ((refl, lit< tt), refl)
branch_named Gt = ((refl, lit< tt), refl)
branch_named Ne = ((refl, lit< tt), refl)
branch_named Ge = ((refl, lit< tt), refl)
branch_named BitClear = ((refl, lit< tt), refl)
branch_named BitSet = ((refl, lit< tt), refl)

pub named : (m : Mnemonic) → Named m
unfolding mnemonic_in named_among is_named
named (Alu op) = alu_named op
named (Branch condition) = branch_named condition
named Not = ((refl, lit< tt), refl)
named Jmp = ((refl, lit< tt), refl)
named Jal = ((refl, lit< tt), refl)
named Ldi = ((refl, lit< tt), refl)
named Lmbd = ((refl, lit< tt), refl)
named Halt = ((refl, lit< tt), refl)
named Xin = ((refl, lit< tt), refl)
named Xout = ((refl, lit< tt), refl)
named Loop = ((refl, lit< tt), refl)
named Qba = ((refl, lit< tt), refl)
named Lbbo = ((refl, lit< tt), refl)
named Lbco = ((refl, lit< tt), refl)
named Sbbo = ((refl, lit< tt), refl)
named Sbco = ((refl, lit< tt), refl)
