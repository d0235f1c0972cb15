-- What is made of a mnemonic with operands is written so, and its label's word is the least.
use Rattle.std.specs.Prelude.{◌≡◌, ◌||◌, Bool, not, IsTrue}
use Rattle.isa.specs.declared.inst.Inst.{Inst}
use Rattle.isa.specs.Program.{has_target, is_least}
use Rattle.asmword.specs.declared.form.Operands.{Operands}
use Rattle.asmword.specs.declared.mnemonic.Mnemonic.{Mnemonic}
use Rattle.asmword.specs.Forms.{written}

-- In place of the word that it goes to, where it goes to one, stands the least number of the type.
abbrev pub stands_least : Inst → Bool
stands_least i = not (has_target i) || is_least i

pub record Is (mnemonic : Mnemonic) (operands : Operands) (i : Inst) : Type 0 where
  pub form : written i ≡ record { mnemonic = mnemonic; operands = operands }
  pub least : IsTrue (stands_least i)
