-- An instruction is made of what it is written with.
use Rattle.std.proofs.Common.{◌∙◌, sym, ap}
use Rattle.asmword.specs.Instructions.{made}
use Rattle.asmword.proofs.Again.{made_again}
use Rattle.asmword.proofs.make.instruction.Goals as goal

pub returns-clause-only : goal.returns-clause-only
returns-clause-only c = λ i fits least e.
    c.make.ensures.value ∙ ap (λ f. made f.mnemonic f.operands) (sym e) ∙ made_again i fits least
