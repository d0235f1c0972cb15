-- What holds of each line that was read: what is made of its word is written so, and its operands have a label exactly where it is
-- told to go to one.
use Rattle.std.specs.Prelude.{◌≡◌, Bool, true, false, IsTrue, Option, Some, None}
use Rattle.isa.specs.declared.inst.Inst.{Inst}
use Rattle.asmword.specs.declared.form.Form.{Form}
use Rattle.asmword.specs.Forms.{written}
use Rattle.asmword.specs.Instructions.{made}
use Rattle.asmword.specs.Labels.{has_label}
use Rattle.asmword.specs.Made.{stands_least}
use Rattle.asmline.specs.Said.{Saying, nothing, note, whole, aimed, Said}

abbrev pub IsMadeOf : Form → Type 0
IsMadeOf form = (i : Inst) → made form.mnemonic form.operands ≡ Some i → (written i ≡ form) × IsTrue (stands_least i)

abbrev pub IsMadeSaying : Saying → Type 0
IsMadeSaying nothing = Unit {0}
IsMadeSaying (note kind value) = Unit {0}
IsMadeSaying (whole form) = IsMadeOf form
IsMadeSaying (aimed form name) = IsMadeOf form

abbrev pub IsMade : Option Said → Type 0
IsMade None = Unit {0}
IsMade (Some said) = IsMadeSaying said.saying

abbrev pub IsLabelledSaying : Saying → Type 0
IsLabelledSaying nothing = Unit {0}
IsLabelledSaying (note kind value) = Unit {0}
IsLabelledSaying (whole form) = has_label form.operands ≡ false
IsLabelledSaying (aimed form name) = has_label form.operands ≡ true

abbrev pub IsLabelled : Option Said → Type 0
IsLabelled None = Unit {0}
IsLabelled (Some said) = IsLabelledSaying said.saying
