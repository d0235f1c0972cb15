-- The label that a written instruction refers to.
use Rattle.std.specs.Prelude.{ℕ, Bool, true, false, List, slice_get, Option, Some, None, option_map}
use Rattle.asmword.specs.declared.form.Form.{Form}
use Rattle.asmword.specs.declared.form.Operands.{Operands}
use Rattle.asmword.specs.declared.form.Operands.TheVariants.{One, Two, Three}
use Rattle.asmword.specs.declared.form.Word.TheVariants.{Label}
use Rattle.asmword.specs.Blanks.{behind_blanks, behind_word, operand_parts, trimmed}

-- whether an operand is a label
abbrev pub has_label : Operands → Bool
has_label (One Label) = true
has_label (Two Label b) = true
has_label (Two a Label) = true
has_label (Three Label b c) = true
has_label _ = false

-- the part that stands where the operands have a label
abbrev pub label_among : Operands → List (List ℕ) → Option (List ℕ)
label_among (One Label) parts = slice_get parts 0
label_among (Two Label b) parts = slice_get parts 0
label_among (Two a Label) parts = slice_get parts 1
label_among (Three Label b c) parts = slice_get parts 0
label_among _ parts = None

-- its name, in the text that has this form
unfoldable pub label_in : Form → List ℕ → Option (List ℕ)
label_in form text = option_map trimmed (label_among form.operands (operand_parts (behind_word (behind_blanks text))))
