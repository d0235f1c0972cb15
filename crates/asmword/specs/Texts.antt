-- How an instruction is printed.
use Rattle.std.specs.Prelude.{ℕ, List, [], ◌++◌, codes}
use Rattle.std.specs.Fmt.{decimal}
use Rattle.isa.specs.declared.field.Part.{Part}
use Rattle.isa.specs.declared.field.Part.TheVariants.{B0, B1, B2, B3, W0, W1, W2, All}
use Rattle.asmword.specs.declared.form.Form.{Form}
use Rattle.asmword.specs.declared.form.Operands.{Operands}
use Rattle.asmword.specs.declared.form.Operands.TheVariants.{Nothing, One, Two, Three, Four}
use Rattle.asmword.specs.declared.form.Word.{Word}
use Rattle.asmword.specs.declared.form.Word.TheVariants.{Field, Number, Constant, Label}
use Rattle.asmword.specs.Mnemonics.{mnemonic_name}

abbrev pub part_name : Part → List ℕ
part_name B0 = codes "b0"
part_name B1 = codes "b1"
part_name B2 = codes "b2"
part_name B3 = codes "b3"
part_name W0 = codes "w0"
part_name W1 = codes "w1"
part_name W2 = codes "w2"
part_name All = []

abbrev pub field_text : ℕ → Part → List ℕ
field_text register All = codes "R" ++ decimal register
field_text register part = codes "R" ++ (decimal register ++ (codes "." ++ part_name part))

-- a word, where the label's number is this
abbrev pub word_text : ℕ → Word → List ℕ
word_text label (Field register part) = field_text register part
word_text label (Number n) = decimal n
word_text label (Constant n) = codes "C" ++ decimal n
word_text label Label = codes "L" ++ decimal label

-- a space behind the mnemonic, and a comma and a space between operands
abbrev pub operands_text : ℕ → Operands → List ℕ
operands_text label Nothing = []
operands_text label (One a) = codes " " ++ word_text label a
operands_text label (Two a b) = codes " " ++ (word_text label a ++ (codes ", " ++ word_text label b))
operands_text label (Three a b c) =
    codes " " ++ (word_text label a ++ (codes ", " ++ (word_text label b ++ (codes ", " ++ word_text label c))))
operands_text label (Four a b c d) = codes " " ++ (word_text label a ++ (codes ", "
    ++ (word_text label b ++ (codes ", " ++ (word_text label c ++ (codes ", " ++ word_text label d))))))

abbrev pub form_text : ℕ → Form → List ℕ
form_text label form = mnemonic_name form.mnemonic ++ operands_text label form.operands
