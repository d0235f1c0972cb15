-- How lines are printed: a label alone, a note, or an instruction.
use Rattle.std.specs.Prelude.{ℕ, List, ◌++◌, codes}
use Rattle.std.specs.Fmt.{decimal}
use Rattle.isa.specs.declared.inst.Inst.{Inst}
use Rattle.asmword.specs.Forms.{written}
use Rattle.asmword.specs.Texts.{form_text}
use Rattle.asmline.specs.declared.print.PrintedLine.{PrintedLine}
use Rattle.asmline.specs.declared.print.PrintedLine.TheVariants.{Label, Note, Word}
use Rattle.asmline.specs.Lines.{kind_name}

-- the name of the label with this number
abbrev pub label_name : ℕ → List ℕ
label_name n = codes "L" ++ decimal n

abbrev pub line_text : PrintedLine → List ℕ
line_text (Label n) = label_name n ++ codes ":"
line_text (Note kind value) = codes ".note " ++ (kind_name kind ++ (codes " " ++ decimal value))
line_text (Word printed) = form_text printed.label printed.form

-- an instruction's line, where the label that it goes to has this number
abbrev pub word_text : ℕ → Inst → List ℕ
word_text n i = line_text (Word (record { form = written i; label = n }))
