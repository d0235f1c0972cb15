-- What a line of assembly text says, whatever its numbers are.
use Rattle.std.specs.Prelude.{ℕ, ◌^◌, Bool, true, ◌&&◌, nat_lt, is_some, Option, Some, None, List}
use Rattle.std.specs.Borrow.{Bor}
use Rattle.isa.specs.declared.inst.Inst.{Inst}
use Rattle.isa.specs.declared.note.NoteKind.{NoteKind}
use Rattle.isa.specs.Note.{value_fits}
use Rattle.asmword.specs.declared.form.Form.{Form}
use Rattle.asmword.specs.Instructions.{made}
use Rattle.asmline.specs.declared.line.Line.{Line}
use Rattle.asmline.specs.declared.line.Statement.{Statement}
use Rattle.asmline.specs.declared.line.Statement.TheVariants.{Nothing, Note, Whole, Aimed}

-- nothing, a note on the next word, or a word, which may go to the label of a name
pub data Saying : Type 0 where
  nothing : Saying
  note : NoteKind → ℕ → Saying
  whole : Form → Saying
  aimed : Form → List ℕ → Saying

-- the name of the label that stands on the line, where one does, and what stands behind it
pub record Said : Type 0 where
  pub label : Option (List ℕ)
  pub saying : Saying

-- ---- as the code has it

abbrev pub name_of : Option (Bor (List ℕ)) → Option (List ℕ)
name_of None = None
name_of (Some name) = Some name.now

abbrev pub saying_of : Statement → Saying
saying_of Nothing = nothing
saying_of (Note kind value) = note kind value
saying_of (Whole form) = whole form
saying_of (Aimed form name) = aimed form name.now

abbrev pub said_by : Line → Said
said_by line = record { label = name_of line.label; saying = saying_of line.statement }

-- ---- ranges

-- every number and register is in its range
abbrev pub saying_fits : Saying → Bool
saying_fits nothing = true
saying_fits (note kind value) = nat_lt value (2 ^ 32) && value_fits kind value
saying_fits (whole form) = is_some (made form.mnemonic form.operands)
saying_fits (aimed form name) = is_some (made form.mnemonic form.operands)
