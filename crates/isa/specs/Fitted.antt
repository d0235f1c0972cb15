-- What is made of an assembly program.
use Rattle.std.specs.Prelude.{ℕ, List}
use Rattle.isa.specs.declared.note.Note.{Note}
use Rattle.isa.specs.declared.program.Line.{Line}
use Rattle.isa.specs.declared.program.Ref.{Ref}

pub record Fitted : Type 0 where
  pub words : List ℕ
  pub notes : List Note
  pub refs : List Ref
  pub lines : List Line
