use Rattle.std.proofs.Common.{◌≡◌, ◌+◌, List, ℕ, length, ◌++◌}
use Rattle.textline.specs.Lines.{lines_of}
use Rattle.hostscript.specs.declared.line.Saying.{Saying}
use Rattle.hostscript.specs.Scripts.{AreGood}
use Rattle.hostscript.specs.Drafts.{Holds}
use Rattle.hostscript.proofs.reading.read_draft.Given as goal

abbrev pub invariant-lines : goal.invariant-lines
invariant-lines l = record {
  before : List (List ℕ);
  lines : lines_of l.fn.bytes ≡ before ++ lines_of l.lines.text;
  number : l.lines.number ≡ length before + 1;
  said : List Saying;
  good : AreGood before said;
  holds : Holds l.draft said;
}

abbrev pub decreases-lines : goal.decreases-lines
decreases-lines l = length l.lines.text
