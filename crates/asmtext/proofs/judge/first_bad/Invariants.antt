-- The kinds of the notes that wait, and no bad line up to here.
use Rattle.std.proofs.Common.{◌≡◌, take}
use Rattle.asmtext.specs.Held.{all_told}
use Rattle.asmtext.specs.Notes.{kinds_behind}
use Rattle.asmtext.specs.Causes.{AreGood}
use Rattle.asmtext.proofs.judge.first_bad.Given as goal

abbrev pub invariant-loop-number : goal.invariant-loop-number
invariant-loop-number l =
    (l.kinds.items ≡ kinds_behind (take l.number (all_told l.fn.lines))) × AreGood l.number (all_told l.fn.lines)
