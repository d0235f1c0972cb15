use Rattle.std.proofs.Common.{◌≡◌, take}
use Rattle.midopt.specs.Marks.{marked}
use Rattle.midopt.proofs.marks.mark_all.Given as goal

abbrev pub invariant-loop-r : goal.invariant-loop-r
invariant-loop-r l = l.marks ≡ marked (take l.r-index l.r-items) l.fn.marks
