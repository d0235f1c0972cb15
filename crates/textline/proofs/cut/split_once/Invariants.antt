use Rattle.std.proofs.Common.{take}
use Rattle.textline.specs.Lines.{Lacks}
use Rattle.textline.proofs.cut.split_once.Given as goal

abbrev pub invariant-loop-place : goal.invariant-loop-place
invariant-loop-place l = Lacks l.byte (take l.place l.text)
