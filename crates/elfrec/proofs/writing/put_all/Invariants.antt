use Rattle.std.proofs.Common.{take}
use Rattle.elfrec.proofs.Placing.{ArePut}
use Rattle.elfrec.proofs.writing.put_all.Given as goal

abbrev pub invariant-loop-part : goal.invariant-loop-part
invariant-loop-part l = ArePut (take l.part-index l.parts) l.file
