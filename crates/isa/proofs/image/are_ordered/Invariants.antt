-- What is left to compare decides.
use Rattle.std.proofs.Common.{length}
use Rattle.std.specs.Prelude.{◌↔◌}
use Rattle.isa.specs.Note.{AreOrdered}
use Rattle.isa.proofs.image.are_ordered.Given as goal

abbrev pub decreases-loop-rest : goal.decreases-loop-rest
decreases-loop-rest l = length l.rest

abbrev pub invariant-loop-rest : goal.invariant-loop-rest
invariant-loop-rest l = AreOrdered l.rest ↔ AreOrdered l.fn.notes
