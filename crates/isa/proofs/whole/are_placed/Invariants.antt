-- The items behind those that are left are placed, and the set has their labels.
use Rattle.std.proofs.Common.{List, length}
use Rattle.isa.specs.declared.program.Item.{Item}
use Rattle.isa.proofs.Judged.{IsPlacedBehind}
use Rattle.isa.proofs.whole.are_placed.Given as goal

abbrev pub invariant-loop-item : goal.invariant-loop-item
invariant-loop-item l = (done : List Item) × IsPlacedBehind l.fn.items l.rest done l.all.keys

abbrev pub decreases-loop-item : goal.decreases-loop-item
decreases-loop-item l = length l.rest
