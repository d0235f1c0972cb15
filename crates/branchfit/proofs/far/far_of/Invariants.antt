-- All that is in the set is in each closed one.
use Rattle.branchfit.specs.Steps.{near_count}
use Rattle.branchfit.proofs.FarLemmas.{IsReached}
use Rattle.branchfit.proofs.far.far_of.Given as goal

abbrev pub invariant-loop-far : goal.invariant-loop-far
invariant-loop-far l = IsReached l.spots l.far.items

abbrev pub decreases-loop-far : goal.decreases-loop-far
decreases-loop-far l = near_count l.far.items
