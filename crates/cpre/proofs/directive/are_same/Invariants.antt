use Rattle.std.proofs.Common.{◌≡◌, length}
use Rattle.cpre.specs.Directive.{are_same}
use Rattle.cpre.proofs.directive.are_same.Given as goal

abbrev pub invariant-loop-left : goal.invariant-loop-left
invariant-loop-left l = are_same l.left l.right ≡ are_same l.tokens l.others

abbrev pub decreases-loop-left : goal.decreases-loop-left
decreases-loop-left l = length l.left
