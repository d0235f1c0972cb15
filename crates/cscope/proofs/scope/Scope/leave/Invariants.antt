use Rattle.std.proofs.Common.{◌≡◌, length}
use Rattle.cscope.specs.Scope.{left}
use Rattle.cscope.proofs.scope.Scope.leave.Given as goal

-- what is left of the declarations so far is what is left of all
abbrev pub invariant-loop-entry : goal.invariant-loop-entry
invariant-loop-entry l = (left l.depth l.self.entries ≡ left l.depth l.initial.self.entries) × (l.self.names ≡ l.initial.self.names)

abbrev pub decreases-loop-entry : goal.decreases-loop-entry
decreases-loop-entry l = length l.self.entries
