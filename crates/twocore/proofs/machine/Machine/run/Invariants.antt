use Rattle.std.proofs.Common.{◌≡◌, ◌+◌, ◌-◌, ◌≤◌}
use Rattle.twocore.specs.Machine.{cycles}
use Rattle.twocore.proofs.machine.Machine.run.Given as goal

-- so many cycles are done
abbrev pub invariant-loop-left : goal.invariant-loop-left
invariant-loop-left l = record {
  most : l.left ≤ l.n;
  machine : l.self.machine ≡ cycles (l.n - l.left) l.initial.self.machine;
  done : l.self.machine.done + l.left ≡ l.initial.self.machine.done + l.n;
}

abbrev pub decreases-loop-left : goal.decreases-loop-left
decreases-loop-left l = l.left
