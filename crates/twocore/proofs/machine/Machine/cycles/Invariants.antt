use Rattle.std.proofs.Common.{◌≡◌, ◌+◌, ◌-◌, ◌*◌, ◌≤◌}
use Rattle.twocore.specs.Machine.{cycles}
use Rattle.twocore.proofs.machine.Machine.cycles.Given as goal

-- so many cycles are done, and there is room for the rest
abbrev pub invariant-loop-left : goal.invariant-loop-left
invariant-loop-left l = record {
  most : l.left ≤ l.n;
  machine : l.self.machine ≡ cycles (l.n - l.left) l.initial.self.machine;
  done : l.self.machine.done + l.left ≡ l.initial.self.machine.done + l.n;
  room : 36 * l.left ≤ l.self.room;
}

abbrev pub decreases-loop-left : goal.decreases-loop-left
decreases-loop-left l = l.left
