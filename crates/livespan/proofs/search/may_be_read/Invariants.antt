use Rattle.std.proofs.Common.{◌≡◌, ◌+◌, length}
use Rattle.livespan.specs.Marks.{AreSound, unmarked}
use Rattle.livespan.proofs.search.may_be_read.Given as goal

abbrev pub invariant-sweeps : goal.invariant-sweeps
invariant-sweeps l = record {
  len : l.turn.first + length l.marks.items ≡ l.turn.last + 1;
  sound : AreSound l.kinds l.turn.first l.turn.last l.v l.marks.items;
}

abbrev pub decreases-sweeps : goal.decreases-sweeps
decreases-sweeps l = unmarked l.marks.items
