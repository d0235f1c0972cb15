use Rattle.std.proofs.Common.{◌≡◌, ◌+◌, ◌≤◌, ◌-◌, false, length}
use Rattle.std.specs.Bool.{OnFalse}
use Rattle.livespan.specs.Marks.{AreSound, AreClosedFrom, MarksMore}
use Rattle.livespan.proofs.search.sweep.Given as goal

abbrev pub invariant-loop-place : goal.invariant-loop-place
invariant-loop-place l = record {
  within : l.turn.first ≤ l.place;
  short : l.place ≤ l.turn.last + 1;
  len : length l.marks ≡ length l.initial.marks;
  sound : AreSound l.kinds l.turn.first l.turn.last l.v l.initial.marks → AreSound l.kinds l.turn.first l.turn.last l.v l.marks;
  more : MarksMore false l.changed l.initial.marks l.marks;
  closed : OnFalse l.changed (AreClosedFrom l.kinds l.turn.first l.turn.last l.v l.place l.marks);
}

abbrev pub decreases-loop-place : goal.decreases-loop-place
decreases-loop-place l = l.place - l.turn.first
