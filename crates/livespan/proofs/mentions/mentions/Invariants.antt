use Rattle.std.proofs.Common.{◌≡◌, length}
use Rattle.livespan.specs.Live.{AreHulls, Known}
use Rattle.livespan.proofs.mentions.mentions.Given as goal

abbrev pub invariant-loop-place : goal.invariant-loop-place
invariant-loop-place l = record {
  len : length l.hulls.items ≡ l.registers;
  hulls : AreHulls (Known l.kinds l.params l.place) l.hulls.items;
}
