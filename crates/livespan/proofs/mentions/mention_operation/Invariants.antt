use Rattle.std.proofs.Common.{◌≡◌, ℕ, length, take}
use Rattle.livespan.specs.Live.{AreHulls, Known}
use Rattle.livespan.proofs.Hulls.{With}
use Rattle.livespan.proofs.mentions.mention_operation.Given as goal

abbrev pub invariant-loop-n : goal.invariant-loop-n
invariant-loop-n l = record {
  len : length l.hulls ≡ length l.initial.hulls;
  hulls : (params : ℕ) → AreHulls (Known l.kinds params l.place) l.initial.hulls
      → AreHulls (With (Known l.kinds params l.place) l.place (take l.n l.read.registers)) l.hulls;
}
