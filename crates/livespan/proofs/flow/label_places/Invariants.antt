use Rattle.std.proofs.Common.{◌≡◌, ℕ, ◌+◌, ◌<◌, ◌≤◌, length, get_or, drop}
use Rattle.midcode.specs.Meaning.{standing_at}
use Rattle.livespan.proofs.flow.label_places.Given as goal

abbrev pub invariant-loop-place : goal.invariant-loop-place
invariant-loop-place l = record {
  within : l.place ≤ length l.kinds;
  len : length l.places.items ≡ l.labels;
  at : (m : ℕ) → m < l.labels → get_or l.places.items m 0 ≡ l.place + standing_at (drop l.place l.kinds) m;
}

abbrev pub decreases-loop-place : goal.decreases-loop-place
decreases-loop-place l = l.place
