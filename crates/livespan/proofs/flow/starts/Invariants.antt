use Rattle.std.proofs.Common.{◌≡◌, ℕ, length, Some, slice_get}
use Rattle.livespan.specs.Live.{IsPlain}
use Rattle.livespan.proofs.Steps.{IsBare}
use Rattle.livespan.proofs.flow.starts.Given as goal

abbrev pub invariant-loop-place : goal.invariant-loop-place
invariant-loop-place l = record {
  len : length l.starts.items ≡ l.place;
  plain : (n start : ℕ) → slice_get l.starts.items n ≡ Some start → IsPlain l.kinds start n;
  current : IsBare l.kinds l.start l.place;
}
