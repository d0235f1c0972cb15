use Rattle.std.proofs.Common.{◌≡◌, ℕ, ◌<◌, length, Some, slice_get}
use Rattle.midcode.specs.declared.op.OpKind.{OpKind}
use Rattle.midcode.specs.Operation.{target_of}
use Rattle.subreg.specs.Span.{Stands}
use Rattle.livespan.specs.Live.{goal_at}
use Rattle.livespan.proofs.flow.goals.Given as goal

abbrev pub invariant-loop-place : goal.invariant-loop-place
invariant-loop-place l = record {
  len : length l.goals.items ≡ l.place;
  goes : (p : ℕ) (k : OpKind) → p < l.place → Stands l.kinds p k
      → slice_get l.goals.items p ≡ Some (goal_at l.kinds (target_of k));
}
