use Rattle.std.proofs.Common.{length}
use Rattle.midcode.specs.Function.{kinds}
use Rattle.midopt.specs.Better.{IsBetterFunction}
use Rattle.midopt.specs.Tidy.{IsFolded}
use Rattle.midopt.proofs.idle.remove_idle.Given as goal

abbrev pub invariant-loop-marks : goal.invariant-loop-marks
invariant-loop-marks l = record {
  better : IsBetterFunction l.fn.f l.f;
  folded : IsFolded (kinds l.fn.f) → IsFolded (kinds l.f);
}

abbrev pub decreases-loop-marks : goal.decreases-loop-marks
decreases-loop-marks l = length l.f.nodes
