use Rattle.std.proofs.Common.{◌≤◌, length, drop}
use Rattle.cpre.specs.Closing.{Counts}
use Rattle.cpre.proofs.source.first_unclosed.Given as goal

abbrev pub invariant-loop-place : goal.invariant-loop-place
invariant-loop-place l = record {
  counts : Counts l.known (drop l.place l.tokens);
  within : l.place ≤ length l.tokens;
}

abbrev pub decreases-loop-place : goal.decreases-loop-place
decreases-loop-place l = l.place
