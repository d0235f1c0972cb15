use Rattle.std.specs.Prelude.{All}
use Rattle.std.proofs.Common.{◌≡◌, ◌+◌, ◌≤◌, length}
use Rattle.cparse.proofs.Pass.{passed, walked, at_end}
use Rattle.cparse.proofs.levels.first_deep.Given as goal

-- Going on from here leads where it leads from the end, and a level is no more than the number of entries that are done.
abbrev pub invariant-loop-entry : goal.invariant-loop-entry
invariant-loop-entry l = record {
  kept : walked l.left (passed l.levels.items l.found) ≡ walked l.entries at_end;
  within : length l.left ≤ length l.entries;
  bound : All (λ level. level + length l.left ≤ length l.entries) l.levels.items;
}

abbrev pub decreases-loop-entry : goal.decreases-loop-entry
decreases-loop-entry l = length l.left
