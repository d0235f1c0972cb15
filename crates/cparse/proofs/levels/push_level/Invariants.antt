use Rattle.std.proofs.Common.{◌≡◌, ◌++◌, replicate}
use Rattle.cparse.proofs.levels.push_level.Given as goal

-- as many have been put there
abbrev pub invariant-loop-part : goal.invariant-loop-part
invariant-loop-part l = l.levels.items ≡ l.initial.levels.items ++ replicate l._part l.level
