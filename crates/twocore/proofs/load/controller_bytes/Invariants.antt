use Rattle.std.proofs.Common.{◌≡◌}
use Rattle.twocore.specs.Word.{filled}
use Rattle.twocore.proofs.ControllerLemmas.{words}
use Rattle.twocore.proofs.load.controller_bytes.Given as goal

-- so many registers are read
abbrev pub invariant-loop-k : goal.invariant-loop-k
invariant-loop-k l = l.bytes ≡ filled 124 (words l.intc l.at l.k)
