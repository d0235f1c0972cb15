use Rattle.std.proofs.Common.{◌≡◌, List, ◌++◌, length, ℕ}
use Rattle.std.specs.Io.KnownBytes.{Appends}
use Rattle.fileset.proofs.transfer.write_whole.Given as goal

-- the front that is written, and the rest
abbrev pub invariant-loop-rest : goal.invariant-loop-rest
invariant-loop-rest g l = (front : List ℕ) × (front ++ l.rest ≡ l.fn.bytes)
    × Appends (g.W.Write.contents l.fn.writer) (g.W.Write.contents l.writer) front

abbrev pub decreases-loop-rest : goal.decreases-loop-rest
decreases-loop-rest g l = length l.rest
