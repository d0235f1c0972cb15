use Rattle.std.proofs.Common.{◌≡◌, length}
use Rattle.clex.specs.Reading as reading
use Rattle.clex.proofs.comment.after_comment.Given as goal

abbrev pub invariant-loop-rest : goal.invariant-loop-rest
invariant-loop-rest l = reading.after_comment l.rest ≡ reading.after_comment l.fn.text

abbrev pub decreases-loop-rest : goal.decreases-loop-rest
decreases-loop-rest l = length l.rest
