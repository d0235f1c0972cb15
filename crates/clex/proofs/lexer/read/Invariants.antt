use Rattle.std.proofs.Common.{◌+◌, ◌≤◌, length}
use Rattle.clex.proofs.Loop.{SoFar}
use Rattle.clex.proofs.lexer.read.Given as goal

abbrev pub invariant-loop-rest : goal.invariant-loop-rest
invariant-loop-rest l = record {
  so_far : SoFar l.bytes l.rest l.place l.tokens.items;
  lines : l.place.span.line + length l.rest ≤ 1 + length l.bytes;
  columns : l.place.span.column + length l.rest ≤ 1 + length l.bytes;
}

abbrev pub decreases-loop-rest : goal.decreases-loop-rest
decreases-loop-rest l = length l.rest
