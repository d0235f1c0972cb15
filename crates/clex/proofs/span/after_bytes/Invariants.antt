use Rattle.std.proofs.Common.{◌≡◌, ◌+◌, ◌≤◌, length}
use Rattle.clex.specs.Span.{after_bytes}
use Rattle.clex.proofs.span.after_bytes.Given as goal

abbrev pub invariant-loop-rest : goal.invariant-loop-rest
invariant-loop-rest l = record {
  place : after_bytes (record { line = l.line; column = l.column }) l.rest ≡ after_bytes l.fn.span l.fn.bytes;
  lines : l.line + length l.rest ≤ l.fn.span.line + length l.fn.bytes;
  columns : l.column + length l.rest ≤ l.fn.span.column + length l.fn.bytes;
}

abbrev pub decreases-loop-rest : goal.decreases-loop-rest
decreases-loop-rest l = length l.rest
