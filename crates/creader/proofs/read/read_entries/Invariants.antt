use Rattle.std.proofs.Common.{◌≡◌, drop}
use Rattle.creader.specs.Machine.{start}
use Rattle.creader.specs.Reader.{held}
use Rattle.creader.proofs.Reading.Run.{Run}
use Rattle.creader.proofs.read.read_entries.Given as goal

-- the machine has come as far, and the tokens from here on are left
abbrev pub invariant-loop-place : goal.invariant-loop-place
invariant-loop-place l = record { run : Run (start l.tokens) (held l.reader) (drop l.place l.tokens); place : l.reader.place ≡ l.place }
