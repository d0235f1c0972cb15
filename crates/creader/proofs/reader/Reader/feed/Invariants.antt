use Rattle.std.proofs.Common.{◌≡◌}
use Rattle.creader.specs.Reader.{held, Moves}
use Rattle.creader.proofs.Reading.Weight.{weigh}
use Rattle.creader.proofs.reader.Reader.feed.Given as goal

-- the steps so far took no token
abbrev pub invariant-steps : goal.invariant-steps
invariant-steps l = record { moves : Moves l.kind (held l.fn.self) (held l.self); place : l.self.place ≡ l.fn.self.place }

abbrev pub decreases-steps : goal.decreases-steps
decreases-steps l = weigh l.self.symbols
