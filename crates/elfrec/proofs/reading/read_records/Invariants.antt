use Rattle.std.proofs.Common.{◌≡◌, ◌-◌}
use Rattle.elfrec.specs.Record.{records_at}
use Rattle.elfrec.proofs.Loop.{with_front}
use Rattle.elfrec.proofs.reading.read_records.Given as goal

-- the records so far and those to come are those of the whole
abbrev pub invariant-loop : goal.invariant-loop
invariant-loop g l = with_front l.records.items (records_at g.R.Record.format (l.count - l.counter) l.next l.bytes)
    ≡ records_at g.R.Record.format l.count l.at l.bytes
