use Rattle.std.proofs.Common.{◌≡◌, ◌-◌, ◌+◌, ◌*◌, length}
use Rattle.restable.specs.Reading.{entries_at}
use Rattle.restable.proofs.LoopLaws.{with_front}
use Rattle.restable.proofs.reading.read_entries.Given as goal

abbrev pub invariant-entries : goal.invariant-entries
invariant-entries l = record {
  told : with_front l.traces.items (entries_at (l.count - l.counter) l.at l.rest) ≡ entries_at l.count l.first l.bytes;
  at : l.at ≡ l.first + 48 * l.counter;
  len : length l.rest + 48 * l.counter ≡ length l.bytes;
}
