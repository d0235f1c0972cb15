use Rattle.std.proofs.Common.{◌≡◌, ◌-◌, ◌+◌, ◌*◌, length}
use Rattle.restable.specs.Reading.{offsets_at}
use Rattle.restable.proofs.reading.fixed_offsets.Given as goal

abbrev pub invariant-offsets : goal.invariant-offsets
invariant-offsets l = record {
  told : offsets_at (l.count - l.counter) l.value l.at l.rest ≡ offsets_at l.count l.first 16 l.bytes;
  value : l.value ≡ l.first + 48 * l.counter;
  at : l.at ≡ 16 + 4 * l.counter;
  len : length l.rest + 4 * l.counter ≡ length l.bytes;
}
