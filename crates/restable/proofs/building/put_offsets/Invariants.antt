use Rattle.std.proofs.Common.{◌≡◌, ◌+◌, ◌-◌, ◌*◌, ◌++◌}
use Rattle.restable.specs.Tables.{words, offsets}
use Rattle.restable.proofs.building.put_offsets.Given as goal

abbrev pub invariant-offsets : goal.invariant-offsets
invariant-offsets l = record {
  next : l.next ≡ l.fn.first + 48 * l.counter;
  told : l.out.items ++ words (offsets l.next (l.fn.count - l.counter)) ≡ l.fn.out.items ++ words (offsets l.fn.first l.fn.count);
}
