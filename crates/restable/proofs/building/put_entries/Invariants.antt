use Rattle.std.proofs.Common.{◌≡◌, ◌++◌, take}
use Rattle.std.specs.List.{flat_map}
use Rattle.restable.specs.Tables.{entry}
use Rattle.restable.proofs.building.put_entries.Given as goal

abbrev pub invariant-loop-trace : goal.invariant-loop-trace
invariant-loop-trace l = l.out.items ≡ l.fn.out.items ++ flat_map entry (take l.trace-index l.entries)
