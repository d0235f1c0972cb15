use Rattle.std.proofs.Common.{◌≡◌, ◌+◌, drop}
use Rattle.restable.specs.Reading.{name_len}
use Rattle.restable.proofs.reading.len_of_name.Given as goal

abbrev pub invariant-loop-i : goal.invariant-loop-i
invariant-loop-i l = l.i + name_len (drop l.i l.field) ≡ name_len l.field
