-- The most expensive word: a load of 120 bytes, which is all that the registers take, from the memory outside, with the longest wait.
use Rattle.std.specs.Prelude.{ℕ, ◌+◌}
use Rattle.corestep.specs.declared.table.Table.{Table}
use Rattle.corestep.specs.Cost.{load_cycles, outside_cycles, quarters}

abbrev pub dearest : Table → ℕ → ℕ
dearest table wait = load_cycles table + quarters 120 + (outside_cycles table + wait)
