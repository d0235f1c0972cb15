-- The cycle tables, this project's own: how many cycles a word takes.
use Rattle.std.specs.Prelude.{ℕ, ◌+◌, ◌/◌}
use Rattle.isa.specs.declared.inst.Inst.{Inst}
use Rattle.isa.specs.declared.inst.Inst.TheVariants.{Load, Store}
use Rattle.corestep.specs.declared.table.Class.{Class}
use Rattle.corestep.specs.declared.table.Class.TheVariants as classes
use Rattle.corestep.specs.declared.table.Table.{Table}
use Rattle.corestep.specs.declared.table.Table.TheVariants as tables
use Rattle.corestep.specs.Memory.{class_of}

-- an access takes so much besides a cycle for each four bytes
abbrev pub load_cycles : Table → ℕ
load_cycles tables.One = 2
load_cycles tables.Two = 3

abbrev pub store_cycles : Table → ℕ
store_cycles tables.One = 1
store_cycles tables.Two = 2

-- and so much more outside
abbrev pub outside_cycles : Table → ℕ
outside_cycles tables.One = 20
outside_cycles tables.Two = 40

-- what an access of a class takes besides: a wait where it leaves the own RAM
abbrev pub class_cycles : Table → Class → ℕ → ℕ
class_cycles table classes.Own wait = 0
class_cycles table classes.Shared wait = wait
class_cycles table classes.Outside wait = outside_cycles table + wait

-- four bytes at a time
abbrev pub quarters : ℕ → ℕ
quarters len = (len + 3) / 4

-- The cycles of a word. `addr` and `wait` are those of its access, and count for no other word.
abbrev pub cost : Table → Inst → ℕ → ℕ → ℕ
cost table (Load a) addr wait = load_cycles table + quarters a.len + class_cycles table (class_of addr) wait
cost table (Store a) addr wait = store_cycles table + quarters a.len + class_cycles table (class_of addr) wait
cost table _ addr wait = 1
