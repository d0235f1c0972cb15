-- No word takes more cycles than the most expensive one.
use Rattle.std.proofs.Common.{ℕ, zero, suc, ◌+◌, ◌≤◌, Bool, true, false, cond, List, [], ◌∷◌}
use Rattle.std.proofs.Common.{arith}
use Rattle.std.specs.Prelude.{slice_index}
use Rattle.std.specs.List.{AllByRecursion}
use Rattle.isa.specs.declared.access.Access.{Access}
use Rattle.isa.specs.declared.inst.Inst.{Inst}
use Rattle.isa.specs.declared.inst.Inst.TheVariants as inst
use Rattle.corestep.specs.declared.table.Table.{Table}
use Rattle.corestep.specs.declared.table.Table.TheVariants as tables
use Rattle.corestep.specs.declared.table.Class.{Class}
use Rattle.corestep.specs.declared.table.Class.TheVariants as classes
use Rattle.corestep.specs.Cost.{load_cycles, store_cycles, outside_cycles, class_cycles, quarters, cost}
use Rattle.corestep.specs.Memory.{class_of}
use Rattle.twocore.specs.declared.setup.Setup.{Setup}
use Rattle.twocore.specs.declared.side.Side.{Side}
use Rattle.twocore.specs.Word.{access_at, waits, wait_of, cycles_of}
use Rattle.machinelaws.specs.Least.{dearest}

-- the next arbitration number, or 0
index_most : (numbers : List ℕ) (k wait : ℕ) → AllByRecursion (λ w. w ≤ wait) numbers → slice_index numbers k ≤ wait
index_most [] k wait all = omega arith
index_most (n ∷ numbers) zero wait all = all.0
index_most (n ∷ numbers) (suc k) wait all = index_most numbers k wait all.1

if_most : (b : Bool) (n wait : ℕ) → n ≤ wait → cond b n 0 ≤ wait
if_most true n wait h = h
if_most false n wait h = omega arith

wait_most : (setup : Setup) (side : Side) (i : Inst) (wait : ℕ) → AllByRecursion (λ w. w ≤ wait) setup.arb
    → wait_of setup side i ≤ wait
wait_most setup side i wait all =
    if_most (waits side.core i) (slice_index setup.arb side.waited) wait (index_most setup.arb side.waited wait all)

class_most : (table : Table) (class : Class) (wait most : ℕ) → wait ≤ most → class_cycles table class wait ≤ outside_cycles table + most
class_most table classes.Own wait most h = omega arith
class_most table classes.Shared wait most h = omega arith
class_most table classes.Outside wait most h = omega arith

quarters_most : (a : Access) → quarters a.len ≤ quarters 120
quarters_most a = let h = a.below in omega arith

load_dear : (table : Table) → (1 ≤ load_cycles table) × (store_cycles table ≤ load_cycles table)
load_dear tables.One = (omega arith, omega arith)
load_dear tables.Two = (omega arith, omega arith)

store_some : (table : Table) → 1 ≤ store_cycles table
store_some tables.One = omega arith
store_some tables.Two = omega arith

record Between (cycles most : ℕ) : Type 0 where
  pub some : 1 ≤ cycles
  pub few : cycles ≤ most

cost_between : (table : Table) (i : Inst) (addr wait most : ℕ) → wait ≤ most → Between (cost table i addr wait) (dearest table most)
cost_between table (inst.Load a) addr wait most h =
    let dear = load_dear table in
    let q = quarters_most a in
    let c = class_most table (class_of addr) wait most h in
    record { some = omega (arith, dear.0); few = omega (arith, q, c) }
cost_between table (inst.Store a) addr wait most h =
    let dear = load_dear table in
    let least = store_some table in
    let q = quarters_most a in
    let c = class_most table (class_of addr) wait most h in
    record { some = omega (arith, least); few = omega (arith, dear.1, q, c) }
cost_between table (inst.Alu op d a b) addr wait most h = let dear =
    load_dear table in record { some = omega arith; few = omega (arith, dear.0) }
cost_between table (inst.Not d a) addr wait most h = let dear =
    load_dear table in record { some = omega arith; few = omega (arith, dear.0) }
cost_between table (inst.Jmp to) addr wait most h = let dear = load_dear table in record { some = omega arith; few = omega (arith, dear.0) }
cost_between table (inst.Jal d to) addr wait most h = let dear =
    load_dear table in record { some = omega arith; few = omega (arith, dear.0) }
cost_between table (inst.Ldi d n) addr wait most h = let dear =
    load_dear table in record { some = omega arith; few = omega (arith, dear.0) }
cost_between table (inst.Lmbd d a b) addr wait most h = let dear =
    load_dear table in record { some = omega arith; few = omega (arith, dear.0) }
cost_between table inst.Halt addr wait most h = let dear = load_dear table in record { some = omega arith; few = omega (arith, dear.0) }
cost_between table (inst.Xin t) addr wait most h = let dear = load_dear table in record { some = omega arith; few = omega (arith, dear.0) }
cost_between table (inst.Xout t) addr wait most h = let dear = load_dear table in record { some = omega arith; few = omega (arith, dear.0) }
cost_between table (inst.Loop body) addr wait most h = let dear =
    load_dear table in record { some = omega arith; few = omega (arith, dear.0) }
cost_between table (inst.Branch c o a b) addr wait most h = let dear =
    load_dear table in record { some = omega arith; few = omega (arith, dear.0) }
cost_between table (inst.Qba o) addr wait most h = let dear = load_dear table in record { some = omega arith; few = omega (arith, dear.0) }

pub word_some : (setup : Setup) (side : Side) (i : Inst) → 1 ≤ cycles_of setup side i
word_some setup side i =
    (cost_between setup.table i (access_at side.core i) (wait_of setup side i) (wait_of setup side i) (omega arith)).some

pub word_few : (setup : Setup) (side : Side) (i : Inst) (wait : ℕ) → AllByRecursion (λ w. w ≤ wait) setup.arb
    → cycles_of setup side i ≤ dearest setup.table wait
word_few setup side i wait all =
    (cost_between setup.table i (access_at side.core i) (wait_of setup side i) wait (wait_most setup side i wait all)).few
