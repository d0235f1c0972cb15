-- Each core runs alone through all cycles.
use Rattle.std.proofs.Common.{◌≡◌, ℕ, zero, suc, ◌+◌, ◌-◌, ◌<◌, ◌≤◌, Bool, true, false, cond, IsTrue, List, []}
use Rattle.std.proofs.Common.{◌∷◌, ◌++◌, length, take, refl, sym, ap, subst, ◌∙◌, arith}
use Rattle.std.specs.Prelude.{◌==◌, ◌&&◌, ◌||◌, nat_lt, nat_le, slice_index}
use Rattle.std.specs.List.{AllByRecursion}
use Rattle.std.proofs.lemmas.Bool.Decides.{nat_tests}
use Rattle.prunum.specs.Width.{byte_count}
use Rattle.prunum.specs.Bytes.{little_bytes}
use Rattle.prutrace.specs.declared.event.Stamped.{Stamped}
use Rattle.isa.specs.declared.inst.Inst.{Inst}
use Rattle.isa.specs.Image.{Contents, IsImage}
use Rattle.corestep.specs.declared.out.Stop.TheVariants.{Going, Stuck}
use Rattle.corestep.specs.declared.table.Table.{Table}
use Rattle.corestep.specs.Cost.{cost}
use Rattle.behaviour.specs.Machine.{exec}
use Rattle.corerun.specs.Solo.{alone_step}
use Rattle.corerun.specs.Fits.{AreBytes}
use Rattle.memorymap.specs.Windows.{is_within, shared_window, interrupt_window, outside_window}
use Rattle.hostscript.specs.declared.action.Action.{Action}
use Rattle.hostscript.specs.declared.action.Action.TheVariants as action
use Rattle.hostscript.specs.declared.action.Act.{Act}
use Rattle.hostscript.specs.declared.script.Script.{Script}
use Rattle.hostscript.specs.Acts.{IsAction, IsAct, may_be_poked}
use Rattle.twocore.specs.declared.setup.Setup.{Setup}
use Rattle.twocore.specs.declared.side.Side.{Side}
use Rattle.twocore.specs.declared.spot.Spot.{Spot}
use Rattle.twocore.specs.declared.spot.Spot.TheVariants.{Own, Other, Shared, Controller, Outside, Nothing}
use Rattle.twocore.specs.Memory.{spot_of, put}
use Rattle.twocore.specs.World.{Stage, stored_in}
use Rattle.twocore.specs.Word.{Turned, turned, access_at, waits, cycles_of}
use Rattle.twocore.specs.Machine.{Machine, acts_at, swapped, acted, all_acted, cycle, cycles}
use Rattle.twocore.specs.Machine.{side_at_start, starts_at_once, world_at_start, at_start_of}
use Rattle.twocore.specs.Alone.{RunsAlone, AreGiven, SparesZero, SparesOne, InEach, behind_acts, behind_zero}
use Rattle.twocore.proofs.KeepLemmas.{Keeps, KeepsBoth, all_acted_keeps, turned_keeps, stored_own_core}
use Rattle.twocore.proofs.RangeLemmas.{StageFits}
use Rattle.twocore.proofs.StageLemmas.{whole, turned_fits, swapped_fits, behind_acts_fits, given_stays}
use Rattle.twocore.proofs.StageLemmas.{cycles_fit, side_start_fits, world_start_fits}
use Rattle.twocore.proofs.SteadyLemmas.{acts_are}
use Rattle.twocore.proofs.AloneLemmas.{turned_alone, kept_alone}

-- ---- acts leave the private parts as they are

started_core : (b : Bool) (s : Stage)
    → (cond b (record s { own = record s.own { started = true } })
    (record s { other = record s.other { started = true } })).own.core ≡ s.own.core
started_core true s = refl
started_core false s = refl

acted_own_core : (s : Stage) (a : Action) → (acted s a).own.core ≡ s.own.core
acted_own_core s (action.Poke addr width value) = stored_own_core s (spot_of addr) (little_bytes (byte_count width) value)
acted_own_core s (action.Pins core bits) = refl
acted_own_core s (action.Event number) = refl
acted_own_core s (action.Start core) = started_core (core == 0) s

all_own_core : (s : Stage) (acts : List Act) → (all_acted s acts).own.core ≡ s.own.core
all_own_core s [] = refl
all_own_core s (a ∷ acts) = all_own_core (acted s a.action) acts ∙ acted_own_core s a.action

nothing_below : (ram : List ℕ) (at : ℕ) (bytes : List ℕ) → 0x1E00 ≤ at → put ram at (take (0x1E00 - at) bytes) ≡ ram
nothing_below ram at bytes h = ap (λ (n : ℕ). put ram at (take n bytes)) (let e : 0x1E00 - at ≡ 0 = omega arith in e)

stored_spares : (s : Stage) (spot : Spot) (bytes : List ℕ) → ((at : ℕ) → spot ≡ Other at → 0x1E00 ≤ at)
    → (stored_in s spot bytes).other.core.ram ≡ s.other.core.ram
stored_spares s (Own at) bytes far = refl
stored_spares s (Other at) bytes far = nothing_below s.other.core.ram at bytes (far at refl)
stored_spares s (Shared at) bytes far = refl
stored_spares s (Controller at) bytes far = refl
stored_spares s (Outside at) bytes far = refl
stored_spares s Nothing bytes far = refl

le_is : (a b : ℕ) → nat_le a b ≡ true → a ≤ b
le_is a b h = grind (arith, nat_tests)

le_above : (a b : ℕ) → b < a → nat_le a b ≡ false
le_above a b h = grind (arith, nat_tests)

lt_is : (a b : ℕ) → nat_lt a b ≡ true → a < b
lt_is a b h = grind (arith, nat_tests)

lt_not : (a b : ℕ) → nat_lt a b ≡ false → b ≤ a
lt_not a b h = grind (arith, nat_tests)

none_within : (a d f h : Bool) → IsTrue ((a && false) || ((false && d) || ((false && f) || ((false && h) || false)))) → ⊥
none_within true d f h p = cc
none_within false d f h p = cc

poked_far : (addr : ℕ) (b : Bool) → nat_le 0x3E00 addr ≡ b → IsTrue (may_be_poked addr) → 0x2000 ≤ addr → addr < 0x4000 → 0x3E00 ≤ addr
poked_far addr true e poked low high = le_is 0x3E00 addr e
poked_far addr false e poked low high =
    absurd (none_within (nat_le 0x1E00 addr) (nat_le addr 0x3FFF) (nat_le addr 0x12FFF) (nat_le addr 0x8FFFF)
    (subst (λ (x : Bool). IsTrue ((nat_le 0x1E00 addr && false) || ((false && nat_le addr 0x3FFF)
    || ((false && nat_le addr 0x12FFF) || ((x && nat_le addr 0x8FFFF) || false))))) (le_above 0x80000 addr (omega arith))
    (subst (λ (x : Bool). IsTrue ((nat_le 0x1E00 addr && false) || ((false && nat_le addr 0x3FFF)
    || ((x && nat_le addr 0x12FFF) || ((nat_le 0x80000 addr && nat_le addr 0x8FFFF) || false))))) (le_above 0x10000 addr (omega arith))
    (subst (λ (x : Bool). IsTrue ((nat_le 0x1E00 addr && false) || ((x && nat_le addr 0x3FFF)
    || ((nat_le 0x10000 addr && nat_le addr 0x12FFF) || ((nat_le 0x80000 addr && nat_le addr 0x8FFFF) || false))))) e
    (subst (λ (x : Bool). IsTrue ((nat_le 0x1E00 addr && x) || ((nat_le 0x3E00 addr && nat_le addr 0x3FFF)
    || ((nat_le 0x10000 addr && nat_le addr 0x12FFF) || ((nat_le 0x80000 addr && nat_le addr 0x8FFFF) || false)))))
    (le_above addr 0x1FFF (omega arith)) poked)))))

spot_far : (addr : ℕ) (a b c d e : Bool) → nat_lt addr 0x2000 ≡ a → nat_lt addr 0x4000 ≡ b → IsTrue (may_be_poked addr) → (at : ℕ)
    → cond a (Own addr) (cond b (Other (addr - 0x2000)) (cond c (Shared (addr - 0x10000)) (cond d (Controller (addr - 0x20000))
    (cond e (Outside (addr - 0x80000)) Nothing)))) ≡ Other at
    → 0x1E00 ≤ at
spot_far addr true b c d e ha hb poked at is = absurd (cc)
spot_far addr false true c d e ha hb poked at is =
    let same : addr - 0x2000 ≡ at = cc in
    let far : 0x3E00 ≤ addr = poked_far addr (nat_le 0x3E00 addr) refl poked (lt_not addr 0x2000 ha) (lt_is addr 0x4000 hb) in
    omega arith
spot_far addr false false true d e ha hb poked at is = absurd (cc)
spot_far addr false false false true e ha hb poked at is = absurd (cc)
spot_far addr false false false false true ha hb poked at is = absurd (cc)
spot_far addr false false false false false ha hb poked at is = absurd (cc)

started_ram : (b : Bool) (s : Stage)
    → (cond b (record s { own = record s.own { started = true } }) (record s { other = record s.other { started = true } })).other.core.ram
    ≡ s.other.core.ram
started_ram true s = refl
started_ram false s = refl

acted_other_ram : (s : Stage) (a : Action) → IsAction a → (acted s a).other.core.ram ≡ s.other.core.ram
acted_other_ram s (action.Poke addr width value) is =
    stored_spares s (spot_of addr) (little_bytes (byte_count width) value)
    (spot_far addr (nat_lt addr 0x2000) (nat_lt addr 0x4000) (is_within addr shared_window) (is_within addr interrupt_window)
    (is_within addr outside_window) refl refl is.window)
acted_other_ram s (action.Pins core bits) is = refl
acted_other_ram s (action.Event number) is = refl
acted_other_ram s (action.Start core) is = started_ram (core == 0) s

all_other_ram : (s : Stage) (acts : List Act) → AllByRecursion IsAct acts → (all_acted s acts).other.core.ram ≡ s.other.core.ram
all_other_ram s [] are = refl
all_other_ram s (a ∷ acts) are = all_other_ram (acted s a.action) acts are.1 ∙ acted_other_ram s a.action are.0.action

-- ---- at the start

start_alone : (image : Contents) (started : Bool) → RunsAlone image (side_at_start image started) []
start_alone image started = record {
  runs = λ behind more.
      ap (λ (n : ℕ). exec (alone_step image) n (record {
        core = (side_at_start image started).core;
        stands = Going;
        left = behind;
        shown = [];
        count = 0;
      }))
      (let e : 0 + more ≡ more = omega arith in e);
  stuck = λ is. absurd (cc);
}

-- ---- a cycle

fewer : (P : Machine → Type 0) (n : ℕ) (m : Machine) → InEach P (suc n) m → InEach P n m
fewer P n m each k h = each k (omega arith)

module _ (m : Machine) (are : AllByRecursion IsAct m.acts) (fits : StageFits (whole m)) where
  abbrev acts_now : List Act
  acts_now = acts_at m.done m.acts

  acts_fit : AllByRecursion IsAct acts_now
  acts_fit = acts_are m.done m.acts are

  acted_fit : StageFits (behind_acts m)
  acted_fit = behind_acts_fits m are fits

  zero_turn : RunsAlone m.setup0.image m.zero m.trace0 → SparesZero m → RunsAlone m.setup0.image (cycle m).zero (cycle m).trace0
  zero_turn alone spares =
      let keeps : KeepsBoth (whole m) (behind_acts m) = all_acted_keeps (whole m) acts_now in
      let ram : (behind_acts m).own.core.ram ≡ m.zero.core.ram = ap (λ s. s.ram) (all_own_core (whole m) acts_now) in
      let here : RunsAlone m.setup0.image (behind_acts m).own m.trace0 =
      kept_alone m.setup0.image m.zero (behind_acts m).own m.trace0 keeps.own ram alone in
      kept_alone m.setup0.image (behind_zero m).own (cycle m).zero (cycle m).trace0
      (turned_keeps m.setup1 m.done (swapped (behind_zero m))) spares
      (turned_alone m.setup0 m.done (behind_acts m) m.trace0 acted_fit here)

  one_turn : RunsAlone m.setup1.image m.one m.trace1 → SparesOne m → RunsAlone m.setup1.image (cycle m).one (cycle m).trace1
  one_turn alone spares =
      let keeps : KeepsBoth (whole m) (behind_acts m) = all_acted_keeps (whole m) acts_now in
      let here : RunsAlone m.setup1.image (behind_acts m).other m.trace1 =
      kept_alone m.setup1.image m.one (behind_acts m).other m.trace1 keeps.other (all_other_ram (whole m) acts_now acts_fit) alone in
      turned_alone m.setup1 m.done (swapped (behind_zero m)) m.trace1
      (swapped_fits (behind_zero m) (turned_fits m.setup0 m.done (behind_acts m) acted_fit))
      (kept_alone m.setup1.image (behind_acts m).other (behind_zero m).other m.trace1
      (turned_keeps m.setup0 m.done (behind_acts m)) spares here)

-- ---- all cycles

module _ (m : Machine) (are : AllByRecursion IsAct m.acts) (fits : StageFits (whole m)) where
  acts_stay : (n : ℕ) → AllByRecursion IsAct (cycles n m).acts
  acts_stay n = subst (AllByRecursion IsAct) (sym (given_stays n m).0) are

  zero_through : (n : ℕ) → RunsAlone m.setup0.image m.zero m.trace0 → InEach SparesZero n m
      → RunsAlone m.setup0.image (cycles n m).zero (cycles n m).trace0
  zero_through zero alone each = alone
  zero_through (suc n) alone each =
      let image : (cycles n m).setup0.image ≡ m.setup0.image = ap (λ (s : Setup). s.image) (given_stays n m).1 in
      let before : RunsAlone m.setup0.image (cycles n m).zero (cycles n m).trace0 =
      zero_through n alone (fewer SparesZero n m each) in
      subst (λ (i : Contents). RunsAlone i (cycles (suc n) m).zero (cycles (suc n) m).trace0) image
      (zero_turn (cycles n m) (acts_stay n) (cycles_fit n m are fits)
      (subst (λ (i : Contents). RunsAlone i (cycles n m).zero (cycles n m).trace0) (sym image) before) (each n (omega arith)))

  one_through : (n : ℕ) → RunsAlone m.setup1.image m.one m.trace1 → InEach SparesOne n m
      → RunsAlone m.setup1.image (cycles n m).one (cycles n m).trace1
  one_through zero alone each = alone
  one_through (suc n) alone each =
      let image : (cycles n m).setup1.image ≡ m.setup1.image = ap (λ (s : Setup). s.image) (given_stays n m).2 in
      let before : RunsAlone m.setup1.image (cycles n m).one (cycles n m).trace1 =
      one_through n alone (fewer SparesOne n m each) in
      subst (λ (i : Contents). RunsAlone i (cycles (suc n) m).one (cycles (suc n) m).trace1) image
      (one_turn (cycles n m) (acts_stay n) (cycles_fit n m are fits)
      (subst (λ (i : Contents). RunsAlone i (cycles n m).one (cycles n m).trace1) (sym image) before) (each n (omega arith)))

start_whole : (table : Table) (image0 image1 : Contents) (script : Script) → AreGiven image0 image1 script
    → StageFits (whole (at_start_of table image0 image1 script))
start_whole table image0 image1 script given = record {
  own = side_start_fits image0 (starts_at_once 0 script.acts) given.image0_is given.bytes0;
  other = side_start_fits image1 (starts_at_once 1 script.acts) given.image1_is given.bytes1;
  world = world_start_fits;
}

pub zero_alone : (table : Table) (image0 image1 : Contents) (script : Script) (n : ℕ) → AreGiven image0 image1 script
    → InEach SparesZero n (at_start_of table image0 image1 script)
    → RunsAlone image0 (cycles n (at_start_of table image0 image1 script)).zero (cycles n (at_start_of table image0 image1 script)).trace0
zero_alone table image0 image1 script n given each =
    zero_through (at_start_of table image0 image1 script) given.acts (start_whole table image0 image1 script given) n
    (start_alone image0 (starts_at_once 0 script.acts)) each

pub one_alone : (table : Table) (image0 image1 : Contents) (script : Script) (n : ℕ) → AreGiven image0 image1 script
    → InEach SparesOne n (at_start_of table image0 image1 script)
    → RunsAlone image1 (cycles n (at_start_of table image0 image1 script)).one (cycles n (at_start_of table image0 image1 script)).trace1
one_alone table image0 image1 script n given each =
    one_through (at_start_of table image0 image1 script) given.acts (start_whole table image0 image1 script given) n
    (start_alone image1 (starts_at_once 1 script.acts)) each

-- a word whose access stays in the own RAM takes its table's cycles
pub own_cycles : (setup : Setup) (side : Side) (i : Inst) → waits side.core i ≡ false
    → cycles_of setup side i ≡ cost setup.table i (access_at side.core i) 0
own_cycles setup side i is = ap (λ (b : Bool). cost setup.table i (access_at side.core i) (cond b (slice_index setup.arb side.waited) 0)) is
