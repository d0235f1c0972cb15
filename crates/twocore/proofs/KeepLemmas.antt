-- What acts and the other core's cycle leave of a core, and what its own cycle does.
use Rattle.std.proofs.Common.{◌≡◌, ℕ, zero, suc, ◌+◌, ◌-◌, ◌≤◌, Bool, true, false, cond, List, [], ◌∷◌}
use Rattle.std.proofs.Common.{◌++◌, Option, Some, None, refl, sym, ap, ◌∙◌, arith}
use Rattle.std.specs.Prelude.{◌==◌, ◌&&◌}
use Rattle.isa.specs.declared.inst.Inst.{Inst}
use Rattle.corestep.specs.declared.out.Stop.{Stop}
use Rattle.corestep.specs.Core.{State}
use Rattle.corestep.specs.Step.{Stepped, inst_at, stepped}
use Rattle.hostscript.specs.declared.action.Action.{Action}
use Rattle.hostscript.specs.declared.action.Action.TheVariants as action
use Rattle.hostscript.specs.declared.action.Act.{Act}
use Rattle.twocore.specs.declared.setup.Setup.{Setup}
use Rattle.twocore.specs.declared.side.Side.{Side}
use Rattle.twocore.specs.declared.side.Word.{Word}
use Rattle.twocore.specs.declared.spot.Spot.{Spot}
use Rattle.twocore.specs.declared.spot.Spot.TheVariants.{Own, Other, Shared, Controller, Outside, Nothing}
use Rattle.twocore.specs.Memory.{spot_of}
use Rattle.twocore.specs.World.{Stage, stored_in, pads_after}
use Rattle.twocore.specs.Word.{Turned, quiet, waits, beginning, begun_by, begun, input_for, side_after}
use Rattle.twocore.specs.Word.{world_after, ended, worked_by, worked, is_going, turned}
use Rattle.twocore.specs.Machine.{acted, all_acted}

-- all but whether it has started, its window and the private part of its RAM stays
pub record Keeps (old new : Side) : Type 0 where
  pub core : new.core ≡ record old.core { ram = new.core.ram }
  pub stop : new.stop ≡ old.stop
  pub word : new.word ≡ old.word
  pub waited : new.waited ≡ old.waited
  pub count : new.count ≡ old.count

pub keeps_same : (side : Side) → Keeps side side
keeps_same side = record { core = refl; stop = refl; word = refl; waited = refl; count = refl }

pub keeps_both : (a b c : Side) → Keeps a b → Keeps b c → Keeps a c
keeps_both a b c first second = record {
  core = second.core ∙ ap (λ (s : State). record s { ram = c.core.ram }) first.core;
  stop = second.stop ∙ first.stop;
  word = second.word ∙ first.word;
  waited = second.waited ∙ first.waited;
  count = second.count ∙ first.count;
}

-- ---- stores

pub stored_keeps_own : (s : Stage) (spot : Spot) (bytes : List ℕ) → Keeps s.own (stored_in s spot bytes).own
stored_keeps_own s (Own at) bytes = record { core = refl; stop = refl; word = refl; waited = refl; count = refl }
stored_keeps_own s (Other at) bytes = keeps_same s.own
stored_keeps_own s (Shared at) bytes = keeps_same s.own
stored_keeps_own s (Controller at) bytes = keeps_same s.own
stored_keeps_own s (Outside at) bytes = keeps_same s.own
stored_keeps_own s Nothing bytes = keeps_same s.own

pub stored_own_core : (s : Stage) (spot : Spot) (bytes : List ℕ) → (stored_in s spot bytes).own.core ≡ s.own.core
stored_own_core s (Own at) bytes = refl
stored_own_core s (Other at) bytes = refl
stored_own_core s (Shared at) bytes = refl
stored_own_core s (Controller at) bytes = refl
stored_own_core s (Outside at) bytes = refl
stored_own_core s Nothing bytes = refl

pub stored_keeps_other : (s : Stage) (spot : Spot) (bytes : List ℕ) → Keeps s.other (stored_in s spot bytes).other
stored_keeps_other s (Own at) bytes = keeps_same s.other
stored_keeps_other s (Other at) bytes = record { core = refl; stop = refl; word = refl; waited = refl; count = refl }
stored_keeps_other s (Shared at) bytes = keeps_same s.other
stored_keeps_other s (Controller at) bytes = keeps_same s.other
stored_keeps_other s (Outside at) bytes = keeps_same s.other
stored_keeps_other s Nothing bytes = keeps_same s.other

-- ---- acts

pub record KeepsBoth (old new : Stage) : Type 0 where
  pub own : Keeps old.own new.own
  pub other : Keeps old.other new.other

both_same : (s : Stage) → KeepsBoth s s
both_same s = record { own = keeps_same s.own; other = keeps_same s.other }

started_keeps : (b : Bool) (s : Stage)
    → KeepsBoth s (cond b (record s { own = record s.own { started = true } }) (record s { other = record s.other { started = true } }))
started_keeps true s = record {
  own = record { core = refl; stop = refl; word = refl; waited = refl; count = refl };
  other =
      keeps_same s.other;
}
started_keeps false s = record {
  own = keeps_same s.own;
  other =
      record { core = refl; stop = refl; word = refl; waited = refl; count = refl };
}

acted_keeps : (s : Stage) (a : Action) → KeepsBoth s (acted s a)
acted_keeps s (action.Poke addr width value) =
    record { own = stored_keeps_own s (spot_of addr) _; other = stored_keeps_other s (spot_of addr) _ }
acted_keeps s (action.Pins core bits) = record { own = keeps_same s.own; other = keeps_same s.other }
acted_keeps s (action.Event number) = record { own = keeps_same s.own; other = keeps_same s.other }
acted_keeps s (action.Start core) = started_keeps (core == 0) s

pub all_acted_keeps : (s : Stage) (acts : List Act) → KeepsBoth s (all_acted s acts)
all_acted_keeps s [] = both_same s
all_acted_keeps s (a ∷ acts) =
    let first : KeepsBoth s (acted s a.action) = acted_keeps s a.action in
    let rest : KeepsBoth (acted s a.action) (all_acted (acted s a.action) acts) = all_acted_keeps (acted s a.action) acts in
    record {
      own = keeps_both s.own (acted s a.action).own (all_acted (acted s a.action) acts).own first.own rest.own;
      other = keeps_both s.other (acted s a.action).other (all_acted (acted s a.action) acts).other first.other rest.other;
    }

-- ---- a core's cycle

-- at most one instruction and one arbitration number more
pub record Counts (old new : Side) : Type 0 where
  pub count : new.count ≤ old.count + 1
  pub waited : new.waited ≤ old.waited + 1

one_more : (b : Bool) (n : ℕ) → n + cond b 1 0 ≤ n + 1
one_more true n = omega arith
one_more false n = omega arith

beginning_counts : (setup : Setup) (t : ℕ) (side : Side) (o : Option Inst)
    → ((beginning setup t side o).count ≡ side.count) × ((beginning setup t side o).waited ≤ side.waited + 1)
beginning_counts setup t side None = (refl, omega arith)
beginning_counts setup t side (Some i) = (refl, one_more (waits side.core i) side.waited)

begun_counts : (setup : Setup) (t : ℕ) (side : Side) (o : Option Word)
    → ((begun_by setup t side o).count ≡ side.count) × ((begun_by setup t side o).waited ≤ side.waited + 1)
begun_counts setup t side None = beginning_counts setup t side (inst_at setup.image.words side.core.pc)
begun_counts setup t side (Some word) = (refl, omega arith)

-- the stage in which a word's store is done
abbrev pub moved : Stage → Inst → Stepped → Stage
moved s i did = record s {
  own = side_after s.own did;
  world = record s.world { pads = pads_after s.world.pads s.own.core.registers i };
}

ended_counts : (setup : Setup) (t : ℕ) (s : Stage) (word : Word) (o : Option Inst)
    → ((ended setup t s word o).stage.own.count ≤ s.own.count + 1) × ((ended setup t s word o).stage.own.waited ≡ s.own.waited)
ended_counts setup t s word None = (omega arith, refl)
ended_counts setup t s word (Some i) =
    let did : Stepped = stepped setup.image s.own.core (input_for setup.core s i) in
    let keeps = stored_keeps_own (moved s i did) (spot_of did.out.at) did.out.stored in
    (omega (arith, keeps.count), keeps.waited)

if_counts : (b : Bool) (s : Stage) (r : Turned)
    → (r.stage.own.count ≤ s.own.count + 1) × (r.stage.own.waited ≡ s.own.waited)
    → ((cond b r (quiet s)).stage.own.count ≤ s.own.count + 1) × ((cond b r (quiet s)).stage.own.waited ≡ s.own.waited)
if_counts true s r h = h
if_counts false s r h = (omega arith, refl)

worked_counts : (setup : Setup) (t : ℕ) (s : Stage) (o : Option Word)
    → ((worked_by setup t s o).stage.own.count ≤ s.own.count + 1) × ((worked_by setup t s o).stage.own.waited ≡ s.own.waited)
worked_counts setup t s None = (omega arith, refl)
worked_counts setup t s (Some word) =
    if_counts (word.last == t) s (ended setup t s word (inst_at setup.image.words s.own.core.pc))
    (ended_counts setup t s word (inst_at setup.image.words s.own.core.pc))

turn_counts_by : (setup : Setup) (t : ℕ) (s : Stage) (b : Bool)
    → Counts s.own (cond b (worked setup t (record s { own = begun setup t s.own })) (quiet s)).stage.own
turn_counts_by setup t s true =
    let first = begun_counts setup t s.own s.own.word in
    let mid : Stage = record s { own = begun setup t s.own } in
    let second = worked_counts setup t mid mid.own.word in
    record { count = omega (arith, first.0, second.0); waited = omega (arith, first.1, second.1) }
turn_counts_by setup t s false = record { count = omega arith; waited = omega arith }

pub turned_counts : (setup : Setup) (t : ℕ) (s : Stage) → Counts s.own (turned setup t s).stage.own
turned_counts setup t s = turn_counts_by setup t s (s.own.started && is_going s.own.stop)

-- ---- the other core

ended_keeps : (setup : Setup) (t : ℕ) (s : Stage) (word : Word) (o : Option Inst)
    → Keeps s.other (ended setup t s word o).stage.other
ended_keeps setup t s word None = keeps_same s.other
ended_keeps setup t s word (Some i) =
    let did : Stepped = stepped setup.image s.own.core (input_for setup.core s i) in
    stored_keeps_other (moved s i did) (spot_of did.out.at) did.out.stored

if_keeps : (b : Bool) (s : Stage) (r : Turned) → Keeps s.other r.stage.other → Keeps s.other (cond b r (quiet s)).stage.other
if_keeps true s r h = h
if_keeps false s r h = keeps_same s.other

worked_keeps : (setup : Setup) (t : ℕ) (s : Stage) (o : Option Word) → Keeps s.other (worked_by setup t s o).stage.other
worked_keeps setup t s None = keeps_same s.other
worked_keeps setup t s (Some word) =
    if_keeps (word.last == t) s (ended setup t s word (inst_at setup.image.words s.own.core.pc))
    (ended_keeps setup t s word (inst_at setup.image.words s.own.core.pc))

pub turned_keeps : (setup : Setup) (t : ℕ) (s : Stage) → Keeps s.other (turned setup t s).stage.other
turned_keeps setup t s =
    if_keeps (s.own.started && is_going s.own.stop) s (worked setup t (record s { own = begun setup t s.own }))
    (worked_keeps setup t (record s { own = begun setup t s.own }) (begun setup t s.own).word)
