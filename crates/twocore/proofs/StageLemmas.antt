-- A cycle keeps the ranges of what the machine holds.
use Rattle.std.proofs.Common.{◌≡◌, ℕ, zero, suc, ◌+◌, ◌-◌, ◌*◌, ◌^◌, ◌<◌, ◌≤◌, Bool, true, false, cond, List, [], ◌∷◌, ◌++◌}
use Rattle.std.proofs.Common.{length, replicate, Option, Some, None, refl, sym, ap, subst, ◌∙◌, arith}
use Rattle.std.specs.Prelude.{◌==◌, ◌&&◌}
use Rattle.std.specs.List.{AllByRecursion}
use Rattle.prunum.specs.Width.{byte_count}
use Rattle.isa.specs.declared.inst.Inst.{Inst}
use Rattle.isa.specs.Image.{Contents, IsImage}
use Rattle.corestep.specs.Core.{State, at_start, zeros}
use Rattle.corestep.specs.Step.{Stepped, inst_at, stepped}
use Rattle.corerun.specs.Fits.{AreBytes, CoreFits, InputFits, StepFits}
use Rattle.corerun.proofs.SizeLemmas.{Sized, with_fits, step_fits, little_are_bytes}
use Rattle.hostscript.specs.declared.action.Action.{Action}
use Rattle.hostscript.specs.declared.action.Action.TheVariants as action
use Rattle.hostscript.specs.declared.action.Act.{Act}
use Rattle.hostscript.specs.Acts.{IsAction, IsAct}
use Rattle.twocore.specs.declared.setup.Setup.{Setup}
use Rattle.twocore.specs.declared.side.Side.{Side}
use Rattle.twocore.specs.declared.side.Word.{Word}
use Rattle.twocore.specs.declared.world.World.{World}
use Rattle.twocore.specs.Memory.{spot_of}
use Rattle.twocore.specs.World.{Stage, stored_in}
use Rattle.twocore.specs.Word.{Turned, quiet, beginning, begun_by, begun, input_for, side_after, ended, worked_by, worked, is_going, turned}
use Rattle.twocore.specs.Machine.{Machine, acts_at, swapped, acted, all_acted, cycle, cycles, side_at_start, world_at_start}
use Rattle.twocore.proofs.KeepLemmas.{moved}
use Rattle.twocore.proofs.RangeLemmas.{AreWords, SideFits, WorldFits, StageFits, all_set, zeros_all, zeros_size}
use Rattle.twocore.proofs.RangeLemmas.{stored_fits, all_led_fits, pads_after_fits, input_fits}
use Rattle.twocore.proofs.SteadyLemmas.{acts_are}

-- ---- a core's cycle

beginning_fits : (setup : Setup) (t : ℕ) (side : Side) (o : Option Inst) → SideFits side → SideFits (beginning setup t side o)
beginning_fits setup t side None fits = record { core = fits.core; window = fits.window }
beginning_fits setup t side (Some i) fits = record { core = fits.core; window = fits.window }

begun_fits : (setup : Setup) (t : ℕ) (side : Side) (o : Option Word) → SideFits side → SideFits (begun_by setup t side o)
begun_fits setup t side None fits = beginning_fits setup t side (inst_at setup.image.words side.core.pc) fits
begun_fits setup t side (Some word) fits = fits

moved_fits : (s : Stage) (i : Inst) (did : Stepped) → StageFits s → StepFits did → StageFits (moved s i did)
moved_fits s i did fits step = record {
  own = record { core = step.core; window = fits.own.window };
  other = fits.other;
  world = record {
    shared = fits.world.shared;
    outside = fits.world.outside;
    pads = pads_after_fits s.world.pads s.own.core.registers i fits.world.pads fits.own.core.registers_bytes;
    inputs = fits.world.inputs;
  };
}

ended_fits : (setup : Setup) (t : ℕ) (s : Stage) (word : Word) (o : Option Inst) → StageFits s → StageFits (ended setup t s word o).stage
ended_fits setup t s word None fits = fits
ended_fits setup t s word (Some i) fits =
    let did : Stepped = stepped setup.image s.own.core (input_for setup.core s i) in
    let step : StepFits did = step_fits setup.image s.own.core (input_for setup.core s i) fits.own.core (input_fits setup.core s i fits) in
    let after : StageFits (stored_in (moved s i did) (spot_of did.out.at) did.out.stored) =
    stored_fits (moved s i did) (spot_of did.out.at) did.out.stored (moved_fits s i did fits step) step.stored in
    record { own = after.own; other = after.other; world = all_led_fits setup.core _ did.out.events after.world }

if_fits : (b : Bool) (s : Stage) (r : Turned) → StageFits s → StageFits r.stage → StageFits (cond b r (quiet s)).stage
if_fits true s r same after = after
if_fits false s r same after = same

worked_fits : (setup : Setup) (t : ℕ) (s : Stage) (o : Option Word) → StageFits s → StageFits (worked_by setup t s o).stage
worked_fits setup t s None fits = fits
worked_fits setup t s (Some word) fits =
    if_fits (word.last == t) s (ended setup t s word (inst_at setup.image.words s.own.core.pc)) fits
    (ended_fits setup t s word (inst_at setup.image.words s.own.core.pc) fits)

pub mid_fits : (setup : Setup) (t : ℕ) (s : Stage) → StageFits s → StageFits (record s { own = begun setup t s.own })
mid_fits setup t s fits = record { own = begun_fits setup t s.own s.own.word fits.own; other = fits.other; world = fits.world }

pub turned_fits : (setup : Setup) (t : ℕ) (s : Stage) → StageFits s → StageFits (turned setup t s).stage
turned_fits setup t s fits =
    if_fits (s.own.started && is_going s.own.stop) s (worked setup t (record s { own = begun setup t s.own })) fits
    (worked_fits setup t (record s { own = begun setup t s.own }) (begun setup t s.own).word (mid_fits setup t s fits))

pub swapped_fits : (s : Stage) → StageFits s → StageFits (swapped s)
swapped_fits s fits = record { own = fits.other; other = fits.own; world = fits.world }

-- ---- acts

started_fits : (b : Bool) (s : Stage) → StageFits s
    → StageFits (cond b (record s { own = record s.own { started = true } }) (record s { other = record s.other { started = true } }))
started_fits true s fits = record {
  own = record { core = fits.own.core; window = fits.own.window };
  other = fits.other;
  world =
      fits.world;
}
started_fits false s fits = record {
  own = fits.own;
  other = record { core = fits.other.core; window = fits.other.window };
  world =
      fits.world;
}

acted_fits : (s : Stage) (a : Action) → IsAction a → StageFits s → StageFits (acted s a)
acted_fits s (action.Poke addr width value) is fits =
    stored_fits s (spot_of addr) _ fits (little_are_bytes (byte_count width) value)
acted_fits s (action.Pins core bits) is fits = record {
  own = fits.own;
  other = fits.other;
  world = record {
    shared = fits.world.shared;
    outside = fits.world.outside;
    pads = fits.world.pads;
    inputs = all_set (λ v. v < 2 ^ 16) s.world.pins.inputs core bits fits.world.inputs is.1;
  };
}
acted_fits s (action.Event number) is fits = record {
  own = fits.own;
  other = fits.other;
  world = record { shared = fits.world.shared; outside = fits.world.outside; pads = fits.world.pads; inputs = fits.world.inputs };
}
acted_fits s (action.Start core) is fits = started_fits (core == 0) s fits

pub all_acted_fits : (s : Stage) (acts : List Act) → AllByRecursion IsAct acts → StageFits s → StageFits (all_acted s acts)
all_acted_fits s [] are fits = fits
all_acted_fits s (a ∷ acts) are fits = all_acted_fits (acted s a.action) acts are.1 (acted_fits s a.action are.0.action fits)

-- ---- the machine

abbrev pub whole : Machine → Stage
whole m = record { own = m.zero; other = m.one; world = m.world }

pub behind_acts_fits : (m : Machine) → AllByRecursion IsAct m.acts → StageFits (whole m)
    → StageFits (all_acted (whole m) (acts_at m.done m.acts))
behind_acts_fits m are fits = all_acted_fits (whole m) (acts_at m.done m.acts) (acts_are m.done m.acts are) fits

pub cycle_fits : (m : Machine) → AllByRecursion IsAct m.acts → StageFits (whole m) → StageFits (whole (cycle m))
cycle_fits m are fits =
    let acted = all_acted (whole m) (acts_at m.done m.acts) in
    let first = turned m.setup0 m.done acted in
    let last : StageFits (turned m.setup1 m.done (swapped first.stage)).stage =
    turned_fits m.setup1 m.done (swapped first.stage)
    (swapped_fits first.stage (turned_fits m.setup0 m.done acted (behind_acts_fits m are fits))) in
    record { own = last.other; other = last.own; world = last.world }

-- what is given stays
pub given_stays : (n : ℕ) (m : Machine)
    → ((cycles n m).acts ≡ m.acts) × ((cycles n m).setup0 ≡ m.setup0) × ((cycles n m).setup1 ≡ m.setup1)
given_stays zero m = (refl, refl, refl)
given_stays (suc n) m = given_stays n m

pub cycles_fit : (n : ℕ) (m : Machine) → AllByRecursion IsAct m.acts → StageFits (whole m) → StageFits (whole (cycles n m))
cycles_fit zero m are fits = fits
cycles_fit (suc n) m are fits =
    cycle_fits (cycles n m) (subst (AllByRecursion IsAct) (sym (given_stays n m).0) are) (cycles_fit n m are fits)

-- ---- its start

pub start_fits : (image : Contents) → IsImage image → AreBytes image.init → CoreFits (at_start image)
start_fits image is bytes =
    let ram = with_fits 0x1E00 image.data_at image.init (zeros 0x1E00) (omega (arith, is.placed.within)) bytes
    (record { size = zeros_size 0x1E00; all = zeros_all (λ v. v < 256) 0x1E00 (omega arith) }) in
    record {
      registers_size = zeros_size 124;
      registers_bytes = zeros_all (λ v. v < 256) 124 (omega arith);
      ram_size = ram.size;
      ram_bytes = ram.all;
    }

pub side_start_fits : (image : Contents) (started : Bool) → IsImage image → AreBytes image.init → SideFits (side_at_start image started)
side_start_fits image started is bytes =
    record { core = start_fits image is bytes; window = zeros_all (λ v. v < 256) 0x200 (omega arith) }

module _ {X : Type 0} (P : X → Type 0) where
  all_replicate : (n : ℕ) (v : X) → P v → AllByRecursion P (replicate n v)
  all_replicate zero v h = tt
  all_replicate (suc n) v h = (h, all_replicate n v h)

pub world_start_fits : WorldFits world_at_start
unfolding world_at_start
world_start_fits = record {
  shared = zeros_all (λ v. v < 256) 0x3000 (omega arith);
  outside = zeros_all (λ v. v < 256) 0x10000 (omega arith);
  pads = all_replicate AreWords 3 (replicate 30 0) (all_replicate (λ v. v < 2 ^ 32) 30 0 (omega arith));
  inputs = all_replicate (λ v. v < 2 ^ 16) 2 0 (omega arith);
}
