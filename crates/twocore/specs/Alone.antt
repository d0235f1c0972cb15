-- Each core runs alone: what it does is what it would do by itself over the values that it reads.
use Rattle.std.specs.Prelude.{◌≡◌, ℕ, ◌+◌, ◌<◌, List, ◌++◌, map, None}
use Rattle.prutrace.specs.declared.event.Event.{Event}
use Rattle.prutrace.specs.declared.event.Stamped.{Stamped}
use Rattle.std.specs.List.{AllByRecursion}
use Rattle.isa.specs.Image.{Contents, IsImage}
use Rattle.behaviour.specs.Machine.{exec}
use Rattle.corestep.specs.declared.out.Stop.{Stop}
use Rattle.corestep.specs.declared.out.Stop.TheVariants.{Going, Halted, Stuck}
use Rattle.corestep.specs.Step.{inst_at}
use Rattle.corerun.specs.Solo.{Alone, solo, alone_step}
use Rattle.corerun.specs.Fits.{AreBytes}
use Rattle.corerun.specs.Values.{values_of}
use Rattle.hostscript.specs.declared.script.Script.{Script}
use Rattle.hostscript.specs.Acts.{IsAct}
use Rattle.twocore.specs.declared.side.Side.{Side}
use Rattle.twocore.specs.World.{Stage}
use Rattle.twocore.specs.Word.{Turned, turned}
use Rattle.twocore.specs.Machine.{Machine, acts_at, all_acted, swapped, cycles}

-- the events without their cycles
abbrev pub events_of : List Stamped → List Event
events_of trace = map (λ s. s.event) trace

-- a core that is stuck goes on by itself, to be stuck at once
abbrev pub standing : Stop → Stop
standing Going = Going
standing Halted = Halted
standing Stuck = Going

-- the core by itself, with so many values behind those that it has read
abbrev pub alone_as : Side → List Stamped → List ℕ → Alone
alone_as side trace behind =
    record { core = side.core; stands = standing side.stop; left = behind; shown = events_of trace; count = side.count }

-- The run of the core alone, over the values of its own events and whatever follows them, comes after as many instructions to this very
-- core, with these events, and goes on from there. Where the core is stuck no word is at its counter.
pub record RunsAlone (image : Contents) (side : Side) (trace : List Stamped) : Type 0 where
  pub runs : (behind : List ℕ) (more : ℕ)
      → solo image (values_of (events_of trace) ++ behind) (side.count + more) ≡ exec (alone_step image) more (alone_as side trace behind)
  pub stuck : side.stop ≡ Stuck → inst_at image.words side.core.pc ≡ None

-- ---- nobody else writes its private RAM

-- the machine in its next cycle behind the acts, and behind core 0
abbrev pub behind_acts : Machine → Stage
behind_acts m = all_acted (record { own = m.zero; other = m.one; world = m.world }) (acts_at m.done m.acts)

abbrev pub behind_zero : Machine → Stage
behind_zero m = (turned m.setup0 m.done (behind_acts m)).stage

abbrev pub behind_one : Machine → Stage
behind_one m = (turned m.setup1 m.done (swapped (behind_zero m))).stage

-- in the next cycle core 1 leaves the private part of core 0's RAM as it is, and core 0 that of core 1's
abbrev pub SparesZero : Machine → Type 0
SparesZero m = (behind_one m).other.core.ram ≡ (behind_zero m).own.core.ram

abbrev pub SparesOne : Machine → Type 0
SparesOne m = (behind_zero m).other.core.ram ≡ (behind_acts m).other.core.ram

-- and so in each of so many cycles
abbrev pub InEach : (Machine → Type 0) → ℕ → Machine → Type 0
InEach P n m = (k : ℕ) → k < n → P (cycles k m)

-- images whose data are bytes, and a script whose acts are in their ranges
pub record AreGiven (image0 image1 : Contents) (script : Script) : Type 0 where
  pub image0_is : IsImage image0
  pub image1_is : IsImage image1
  pub bytes0 : AreBytes image0.init
  pub bytes1 : AreBytes image1.init
  pub acts : AllByRecursion IsAct script.acts
