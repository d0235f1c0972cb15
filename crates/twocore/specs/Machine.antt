-- The machine of two cores: a cycle of it, and what it shows in so many cycles.
use Rattle.std.specs.Prelude.{◌≡◌, ℕ, zero, suc, ◌+◌, ◌==◌, Bool, true, false, not, if◌then◌else◌}
use Rattle.std.specs.Prelude.{List, [], ◌∷◌, ◌++◌, filter, replicate, bit_or, ◌^◌}
use Rattle.std.specs.List.{list_any}
use Rattle.prunum.specs.Width.{byte_count}
use Rattle.prunum.specs.Bytes.{little_bytes}
use Rattle.prutrace.specs.declared.event.Stamped.{Stamped}
use Rattle.isa.specs.Image.{Contents}
use Rattle.corestep.specs.declared.out.Stop.{Stop}
use Rattle.corestep.specs.declared.out.Stop.TheVariants.{Going}
use Rattle.corestep.specs.declared.table.Table.{Table}
use Rattle.corestep.specs.Core.{at_start, zeros}
use Rattle.std.specs.Prelude.{slice_set, None}
use Rattle.hostscript.specs.declared.action.Action.{Action}
use Rattle.hostscript.specs.declared.action.Action.TheVariants.{Poke, Pins, Event, Start}
use Rattle.hostscript.specs.declared.action.Act.{Act}
use Rattle.hostscript.specs.declared.script.Script.{Script}
use Rattle.twocore.specs.declared.setup.Setup.{Setup}
use Rattle.twocore.specs.declared.side.Side.{Side}
use Rattle.twocore.specs.declared.world.World.{World}
use Rattle.twocore.specs.declared.outcome.Outcome.{Outcome}
use Rattle.twocore.specs.Memory.{spot_of}
use Rattle.twocore.specs.World.{Stage, stored_in}
use Rattle.twocore.specs.Word.{Turned, turned}

-- What is given: the acts of the script and, for each core, its number, the cycle table, its image and its arbitration numbers.
-- What there is
-- after so many cycles: both cores, what they share, and what each has shown.
pub record Machine : Type 0 where
  pub acts : List Act
  pub setup0 : Setup
  pub setup1 : Setup
  pub done : ℕ
  pub zero : Side
  pub one : Side
  pub world : World
  pub trace0 : List Stamped
  pub trace1 : List Stamped

-- ---- the script

-- the acts of a cycle, in their order
abbrev pub acts_at : ℕ → List Act → List Act
acts_at t acts = filter (λ a. a.cycle == t) acts

-- the other core's view
abbrev pub swapped : Stage → Stage
swapped s = record { own = s.other; other = s.own; world = s.world }

abbrev pub start : Side → Side
start side = record side { started = true }

-- An act, as core 0 sees the addresses.
abbrev pub acted : Stage → Action → Stage
acted s (Poke addr width value) = stored_in s (spot_of addr) (little_bytes (byte_count width) value)
acted s (Pins core bits) =
    record s { world = record s.world { pins = record s.world.pins { inputs = slice_set s.world.pins.inputs core bits } } }
acted s (Event number) =
    record s { world = record s.world { intc = record s.world.intc { pending = bit_or s.world.intc.pending (2 ^ number) } } }
acted s (Start core) = if core == 0 then record s { own = start s.own } else record s { other = start s.other }

abbrev pub all_acted : Stage → List Act → Stage
all_acted s [] = s
all_acted s (a ∷ acts) = all_acted (acted s a.action) acts

-- ---- a cycle

-- The acts of the cycle happen in their order, then core 0 has its cycle, then core 1.
abbrev pub cycle : Machine → Machine
cycle m =
    let acted = all_acted (record { own = m.zero; other = m.one; world = m.world }) (acts_at m.done m.acts) in
    let first = turned m.setup0 m.done acted in
    let second = turned m.setup1 m.done (swapped first.stage) in
    record m {
      done = m.done + 1;
      zero = second.stage.other;
      one = second.stage.own;
      world = second.stage.world;
      trace0 = m.trace0 ++ first.shown;
      trace1 = m.trace1 ++ second.shown;
    }

abbrev pub cycles : ℕ → Machine → Machine
cycles zero m = m
cycles (suc n) m = cycle (cycles n m)

-- ---- its start

-- a core for which the script has a start waits for it
abbrev pub is_start : ℕ → Action → Bool
is_start core (Start other) = other == core
is_start core _ = false

abbrev pub starts_at_once : ℕ → List Act → Bool
starts_at_once core acts = not (list_any (λ a. is_start core a.action) acts)

abbrev pub side_at_start : Contents → Bool → Side
side_at_start image started = record {
  core = at_start image;
  window = zeros 0x200;
  started = started;
  stop = Going;
  word = None;
  waited = 0;
  count = 0;
}

unfoldable pub world_at_start : World
world_at_start = record {
  shared = zeros 0x3000;
  outside = zeros 0x10000;
  intc = record {
    on = false;
    hosts_on = replicate 10 false;
    pending = 0;
    enabled = 0;
    channels = replicate 64 0;
    hosts = replicate 10 0;
  };
  pads = replicate 3 (replicate 30 0);
  pins = record { inputs = replicate 2 0; outputs = replicate 2 0 };
}

abbrev pub at_start_of : Table → Contents → Contents → Script → Machine
at_start_of table image0 image1 script = record {
  acts = script.acts;
  setup0 = record { core = 0; table = table; image = image0; arb = script.arb0 };
  setup1 = record { core = 1; table = table; image = image1; arb = script.arb1 };
  done = 0;
  zero = side_at_start image0 (starts_at_once 0 script.acts);
  one = side_at_start image1 (starts_at_once 1 script.acts);
  world = world_at_start;
  trace0 = [];
  trace1 = [];
}

-- the machine with all but what was given as it is at the start
abbrev pub restarted : Machine → Machine
restarted m = record m {
  done = 0;
  zero = side_at_start m.setup0.image (starts_at_once 0 m.acts);
  one = side_at_start m.setup1.image (starts_at_once 1 m.acts);
  world = world_at_start;
  trace0 = [];
  trace1 = [];
}

-- ---- what it shows

abbrev pub outcome_of : Machine → Outcome
outcome_of m = record {
  trace0 = m.trace0;
  trace1 = m.trace1;
  count0 = m.zero.count;
  count1 = m.one.count;
  stop0 = m.zero.stop;
  stop1 = m.one.stop;
}

-- so many cycles from the start
abbrev pub M : Table → Contents → Contents → Script → ℕ → Outcome
M table image0 image1 script n = outcome_of (cycles n (at_start_of table image0 image1 script))
