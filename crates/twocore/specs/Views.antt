-- The machine as its calls see it, and what a debugger reads of it.
use Rattle.std.specs.Prelude.{◌≡◌, ℕ, ◌≤◌, ◌==◌, if◌then◌else◌, Bool, true, false, List, map, length, Option, Some, None}
use Rattle.std.specs.List.{range_with_len}
use Rattle.prutrace.specs.declared.event.Stamped.{Stamped}
use Rattle.corestep.specs.Fields.{register}
use Rattle.twocore.specs.declared.side.Side.{Side}
use Rattle.twocore.specs.declared.side.Word.{Word}
use Rattle.twocore.specs.declared.outcome.View.{View}
use Rattle.twocore.specs.Memory.{spot_of}
use Rattle.twocore.specs.World.{Stage, byte_behind}
use Rattle.twocore.specs.Machine.{Machine, swapped}

-- the machine, and for how many events each of its traces still has a place
pub record Held : Type 0 where
  pub machine : Machine
  pub room : ℕ

-- Core 0 is set up as 0 and core 1 as 1. In a cycle each does at most one instruction and takes at most one arbitration number.
pub record IsSteady (core0 core1 done : ℕ) (zero one : Side) : Type 0 where
  pub first : core0 ≡ 0
  pub second : core1 ≡ 1
  pub few : done ≤ 2000000
  pub count0 : zero.count ≤ done
  pub count1 : one.count ≤ done
  pub waited0 : zero.waited ≤ done
  pub waited1 : one.waited ≤ done

abbrev pub side_of : ℕ → Machine → Side
side_of core m = if core == 0 then m.zero else m.one

abbrev pub trace_of : ℕ → Machine → List Stamped
trace_of core m = if core == 0 then m.trace0 else m.trace1

abbrev pub is_between : Option Word → Bool
is_between None = true
is_between (Some word) = false

-- a core's counter, whether it is between two words, how it stands, R0 to R30, and how many events it has shown
abbrev pub view_as : Side → ℕ → View
view_as side events = record {
  pc = side.core.pc;
  between = is_between side.word;
  stop = side.stop;
  regs = map (register side.core.registers) (range_with_len 0 31);
  events = events;
}

abbrev pub view_of : ℕ → Machine → View
view_of core m = view_as (side_of core m) (length (trace_of core m))

-- all as core 0 sees it
abbrev pub stage_of : Machine → Stage
stage_of m = record { own = m.zero; other = m.one; world = m.world }

-- the byte that a load of one byte reads; the interrupt controller gives none to a single byte
abbrev pub byte_of : ℕ → ℕ → Machine → ℕ
byte_of core addr m = byte_behind (if core == 0 then stage_of m else swapped (stage_of m)) (spot_of addr) 0
