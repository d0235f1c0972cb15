-- A core's cycle. A word takes as many cycles as its table says, and all its effect in the last of them.
use Rattle.std.specs.Prelude.{ℕ, ◌+◌, ◌-◌, ◌==◌, ◌&&◌, Bool, true, false, if◌then◌else◌, List, []}
use Rattle.std.specs.Prelude.{◌++◌, map, length, slice_index, Option, Some, None}
use Rattle.prutrace.specs.declared.event.Event.{Event}
use Rattle.prutrace.specs.declared.event.Event.TheVariants.{Enter, Leave, DelayIn, DelayOut}
use Rattle.prutrace.specs.declared.event.Stamped.{Stamped}
use Rattle.isa.specs.declared.inst.Inst.{Inst}
use Rattle.isa.specs.declared.inst.Inst.TheVariants as inst
use Rattle.corestep.specs.declared.out.Input.{Input}
use Rattle.corestep.specs.declared.out.Need.{Need}
use Rattle.corestep.specs.declared.out.Need.TheVariants as needs
use Rattle.corestep.specs.declared.out.Stop.{Stop}
use Rattle.corestep.specs.declared.out.Stop.TheVariants.{Going, Halted, Stuck}
use Rattle.corestep.specs.declared.table.Class.{Class}
use Rattle.corestep.specs.declared.table.Class.TheVariants as classes
use Rattle.corestep.specs.Core.{State, zeros}
use Rattle.corestep.specs.Cost.{cost}
use Rattle.corestep.specs.Memory.{address_of, class_of, is_private}
use Rattle.corestep.specs.Pieces.{bank_number}
use Rattle.corestep.specs.Step.{Stepped, inst_at, stepped}
use Rattle.twocore.specs.declared.setup.Setup.{Setup}
use Rattle.twocore.specs.declared.side.Side.{Side}
use Rattle.twocore.specs.declared.side.Word.{Word}
use Rattle.twocore.specs.declared.world.World.{World}
use Rattle.twocore.specs.Memory.{spot_of}
use Rattle.twocore.specs.World.{Stage, bytes_in, stored_in, r31_of, all_led_out, pads_at, pads_after}

-- ---- a word begins

-- the address of a memory word; 0 of any other word
abbrev pub access_at : State → Inst → ℕ
access_at s (inst.Load a) = address_of s.registers a
access_at s (inst.Store a) = address_of s.registers a
access_at s _ = 0

-- the same of what a word needs
abbrev pub needed_address : Need → ℕ
needed_address (needs.Access addr len store) = addr
needed_address _ = 0

-- an access of the shared side or outside waits
abbrev pub class_waits : Class → Bool
class_waits classes.Own = false
class_waits classes.Shared = true
class_waits classes.Outside = true

abbrev pub waits : State → Inst → Bool
waits s i = class_waits (class_of (access_at s i))

-- so long as the core's next arbitration number says; where none is left, 0
abbrev pub wait_of : Setup → Side → Inst → ℕ
wait_of setup side i = if waits side.core i then slice_index setup.arb side.waited else 0

-- the cycles of the word
abbrev pub cycles_of : Setup → Side → Inst → ℕ
cycles_of setup side i = cost setup.table i (access_at side.core i) (wait_of setup side i)

abbrev pub beginning : Setup → ℕ → Side → Option Inst → Side
beginning setup t side None = record side { stop = Stuck }
beginning setup t side (Some i) =
    record side {
      word = Some (record { first = t; last = t + cycles_of setup side i - 1 });
      waited = side.waited + (if waits side.core i then 1 else 0);
    }

-- A core between words begins the one at its counter, in cycle t. Past the code it is stuck.
abbrev pub begun_by : Setup → ℕ → Side → Option Word → Side
begun_by setup t side None = beginning setup t side (inst_at setup.image.words side.core.pc)
begun_by setup t side (Some word) = side

abbrev pub begun : Setup → ℕ → Side → Side
begun setup t side = begun_by setup t side side.word

-- ---- a word ends

-- so many numbers, 0 behind those that are given
abbrev pub filled : ℕ → List ℕ → List ℕ
filled n numbers = numbers ++ zeros (n - length numbers)

-- the bytes of a load that isn't private, and the registers of an XIN
abbrev pub bytes_for : Stage → Inst → List ℕ
bytes_for s (inst.Load a) =
    let addr = address_of s.own.core.registers a in
    if is_private addr a.len then [] else bytes_in s (spot_of addr) a.len
bytes_for s _ = []

abbrev pub pads_for : Stage → Inst → List ℕ
pads_for s (inst.Xin t) = pads_at s.world.pads (bank_number t.bank) t.first t.count
pads_for s _ = []

-- what the word at the core's counter reads, as all stands now
abbrev pub input_for : ℕ → Stage → Inst → Input
input_for core s i =
    record { r31 = r31_of core s.world; bytes = filled 124 (bytes_for s i); pads = filled 4 (pads_for s i) }

-- The marks before a word's own events have its first cycle, those behind them the cycle after its last, and its own events its last.
abbrev pub stamp_of : ℕ → ℕ → Event → ℕ
stamp_of first last (Enter region) = first
stamp_of first last (DelayIn n) = first
stamp_of first last (DelayOut n) = last + 1
stamp_of first last (Leave region) = last + 1
stamp_of first last _ = last

abbrev pub stamped_by : ℕ → ℕ → Event → Stamped
stamped_by first last event = record { event = event; cycle = stamp_of first last event }

-- what a core's cycle leaves behind it, and what shows of it
pub record Turned : Type 0 where
  pub stage : Stage
  pub shown : List Stamped

abbrev pub quiet : Stage → Turned
quiet s = record { stage = s; shown = [] }

-- the core after its word
abbrev pub side_after : Side → Stepped → Side
side_after side did = record side { core = did.core; stop = did.out.stop; word = None; count = side.count + 1 }

-- what the word leads to outside the core: its registers of the scratchpad, its store, R30 and R31
abbrev pub world_after : ℕ → Stage → Inst → Stepped → Stage
world_after core s i did =
    let moved = record s {
      own = side_after s.own did;
      world = record s.world { pads = pads_after s.world.pads s.own.core.registers i };
    } in
    let after = stored_in moved (spot_of did.out.at) did.out.stored in
    record after { world = all_led_out core after.world did.out.events }

abbrev pub ended : Setup → ℕ → Stage → Word → Option Inst → Turned
ended setup t s word None = quiet s
ended setup t s word (Some i) =
    let did = stepped setup.image s.own.core (input_for setup.core s i) in
    record { stage = world_after setup.core s i did; shown = map (stamped_by word.first t) did.out.events }

-- In the last cycle of its cost the word is done.
abbrev pub worked_by : Setup → ℕ → Stage → Option Word → Turned
worked_by setup t s None = quiet s
worked_by setup t s (Some word) =
    if word.last == t then ended setup t s word (inst_at setup.image.words s.own.core.pc) else quiet s

abbrev pub worked : Setup → ℕ → Stage → Turned
worked setup t s = worked_by setup t s s.own.word

-- ---- a core's cycle

abbrev pub is_going : Stop → Bool
is_going Going = true
is_going Halted = false
is_going Stuck = false

-- A core that is halted, stuck or not started does nothing.
abbrev pub turned : Setup → ℕ → Stage → Turned
turned setup t s =
    if s.own.started && is_going s.own.stop then worked setup t (record s { own = begun setup t s.own }) else quiet s
