-- The machine that runs operations: its state, and what it can do in one.
use Rattle.std.specs.Prelude.{ℕ, zero, suc, ◌+◌, ◌-◌, ◌%◌, ◌==◌, ◌&&◌, ◌||◌, not, Bool, true, false, nat_lt, nat_le, List, []}
use Rattle.std.specs.Prelude.{◌∷◌, ◌++◌, length, map, Option, Some, None, slice_index, if◌then◌else◌}
use Rattle.std.specs.List.{list_all}
use Rattle.behaviour.specs.declared.stop.Stop.TheVariants.{Dry, Undefined}
use Rattle.behaviour.specs.Ran.{Ran, Done, Stopped, and_then}
use Rattle.prunum.specs.Bytes.{little_number}
use Rattle.prunum.specs.Number.{wrap}
use Rattle.prunum.specs.Width.{byte_count}
use Rattle.memorymap.specs.Windows.{in_own_window, in_window}
use Rattle.prunum.specs.declared.width.Width.{Width}
use Rattle.prutrace.specs.declared.event.Event.{Event}
use Rattle.prutrace.specs.declared.event.Event.TheVariants as event
use Rattle.prutrace.specs.declared.event.Place.{Place}
use Rattle.midcode.specs.declared.register.VReg.{VReg}
use Rattle.midcode.specs.Stored.{Stored}

-- why an operation is wild
pub data Wild : Type 0 where
  -- it reads a register that was not written since its call began
  UnsetRegister : Wild
  -- a byte of a plain access is in no object
  OutsideObjects : Wild
  -- the address of a volatile access is no multiple of its width
  Misaligned : Wild
  -- it lies outside the windows
  OutsideWindows : Wild
  -- the access is marked own and lies outside the own window
  NotOwn : Wild
  -- a loop is run for more turns than its jump back carries
  MoreTurns : Wild
  -- or is left before
  FewerTurns : Wild

-- A call that runs: its function and the place of its next operation, what its registers hold, where they were written, and how
-- often each jump back that carries turns was taken since its loop was come to, by the place of the jump.
pub record Frame : Type 0 where
  pub function : ℕ
  pub place : ℕ
  pub registers : ℕ → Option ℕ
  pub taken : ℕ → ℕ

-- A call that waits for another's value: its frame, and the register that the value goes to.
pub record Caller : Type 0 where
  pub frame : Frame
  pub to : Option VReg

pub record State : Type 0 where
  pub frame : Frame
  pub callers : List Caller
  -- the private memory, by address
  pub memory : ℕ → ℕ
  -- the values that are left to be read
  pub values : List ℕ
  pub events : List Event
  -- the charges of the operations so far
  pub charge : ℕ

-- what is done in a state
abbrev pub Does : Type 0 → Type 0
Does A = State → Ran Wild State A

abbrev pub giving : {A : Type 0} → A → Does A
giving a s = Done a s

abbrev pub done : Does (Unit {0})
done s = Done tt s

-- what is done may depend on the state
abbrev pub with_state : {A : Type 0} → (State → Does A) → Does A
with_state f s = f s s

abbrev pub in_turn : {A B : Type 0} → Does A → (A → Does B) → Does B
in_turn first rest s = and_then (first s) rest

-- it is wild where the test fails
abbrev pub sure : Wild → Bool → Does (Unit {0})
sure w true s = Done tt s
sure w false s = Stopped (Undefined w) s

-- ---- registers

abbrev pub known : Option ℕ → Does ℕ
known None s = Stopped (Undefined UnsetRegister) s
known (Some v) s = Done v s

abbrev pub get : VReg → Does ℕ
get r s = known (s.frame.registers r.0) s

abbrev pub with_register : (ℕ → Option ℕ) → ℕ → ℕ → ℕ → Option ℕ
with_register registers r v q = if q == r then Some v else registers q

abbrev pub put : VReg → ℕ → Does (Unit {0})
put r v s = Done tt (record s { frame = record s.frame { registers = with_register s.frame.registers r.0 v } })

-- ---- places

abbrev pub at_place : ℕ → Does (Unit {0})
at_place place s = Done tt (record s { frame = record s.frame { place = place } })

abbrev pub onwards : Does (Unit {0})
onwards s = at_place (s.frame.place + 1) s

-- ---- plain memory

-- the object at an address has the byte
abbrev pub has_byte : ℕ → Stored → ℕ → Bool
has_byte address o byte = nat_le address byte && nat_lt byte (address + o.bytes)

-- some object has the byte
abbrev pub in_objects : List ℕ → List Stored → ℕ → Bool
in_objects (a ∷ rest) (o ∷ os) byte = has_byte a o byte || in_objects rest os byte
in_objects _ _ byte = false

-- so many addresses in a row
abbrev pub range : ℕ → ℕ → List ℕ
range from zero = []
range from (suc n) = from ∷ range (from + 1) n

abbrev pub are_in_objects : List ℕ → List Stored → ℕ → ℕ → Bool
are_in_objects addresses objects from count = list_all (in_objects addresses objects) (range from count)

abbrev pub bytes_at : (ℕ → ℕ) → ℕ → ℕ → List ℕ
bytes_at memory from count = map memory (range from count)

-- bytes written from an address on
abbrev pub stored : (ℕ → ℕ) → ℕ → List ℕ → ℕ → ℕ
stored memory from bytes at =
    if nat_le from at && nat_lt at (from + length bytes) then slice_index bytes (at - from) else memory at

abbrev pub load : List ℕ → List Stored → Width → ℕ → Does ℕ
load addresses objects w at =
    in_turn (sure OutsideObjects (are_in_objects addresses objects at (byte_count w)))
    (λ _ s. Done (little_number (byte_count w) (bytes_at s.memory at (byte_count w))) s)

abbrev pub store : List ℕ → List Stored → ℕ → List ℕ → Does (Unit {0})
store addresses objects at bytes =
    in_turn (sure OutsideObjects (are_in_objects addresses objects at (length bytes)))
    (λ _ s. Done tt (record s { memory = stored s.memory at bytes }))

-- ---- events

abbrev pub show : Event → Does (Unit {0})
show e s = Done tt (record s { events = s.events ++ e ∷ [] })

-- a read takes the next value, cut to its width
abbrev pub read_from : Place → Width → List ℕ → Does ℕ
read_from p w [] s = Stopped Dry s
read_from p w (v ∷ vs) s =
    Done (wrap w v) (record s { values = vs; events = s.events ++ event.Read p w (wrap w v) ∷ [] })

abbrev pub read : Place → Width → Does ℕ
read p w s = read_from p w s.values s

-- a volatile access that is not wild
abbrev pub allowed : Bool → Width → ℕ → Does (Unit {0})
allowed own w at =
    in_turn (sure Misaligned (at % byte_count w == 0)) (λ _.
    in_turn (sure OutsideWindows (in_window at)) (λ _.
    sure NotOwn (not own || in_own_window at)))
