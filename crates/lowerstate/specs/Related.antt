-- When a state of the C meaning and a state of the machine of operations are related. One relation serves every place of a function, at
-- any depth of calls.
use Rattle.std.specs.Prelude.{ℕ, zero, ◌≡◌, ◌+◌, ◌*◌, ◌<◌, ◌≤◌, ◌⊎◌, true, IsTrue, List, ◌++◌, length, map}
use Rattle.std.specs.Prelude.{Option, Some, slice_get}
use Rattle.std.specs.List.{AllByRecursion}
use Rattle.prunum.specs.Bytes.{little_number}
use Rattle.prunum.specs.Width.{byte_count}
use Rattle.prunum.specs.declared.width.Width.{Width}
use Rattle.midcode.specs.declared.op.OpKind.{OpKind}
use Rattle.midcode.specs.Function.{standing, are_distinct}
use Rattle.midcode.specs.Program.{Program}
use Rattle.midcode.specs.Machine.{Caller, bytes_at, are_in_objects}
use Rattle.midcode.specs.Meaning.{function_at, kinds_of_function, registers_of}
use Rattle.cmean.specs.Datum.{Datum}
use Rattle.cmean.specs.State.{State, Leaves, is_alive, leaves_of}
use Rattle.lowerstate.specs.Counted.{Counted}
use Rattle.lowerstate.specs.Held.{Meant, meant_width, Part, Laid, Home, InRegister, InMemory, Held}

-- ---- what stays the same

-- in a run
pub record Fixed : Type 0 where
  pub program : Program
  pub addresses : List ℕ  -- of the program's objects
  pub layouts : List Laid  -- of what plain pointers point to
  pub budget : ℕ  -- in source steps
  pub most : ℕ  -- the steps between two solid operations, at the most

-- in a call
pub record Call : Type 0 where
  pub function : ℕ
  pub ops : List OpKind
  pub widths : List Width  -- of its registers
  pub variables : ℕ  -- its registers below this one are locals; the others hold values on the way
  pub outer : List Home  -- the homes of the objects that were there before it
  pub own : List Home  -- the homes of its locals
  pub kept : ℕ → Leaves  -- what the locals of the callers hold that are registers
  pub callers : List Caller

-- the function is in the program, its labels stand once, and its locals have registers of their own
pub record IsCall (r : Fixed) (c : Call) : Type 0 where
  pub ops : kinds_of_function (function_at r.program c.function) ≡ c.ops
  pub widths : registers_of (function_at r.program c.function) ≡ c.widths
  pub once : IsTrue (are_distinct (standing c.ops))
  pub local : (k q : ℕ) (t : Meant) → slice_get c.own k ≡ Some (InRegister q t)
      → (q < c.variables) × (slice_get c.widths q ≡ Some (meant_width t))
  pub apart : (k l q : ℕ) (t u : Meant) → slice_get c.own k ≡ Some (InRegister q t) → slice_get c.own l ≡ Some (InRegister q u) → k ≡ l

-- ---- what a place asks for

-- a register, and the value that it holds
pub record Kept : Type 0 where
  pub register : ℕ
  pub meant : Meant
  pub datum : Datum

pub record Point : Type 0 where
  pub place : ℕ  -- of the next operation
  pub kept : List Kept  -- the values on the way
  pub hand : ℕ  -- cycles that the steps so far have paid for and that are still to be spent
  pub owed : ℕ  -- steps since the last solid operation, at the most
  pub steps : ℕ  -- steps that are done, at the least

-- ---- related states

-- the homes of all objects of the run, in the order of their numbers; those at the end are of calls that have ended
abbrev pub homes_with : Call → List Home → List Home
homes_with c later = (c.outer ++ c.own) ++ later

module _ (r : Fixed) where
  -- a register holds a value
  abbrev pub Holds : List Home → (ℕ → Option ℕ) → ℕ → Meant → Datum → Type 0
  Holds homes registers q t d = (v : ℕ) × (registers q ≡ Some v) × Held r.layouts homes t d v

  abbrev pub IsKept : List Home → (ℕ → Option ℕ) → Kept → Type 0
  IsKept homes registers k = Holds homes registers k.register k.meant k.datum

  -- the number that a leaf's bytes hold
  abbrev pub number_at : (ℕ → ℕ) → ℕ → Width → ℕ
  number_at memory from width = little_number (byte_count width) (bytes_at memory from (byte_count width))

  -- The objects that are bytes. A leaf that is set has its value; objects that are alive are disjoint parts of the program's objects.
  pub record IsStored (homes : List Home) (s : State) (memory : ℕ → ℕ) : Type 0 where
    pub all : length homes ≡ length s.objects
    pub leaf : (o at i : ℕ) (whole : Laid) (part : Part) (d : Datum) → slice_get homes o ≡ Some (InMemory at whole)
        → slice_get whole.parts i ≡ Some part → slice_get (leaves_of s o) i ≡ Some (Some d)
        → Held r.layouts homes part.meant d (number_at memory (at + part.offset) (meant_width part.meant))
    pub room : (o at : ℕ) (whole : Laid) → slice_get homes o ≡ Some (InMemory at whole)
        → (0x10 ≤ at) × (at + whole.bytes ≤ 0x1E00) × (are_in_objects r.addresses r.program.objects at whole.bytes ≡ true)
    pub disjoint : (o p at by : ℕ) (whole other : Laid) → slice_get homes o ≡ Some (InMemory at whole)
        → slice_get homes p ≡ Some (InMemory by other) → is_alive s o ≡ true → is_alive s p ≡ true
        → (o ≡ p) ⊎ ((at + whole.bytes ≤ by) ⊎ (by + other.bytes ≤ at))

  -- The locals of the call at hand that are registers: one that is set has its value.
  abbrev pub AreSet : Call → List Home → State → (ℕ → Option ℕ) → Type 0
  AreSet c homes s registers = (k q : ℕ) (t : Meant) (d : Datum) → slice_get c.own k ≡ Some (InRegister q t)
      → slice_get (leaves_of s (length c.outer + k)) zero ≡ Some (Some d) → Holds homes registers q t d

  -- Those of its callers are as they were.
  abbrev pub AreKept : Call → State → Type 0
  AreKept c s = (k q : ℕ) (t : Meant) → slice_get c.outer k ≡ Some (InRegister q t) → leaves_of s k ≡ c.kept k

  pub record Related (c : Call) (x : Point) (s : State) (m : Counted) : Type 0 where
    pub later : List Home
    pub place : m.state.frame.place ≡ x.place
    pub function : m.state.frame.function ≡ c.function
    pub callers : m.state.callers ≡ c.callers
    pub locals : s.locals ≡ length c.outer
    pub events : map (λ e. e.event) s.shown ≡ m.state.events
    pub values : s.values ≡ m.state.values
    pub stored : IsStored (homes_with c later) s m.state.memory
    pub variables : AreSet c (homes_with c later) s m.state.frame.registers
    pub outer : AreKept c s
    pub kept : AllByRecursion (IsKept (homes_with c later) m.state.frame.registers) x.kept
    -- Each step pays 512 cycles, and 100 are for what runs before `main`.
    pub paid : m.state.charge + 100 + x.hand ≤ 512 * s.steps
    pub late : s.steps ≤ r.most * m.least + x.owed
    pub left : s.steps ≤ r.budget
    pub done : x.steps ≤ s.steps

-- behind a step: it pays 512 cycles, is one more since the last solid operation, and is done
abbrev pub stepped : Point → ℕ → Point
stepped x hand = record x { hand = hand; owed = x.owed + 1; steps = x.steps + 1 }
