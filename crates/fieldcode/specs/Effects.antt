-- What it is for instructions to do an operation on values.
use Rattle.std.specs.Prelude.{◌≡◌, ℕ, ◌+◌, ◌*◌, ◌%◌, ◌^◌, ◌<◌, ◌≤◌, List, length, Option}
use Rattle.prunum.specs.Number.{bit_count}
use Rattle.isa.specs.declared.inst.Inst.{Inst}
use Rattle.corestep.specs.declared.onward.Turning.{Turning}
use Rattle.corerun.specs.Code.{Code}
use Rattle.helpers.specs.Runs.{StandsAt, RunsTo}
use Rattle.subreg.specs.Allocation.{LivesWell}
use Rattle.fieldcode.specs.Insts.{items}
use Rattle.fieldcode.specs.Homes.{Holds, Keeps, home_value, register_ranges, ram_ranges}
use Rattle.fieldcode.specs.Runs.{GoesThrough, come_to, Straight}
use Rattle.fieldcode.specs.Values.{Place, Right, InPlace, Constant}

-- Registers and private RAM of a core, with room for the slots.
pub record HasRoom (slots spills : ℕ) (registers ram : List ℕ) : Type 0 where
  pub full : length registers ≡ 124
  pub ram_full : length ram ≡ 0x1E00
  pub room : slots + 4 * spills ≤ 0x1E00

-- a place as an assignment gives it
abbrev pub IsPlace : ℕ → Place → Type 0
IsPlace spills p = LivesWell spills p.width p.home

abbrev pub IsRight : ℕ → Right → Type 0
IsRight spills (InPlace p) = IsPlace spills p
IsRight spills (Constant n) = Unit {0}

-- the place's register has the value
abbrev pub HasValue : ℕ → Place → List ℕ → List ℕ → ℕ → Type 0
HasValue slots p registers ram v = Holds slots p.width p.home registers ram v

abbrev pub HasRight : ℕ → Right → List ℕ → List ℕ → ℕ → Type 0
HasRight slots (InPlace p) registers ram v = HasValue slots p registers ram v
HasRight slots (Constant n) registers ram v = (n ≡ v) × (v < 2 ^ 32)

-- The number, cut to its width, stands in the result's home, and all else is as before but scratch.
pub record IsPut (slots : ℕ) (to : Place) (n : ℕ) (registers ram after left : List ℕ) : Type 0 where
  pub value : home_value slots to.width to.home after left ≡ n % 2 ^ bit_count to.width
  pub kept : Keeps (register_ranges to.width to.home) registers after
  pub ram_kept : Keeps (ram_ranges slots to.width to.home) ram left

-- the instructions, one behind the other, put it there
pub record Puts (slots : ℕ) (to : Place) (n : ℕ) (is : List Inst) (registers ram : List ℕ) : Type 0 where
  pub after : List ℕ
  pub left : List ℕ
  pub straight : Straight is registers ram after left
  pub put : IsPut slots to n registers ram after left

-- a core at a place of the code
pub record Run (slots : ℕ) (to : Place) (n : ℕ) (is : List Inst) (registers ram : List ℕ) (code : Code) (base : ℕ) (t : Option Turning)
    : Type 0 where
  pub after : List ℕ
  pub left : List ℕ
  pub runs : RunsTo code (length is) (record { pc = base; turning = t; registers = registers; ram = ram })
      (come_to (base + length is) t after left)
  pub put : IsPut slots to n registers ram after left

-- Wherever their items stand, under any numbering, and whatever LOOP goes on round them, a core does each of the instructions once, shows
-- nothing, and puts the number there.
pub record Performs (slots : ℕ) (to : Place) (n : ℕ) (is : List Inst) (registers ram : List ℕ) : Type 0 where
  pub run : (code : Code) (base : ℕ) (t : Option Turning) → StandsAt code base (items is) → GoesThrough base (length is) t
      → Run slots to n is registers ram code base t
