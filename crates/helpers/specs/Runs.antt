-- What it is for a body of items to compute a number of R14 and R15, wherever it stands in a code.
use Rattle.std.specs.Prelude.{◌≡◌, ℕ, suc, ◌+◌, ◌*◌, ◌%◌, ◌^◌, ◌<◌, List, [], length, take, drop, slice_get, Option, Some, None}
use Rattle.std.specs.Prelude.{option_map, option_and_then}
use Rattle.prunum.specs.Bytes.{little_bytes, little_number}
use Rattle.isa.specs.declared.program.Item.{Item}
use Rattle.corestep.specs.declared.out.Stop.TheVariants.{Going}
use Rattle.corestep.specs.Core.{State}
use Rattle.corestep.specs.Effect.{Given}
use Rattle.corestep.specs.Fields.{bytes_at}
use Rattle.corerun.specs.Code.{Code, code_step}
use Rattle.corerun.specs.Items.{Placed, placed, place_aimed, notes_of_placed}

-- ---- where a body stands

-- the place that an instruction of a body aims at, where its first instruction is at place `base`
abbrev pub aim_in : List Item → ℕ → Option Placed → Option ℕ
aim_in items base None = None
aim_in items base (Some x) = option_map (λ p. base + p) (option_and_then (place_aimed items) x.aim)

-- The instructions of the items stand in the code one behind the other from a place on, with their notes, and aim at one another.
pub record StandsAt (code : Code) (base : ℕ) (items : List Item) : Type 0 where
  pub inst : (p : ℕ) → p < length (placed [] items) → code.inst (base + p) ≡ option_map (λ x. x.inst) (slice_get (placed [] items) p)
  pub notes : (p : ℕ) → p < length (placed [] items) → code.notes (base + p) ≡ notes_of_placed (slice_get (placed [] items) p)
  pub target : (p : ℕ) → p < length (placed [] items) → code.target (base + p) ≡ aim_in items base (slice_get (placed [] items) p)

-- ---- runs

-- whatever it is given, the core's next step shows nothing, stores nothing outside, and goes on
pub record StepsTo (code : Code) (s t : State) : Type 0 where
  pub does : (g : Given) → code_step code s g ≡ record { core = t; out = record { events = []; at = 0; stored = []; stop = Going } }

-- so many such steps
pub data RunsTo (code : Code) : ℕ → State → State → Type 0 where
  here : (s : State) → RunsTo code 0 s s
  on : (n : ℕ) (s t u : State) → StepsTo code s t → RunsTo code n t u → RunsTo code (suc n) s u

-- ---- calls

-- the bytes of a whole register are those of a number
abbrev pub Holds : List ℕ → ℕ → ℕ → Type 0
Holds registers r n = bytes_at (4 * r) 4 registers ≡ little_bytes 4 n

-- the number in R3.w2
abbrev pub return_number : List ℕ → ℕ
return_number registers = little_number 2 (bytes_at 14 2 registers)

-- The core is at a body's first instruction, with two numbers in R14 and R15, and no LOOP runs.
pub record Begins (base a b : ℕ) (s : State) : Type 0 where
  pub place : s.pc ≡ base
  pub no_loop : s.turning ≡ None
  pub size : length s.registers ≡ 124
  pub first : Holds s.registers 14 a
  pub second : Holds s.registers 15 b
  pub first_fits : a < 2 ^ 32
  pub second_fits : b < 2 ^ 32

-- The core is behind a call that gave a number: R14 to R19 apart, all is as before.
pub record Returns (code : Code) (before : State) (n : ℕ) (after : State) : Type 0 where
  pub place : after.pc ≡ code.place (return_number before.registers % 2 ^ 16)
  pub no_loop : after.turning ≡ None
  pub result : Holds after.registers 14 n
  pub size : length after.registers ≡ 124
  pub below : take 56 after.registers ≡ take 56 before.registers
  pub above : drop 80 after.registers ≡ drop 80 before.registers
  pub ram : after.ram ≡ before.ram

pub record Call (code : Code) (cycles : ℕ) (before : State) (n : ℕ) : Type 0 where
  pub after : State
  pub runs : RunsTo code cycles before after
  pub returns : Returns code before n after

-- Wherever the items stand, and whatever the code's numbering is, they take so many steps from the first of them to their return, and
-- leave the number.
pub record Computes (f : ℕ → ℕ → ℕ) (cycles : ℕ) (items : List Item) : Type 0 where
  pub call : (code : Code) (base a b : ℕ) (s : State) → StandsAt code base items → Begins base a b s → Call code cycles s (f a b)
