-- When a core holds what a function's virtual registers hold: each that is live has its value in its field, or in its slot.
use Rattle.std.specs.Prelude.{◌≡◌, ℕ, ◌+◌, ◌*◌, ◌^◌, ◌<◌, ◌≤◌, ◌⊎◌, List, [], ◌∷◌, length, Option, Some, slice_get}
use Rattle.prunum.specs.Bytes.{little_number}
use Rattle.prunum.specs.Number.{bit_count}
use Rattle.prunum.specs.Width.{byte_count}
use Rattle.prunum.specs.declared.width.Width.{Width}
use Rattle.midcode.specs.declared.register.VReg.{VReg}
use Rattle.corestep.specs.Core.{State}
use Rattle.corestep.specs.Fields.{bytes_at}
use Rattle.callconv.specs.Places.{first_byte}
use Rattle.subreg.specs.declared.home.Home.{Home}
use Rattle.subreg.specs.declared.home.Home.TheVariants as home

-- the number in so many bytes of a list, from a place on
abbrev pub number_at : ℕ → ℕ → List ℕ → ℕ
number_at at len bytes = little_number len (bytes_at at len bytes)

-- slots are four bytes each, one behind the other in the own RAM
abbrev pub slot_place : ℕ → ℕ → ℕ
slot_place slots n = slots + 4 * n

-- what stands in a home of a width
abbrev pub home_value : ℕ → Width → Home → List ℕ → List ℕ → ℕ
home_value slots w (home.Field f) registers ram = number_at (first_byte f) (byte_count w) registers
home_value slots w (home.Slot n) registers ram = number_at (slot_place slots n) (byte_count w) ram

-- A register of this width and home has a value, below 2 to its bits.
pub record Holds (slots : ℕ) (w : Width) (h : Home) (registers ram : List ℕ) (v : ℕ) : Type 0 where
  pub value : home_value slots w h registers ram ≡ v
  pub fits : v < 2 ^ bit_count w

-- All live registers have theirs.
pub record HomesHold (slots : ℕ) (widths : List Width) (homes : List Home) (live : ℕ → Type 0) (values : ℕ → Option ℕ)
    (registers ram : List ℕ) : Type 0 where
  pub each : (r n : ℕ) (w : Width) (h : Home) → live r → slice_get widths r ≡ Some w → slice_get homes r ≡ Some h → values r ≡ Some n
      → Holds slots w h registers ram n

-- ---- what may change

-- a range of bytes shares none with another
abbrev pub AreApart : ℕ → ℕ → ℕ → ℕ → Type 0
AreApart at len first count = (at + len ≤ first) ⊎ (first + count ≤ at)

-- ranges, each by its first byte and how many it has
abbrev pub IsApartFrom : ℕ → ℕ → List (ℕ × ℕ) → Type 0
IsApartFrom at len [] = Unit {0}
IsApartFrom at len (r ∷ ranges) = AreApart at len r.0 r.1 × IsApartFrom at len ranges

-- R0 to R2 and R4, which a work may change besides its result, and R26 to R29, to which operands come from slots
abbrev pub work_scratch : List (ℕ × ℕ)
work_scratch = (0, 12) ∷ (16, 4) ∷ []

abbrev pub scratch : List (ℕ × ℕ)
scratch = (0, 12) ∷ (16, 4) ∷ (104, 16) ∷ []

-- what an operation may change besides, where its result has this width and home
abbrev pub register_ranges : Width → Home → List (ℕ × ℕ)
register_ranges w (home.Field f) = (first_byte f, byte_count w) ∷ scratch
register_ranges w (home.Slot n) = scratch

abbrev pub ram_ranges : ℕ → Width → Home → List (ℕ × ℕ)
ram_ranges slots w (home.Field f) = []
ram_ranges slots w (home.Slot n) = (slot_place slots n, byte_count w) ∷ []

-- there are as many bytes as before, and they are the same but in these ranges
pub record Keeps (ranges : List (ℕ × ℕ)) (before after : List ℕ) : Type 0 where
  pub size : length after ≡ length before
  pub others : (at len : ℕ) → IsApartFrom at len ranges → bytes_at at len after ≡ bytes_at at len before
