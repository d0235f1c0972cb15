-- The bytes of the registers, each with the first place from which on nothing that was put there is needed.
use Rattle.std.specs.Prelude.{◌≡◌, ℕ, ◌+◌, ◌%◌, ◌<◌, ◌≤◌, ◌⊎◌, List, slice_index}
use Rattle.prunum.specs.Width.{byte_count}
use Rattle.prunum.specs.declared.width.Width.{Width}
use Rattle.isa.specs.declared.field.Field.{Field}
use Rattle.callconv.specs.Places.{first_byte, field_size}
use Rattle.subreg.specs.declared.home.Interval.{Interval}
use Rattle.subreg.specs.declared.home.Home.{Home}
use Rattle.subreg.specs.declared.home.Home.TheVariants as home
use Rattle.subreg.specs.Allocation.{IsField}

-- nothing is needed at this place in so many bytes
pub record AreFree (free_from : List ℕ) (first size place : ℕ) : Type 0 where
  pub each : (byte : ℕ) → first ≤ byte → byte < first + size → slice_index free_from byte ≤ place

-- something is needed in one of so many bytes
pub record IsHeld (free_from : List ℕ) (first size place : ℕ) : Type 0 where
  pub byte : ℕ
  pub from : first ≤ byte
  pub to : byte < first + size
  pub later : place < slice_index free_from byte

-- These bytes are taken before a place, and no others change.
pub record AreTaken (old new : List ℕ) (first size until : ℕ) : Type 0 where
  pub own : (byte : ℕ) → first ≤ byte → byte < first + size → slice_index new byte ≡ until
  pub others : (byte : ℕ) → (byte < first) ⊎ (first + size ≤ byte) → slice_index new byte ≡ slice_index old byte

-- An aligned field of the width begins at this byte, and nothing is needed there.
pub record IsFreeField (free_from : List ℕ) (w : Width) (place first : ℕ) : Type 0 where
  pub aligned : first % byte_count w ≡ 0
  pub from : 20 ≤ first
  pub to : first + byte_count w ≤ 104
  pub free : AreFree free_from first (byte_count w) place

-- no aligned field of the width is free
abbrev pub AreHeld : List ℕ → Width → ℕ → Type 0
AreHeld free_from w place = (g : Field) → IsField g w → IsHeld free_from (first_byte g) (field_size g) place

-- A span is given a field that is free at its start and taken to its end, or the next slot where no field is free.
pub record IsGivenField (old new : List ℕ) (w : Width) (span : Interval) (f : Field) : Type 0 where
  pub field : IsField f w
  pub free : AreFree old (first_byte f) (field_size f) span.from
  pub taken : AreTaken old new (first_byte f) (field_size f) (span.to + 1)

pub record IsGivenSlot (old new : List ℕ) (w : Width) (span : Interval) (slots n : ℕ) : Type 0 where
  pub next : n ≡ slots
  pub full : AreHeld old w span.from
  pub same : new ≡ old

abbrev pub IsGiven : List ℕ → List ℕ → Width → Interval → ℕ → Home → Type 0
IsGiven old new w span slots (home.Field f) = IsGivenField old new w span f
IsGiven old new w span slots (home.Slot n) = IsGivenSlot old new w span slots n

-- how many slots are given after this home
abbrev pub slots_with : Home → ℕ → ℕ
slots_with (home.Field f) slots = slots
slots_with (home.Slot n) slots = slots + 1
