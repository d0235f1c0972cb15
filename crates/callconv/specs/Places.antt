-- Where arguments stand. Bytes of registers are counted from byte 0 of R0: R14 begins at byte 56, R22 at byte 88.
use Rattle.std.specs.Prelude.{◌≡◌, ℕ, ◌+◌, ◌-◌, ◌*◌, ◌/◌, ◌≤◌, List, [], ◌∷◌, map}
use Rattle.prunum.specs.Width.{byte_count}
use Rattle.prunum.specs.declared.width.Width.{Width}
use Rattle.isa.specs.declared.field.Field.{Field}
use Rattle.isa.specs.declared.field.Part.{Part}
use Rattle.isa.specs.declared.field.Part.TheVariants.{B0, B1, B2, B3, W0, W1, W2, All}

-- ---- fields as bytes

abbrev pub part_first : Part → ℕ
part_first B0 = 0
part_first B1 = 1
part_first B2 = 2
part_first B3 = 3
part_first W0 = 0
part_first W1 = 1
part_first W2 = 2
part_first All = 0

abbrev pub part_size : Part → ℕ
part_size B0 = 1
part_size B1 = 1
part_size B2 = 1
part_size B3 = 1
part_size W0 = 2
part_size W1 = 2
part_size W2 = 2
part_size All = 4

-- the first byte of a field, and how many it has
abbrev pub first_byte : Field → ℕ
first_byte f = 4 * f.reg + part_first f.part

abbrev pub field_size : Field → ℕ
field_size f = part_size f.part

-- a field of so many bytes that begins at a multiple of its size
pub record IsAligned (f : Field) (bytes first : ℕ) : Type 0 where
  pub at : first_byte f ≡ first
  pub size : field_size f ≡ bytes

-- ---- arguments

-- the next byte at which a number of this width may begin
abbrev pub next_place : ℕ → Width → ℕ
next_place at w = (at + (byte_count w - 1)) / byte_count w * byte_count w

-- Each argument is at the next place behind the one before.
abbrev pub argument_bytes : ℕ → List Width → List ℕ
argument_bytes at [] = []
argument_bytes at (w ∷ ws) = next_place at w ∷ argument_bytes (next_place at w + byte_count w) ws

-- each field begins at or behind the end of the one before, from a byte on, and all end by another
abbrev pub Ascend : ℕ → List Field → ℕ → Type 0
Ascend from [] to = from ≤ to
Ascend from (f ∷ fs) to = (from ≤ first_byte f) × Ascend (first_byte f + field_size f) fs to

-- the places of arguments of these widths
pub record IsPlaces (ws : List Width) (fields : List Field) : Type 0 where
  pub bytes : map first_byte fields ≡ argument_bytes 56 ws
  pub sizes : map field_size fields ≡ map byte_count ws
