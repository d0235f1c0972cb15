-- A number's bytes, the lowest first: the kit's words.
use Rattle.std.specs.Prelude.{◌≡◌, ℕ, List, take, drop}
use Rattle.std.specs.Int.{byte_len, from_le_bytes, Width as Kind}
use Rattle.prunum.specs.Width.{byte_count}
use Rattle.prunum.specs.declared.width.Width.{Width}
pub use Rattle.byteorder.specs.Endian.{little_bytes, little_number}

-- some width has so many bytes
abbrev pub IsByteCount : ℕ → Type 0
IsByteCount n = (w : Width) × (n ≡ byte_count w)

-- the number of this kind that stands in the bytes from a place on
abbrev pub number_at : Kind → ℕ → List ℕ → ℕ
number_at w at bytes = from_le_bytes w (take (byte_len w) (drop at bytes))
