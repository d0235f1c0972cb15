-- The parts of a register, as SPRUIJ2 names them, and numbers put into them.
use Rattle.std.specs.Prelude.{ℕ, ◌+◌, List, ◌++◌, length, take, drop}
use Rattle.std.specs.Int.{w32, to_le_bytes}
use Rattle.isa.specs.declared.field.Part.{Part}
use Rattle.isa.specs.declared.field.Part.TheVariants as parts

-- the first byte of a part in its register, and how many bytes it has
abbrev pub first_byte : Part → ℕ
first_byte parts.B0 = 0
first_byte parts.B1 = 1
first_byte parts.B2 = 2
first_byte parts.B3 = 3
first_byte parts.W0 = 0
first_byte parts.W1 = 1
first_byte parts.W2 = 2
first_byte parts.All = 0

abbrev pub part_length : Part → ℕ
part_length parts.B0 = 1
part_length parts.B1 = 1
part_length parts.B2 = 1
part_length parts.B3 = 1
part_length parts.W0 = 2
part_length parts.W1 = 2
part_length parts.W2 = 2
part_length parts.All = 4

-- a number cut to a part, the low byte first
abbrev pub part_bytes : Part → ℕ → List ℕ
part_bytes part n = take (part_length part) (to_le_bytes w32 n)

-- the list with these bytes from a place on
abbrev pub with_bytes : ℕ → List ℕ → List ℕ → List ℕ
with_bytes at bytes list = take at list ++ (bytes ++ drop (at + length bytes) list)
