-- The fields of a record: numbers of one, two or four bytes, one behind the other, the lowest byte first.
-- ELF specification, book I, "Data Representation" and the encoding ELFDATA2LSB.
use Rattle.std.specs.Prelude.{ℕ, ◌<◌, ◌^◌, List}
use Rattle.std.specs.List.{flat_map, AllByRecursion}
use Rattle.std.specs.Int.{Width, byte_len, to_le_bytes}
pub use Rattle.prunum.specs.Bytes.{number_at}

-- how wide a field is, and its number
abbrev pub Field : Type 0
Field = Width × ℕ

abbrev pub FieldFits : Field → Type 0
FieldFits f = f.1 < 256 ^ byte_len f.0

abbrev pub FieldsFit : List Field → Type 0
FieldsFit fields = AllByRecursion FieldFits fields

-- the bytes of the fields
abbrev pub fields_bytes : List Field → List ℕ
fields_bytes fields = flat_map (λ f. to_le_bytes f.0 f.1) fields
