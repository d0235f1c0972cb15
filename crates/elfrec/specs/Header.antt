-- The ELF header. ELF specification, book I, "ELF Header": Elf32_Ehdr.
use Rattle.std.specs.Prelude.{ℕ, ◌≡◌, ◌==◌, ◌&&◌, List, [], ◌∷◌, ◌++◌, length, take}
use Rattle.std.specs.Int.{w16, w32}
use Rattle.elfrec.specs.declared.header.Header.{Header}
use Rattle.elfrec.specs.Field.{Field, FieldsFit, fields_bytes, number_at}
use Rattle.elfrec.specs.Record.{Format}
use Rattle.elfrec.specs.Section.{section_format}
use Rattle.elfrec.specs.Segment.{segment_format}

-- the fields behind the identification
abbrev pub header_fields : Header → List Field
header_fields h =
    (w16, h.file_type) ∷ (w16, h.machine) ∷ (w32, h.version) ∷ (w32, h.entry) ∷ (w32, h.program_header_offset)
    ∷ (w32, h.section_header_offset) ∷ (w32, h.flags) ∷ (w16, h.header_size) ∷ (w16, h.program_header_size)
    ∷ (w16, h.program_header_count) ∷ (w16, h.section_header_size) ∷ (w16, h.section_header_count)
    ∷ (w16, h.section_name_table) ∷ []

abbrev pub HeaderFits : Header → Type 0
HeaderFits h = FieldsFit (header_fields h) × (length h.identification ≡ 16)

-- the header that 52 bytes are
abbrev pub header_of : List ℕ → Header
header_of bytes = record {
  identification = take 16 bytes;
  file_type = number_at w16 16 bytes;
  machine = number_at w16 18 bytes;
  version = number_at w32 20 bytes;
  entry = number_at w32 24 bytes;
  program_header_offset = number_at w32 28 bytes;
  section_header_offset = number_at w32 32 bytes;
  flags = number_at w32 36 bytes;
  header_size = number_at w16 40 bytes;
  program_header_size = number_at w16 42 bytes;
  program_header_count = number_at w16 44 bytes;
  section_header_size = number_at w16 46 bytes;
  section_header_count = number_at w16 48 bytes;
  section_name_table = number_at w16 50 bytes;
}

-- the sizes of program headers and section headers have to be those of this format
abbrev pub header_format : Format Header
header_format = record {
  size = 52;
  bytes = λ h. h.identification ++ fields_bytes (header_fields h);
  from_bytes = header_of;
  has_right_sizes = λ h. h.program_header_size == segment_format.size && h.section_header_size == section_format.size;
}
