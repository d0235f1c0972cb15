-- Program headers. ELF specification, book I, "Program Header": Elf32_Phdr.
use Rattle.std.specs.Prelude.{ℕ, true, List, [], ◌∷◌}
use Rattle.std.specs.Int.{w32}
use Rattle.elfrec.specs.declared.segment.Segment.{Segment}
use Rattle.elfrec.specs.Field.{Field, FieldsFit, fields_bytes, number_at}
use Rattle.elfrec.specs.Record.{Format}

abbrev pub segment_fields : Segment → List Field
segment_fields s =
    (w32, s.segment_type) ∷ (w32, s.offset) ∷ (w32, s.virtual_address) ∷ (w32, s.physical_address)
    ∷ (w32, s.file_size) ∷ (w32, s.memory_size) ∷ (w32, s.flags) ∷ (w32, s.alignment) ∷ []

abbrev pub SegmentFits : Segment → Type 0
SegmentFits s = FieldsFit (segment_fields s)

-- the program header that 32 bytes are
abbrev pub segment_of : List ℕ → Segment
segment_of bytes = record {
  segment_type = number_at w32 0 bytes;
  offset = number_at w32 4 bytes;
  virtual_address = number_at w32 8 bytes;
  physical_address = number_at w32 12 bytes;
  file_size = number_at w32 16 bytes;
  memory_size = number_at w32 20 bytes;
  flags = number_at w32 24 bytes;
  alignment = number_at w32 28 bytes;
}

abbrev pub segment_format : Format Segment
segment_format = record {
  size = 32;
  bytes = λ s. fields_bytes (segment_fields s);
  from_bytes = segment_of;
  has_right_sizes = λ _. true;
}
