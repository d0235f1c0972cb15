-- Section headers. ELF specification, book I, "Sections": Elf32_Shdr.
use Rattle.std.specs.Prelude.{ℕ, ◌%◌, ◌==◌, ◌&&◌, ◌||◌, if◌then◌else◌, Bool, true, List, [], ◌∷◌}
use Rattle.std.specs.Int.{w32}
use Rattle.elfrec.specs.declared.section.Section.{Section}
use Rattle.elfrec.specs.declared.section.SectionKind.{SectionKind}
use Rattle.elfrec.specs.declared.section.SectionKind.TheVariants.{Empty, Symbols, Relas, Bytes}
use Rattle.elfrec.specs.Field.{Field, FieldsFit, fields_bytes, number_at}
use Rattle.elfrec.specs.Record.{Format}
use Rattle.elfrec.specs.Rela.{rela_format}
use Rattle.elfrec.specs.Symbol.{symbol_format}

-- what a section of this type holds in the file: SHT_NULL and SHT_NOBITS, SHT_SYMTAB, SHT_RELA, and the others
abbrev pub kind_of : ℕ → SectionKind
kind_of t = if t == 0 || t == 8 then Empty else if t == 2 then Symbols else if t == 4 then Relas else Bytes

abbrev pub section_fields : Section → List Field
section_fields s =
    (w32, s.name) ∷ (w32, s.section_type) ∷ (w32, s.flags.0) ∷ (w32, s.address) ∷ (w32, s.offset)
    ∷ (w32, s.size) ∷ (w32, s.link) ∷ (w32, s.info) ∷ (w32, s.alignment) ∷ (w32, s.entry_size) ∷ []

abbrev pub SectionFits : Section → Type 0
SectionFits s = FieldsFit (section_fields s)

-- the section header that 40 bytes are
abbrev pub section_of : List ℕ → Section
section_of bytes = record {
  name = number_at w32 0 bytes;
  section_type = number_at w32 4 bytes;
  flags = record { 0 = number_at w32 8 bytes };
  address = number_at w32 12 bytes;
  offset = number_at w32 16 bytes;
  size = number_at w32 20 bytes;
  link = number_at w32 24 bytes;
  info = number_at w32 28 bytes;
  alignment = number_at w32 32 bytes;
  entry_size = number_at w32 36 bytes;
}

-- entries have their kind's size, and the section is a whole number of them
abbrev pub has_entry_sizes : SectionKind → ℕ → ℕ → Bool
has_entry_sizes Empty entry_size size = true
has_entry_sizes Symbols entry_size size = entry_size == symbol_format.size && size % symbol_format.size == 0
has_entry_sizes Relas entry_size size = entry_size == rela_format.size && size % rela_format.size == 0
has_entry_sizes Bytes entry_size size = true

abbrev pub section_format : Format Section
section_format = record {
  size = 40;
  bytes = λ s. fields_bytes (section_fields s);
  from_bytes = section_of;
  has_right_sizes = λ s. has_entry_sizes (kind_of s.section_type) s.entry_size s.size;
}
