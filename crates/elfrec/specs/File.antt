-- ELF files: which parts they have, and what is read of one.
use Rattle.std.specs.Prelude.{◌≡◌, ℕ, ◌+◌, ◌*◌, ◌/◌, ◌<◌, ◌≤◌, ◌==◌, max, if◌then◌else◌, List, []}
use Rattle.std.specs.Prelude.{◌∷◌, length, take, drop, slice_index, Result, Ok}
use Rattle.std.specs.List.{flat_map, AllByRecursion}
use Rattle.elfrec.specs.declared.fault.ElfFault.{ElfFault}
use Rattle.elfrec.specs.declared.file.Contents.{Contents}
use Rattle.elfrec.specs.declared.file.Contents.TheVariants as held
use Rattle.elfrec.specs.declared.file.ElfFile.{ElfFile}
use Rattle.elfrec.specs.declared.file.Part.{Part}
use Rattle.elfrec.specs.declared.section.Section.{Section}
use Rattle.elfrec.specs.declared.section.SectionKind.{SectionKind}
use Rattle.elfrec.specs.declared.section.SectionKind.TheVariants.{Empty, Symbols, Relas, Bytes}
use Rattle.elfrec.specs.Header.{HeaderFits, header_format}
use Rattle.elfrec.specs.Record.{◌>>=◌, bytes_at, record_at, records_at}
use Rattle.elfrec.specs.Rela.{RelaFits, rela_format}
use Rattle.elfrec.specs.Section.{SectionFits, kind_of, section_format}
use Rattle.elfrec.specs.Segment.{SegmentFits, segment_format}
use Rattle.elfrec.specs.Symbol.{SymbolFits, symbol_format}

-- ---- the parts of a file

abbrev pub contents_bytes : Contents → List ℕ
contents_bytes held.Empty = []
contents_bytes (held.Symbols symbols) = flat_map symbol_format.bytes symbols
contents_bytes (held.Relas relas) = flat_map rela_format.bytes relas
contents_bytes (held.Bytes bytes) = bytes

-- what each section holds, at its place
abbrev pub section_parts : List Section → List Contents → List Part
section_parts [] contents = []
section_parts (s ∷ sections) [] = []
section_parts (s ∷ sections) (c ∷ contents) =
    record { offset = s.offset; bytes = contents_bytes c } ∷ section_parts sections contents

-- the header, the program headers, the section headers, and what the sections hold
abbrev pub parts : ElfFile → List Part
parts f =
    record { offset = 0; bytes = header_format.bytes f.header }
    ∷ record { offset = f.header.program_header_offset; bytes = flat_map segment_format.bytes f.segments }
    ∷ record { offset = f.header.section_header_offset; bytes = flat_map section_format.bytes f.sections }
    ∷ section_parts f.sections f.contents

-- ---- which sizes belong to the lists

-- the section header says what the section holds
abbrev pub Describes : Section → Contents → Type 0
Describes s held.Empty = kind_of s.section_type ≡ Empty
Describes s (held.Symbols symbols) = (kind_of s.section_type ≡ Symbols) × (s.entry_size ≡ symbol_format.size)
    × (s.size ≡ symbol_format.size * length symbols)
Describes s (held.Relas relas) = (kind_of s.section_type ≡ Relas) × (s.entry_size ≡ rela_format.size)
    × (s.size ≡ rela_format.size * length relas)
Describes s (held.Bytes bytes) = (kind_of s.section_type ≡ Bytes) × (s.size ≡ length bytes)

abbrev pub EachDescribes : List Section → List Contents → Type 0
EachDescribes [] [] = Unit {0}
EachDescribes [] (c ∷ contents) = ⊥
EachDescribes (s ∷ sections) [] = ⊥
EachDescribes (s ∷ sections) (c ∷ contents) = Describes s c × EachDescribes sections contents

-- the sizes and counts in the records are those of the lists
pub record IsMeasured (f : ElfFile) : Type 0 where
  pub program_header_size : f.header.program_header_size ≡ segment_format.size
  pub section_header_size : f.header.section_header_size ≡ section_format.size
  pub segments : f.header.program_header_count ≡ length f.segments
  pub sections : f.header.section_header_count ≡ length f.sections
  pub contents : EachDescribes f.sections f.contents

-- ---- which values the fields can have

abbrev pub ContentsFit : Contents → Type 0
ContentsFit held.Empty = Unit {0}
ContentsFit (held.Symbols symbols) = AllByRecursion SymbolFits symbols
ContentsFit (held.Relas relas) = AllByRecursion RelaFits relas
ContentsFit (held.Bytes bytes) = Unit {0}

-- each field is a number of its width
pub record FileFits (f : ElfFile) : Type 0 where
  pub header : HeaderFits f.header
  pub segments : AllByRecursion SegmentFits f.segments
  pub sections : AllByRecursion SectionFits f.sections
  pub contents : AllByRecursion ContentsFit f.contents

-- ---- a file in bytes

abbrev pub Stands : List ℕ → Part → Type 0
Stands bytes p = take (length p.bytes) (drop p.offset bytes) ≡ p.bytes

-- The bytes are those of the file: each part stands at its place. What stands elsewhere is left open.
pub record IsFileOf (f : ElfFile) (bytes : List ℕ) : Type 0 where
  pub measured : IsMeasured f
  pub fits : FileFits f
  pub stands : AllByRecursion (Stands bytes) (parts f)

-- the byte at i belongs to the part
abbrev pub Covers : Part → ℕ → Type 0
Covers p i = (p.offset ≤ i) × (i < p.offset + length p.bytes)

-- no byte belongs to two parts
abbrev pub AreApart : List Part → Type 0
AreApart [] = Unit {0}
AreApart (p ∷ ps) = AllByRecursion (λ q. (i : ℕ) → Covers p i → Covers q i → ⊥) ps × AreApart ps

-- where the last byte of a part ends
abbrev pub end_of : List Part → ℕ
end_of [] = 0
end_of (p ∷ ps) = max (if length p.bytes == 0 then 0 else p.offset + length p.bytes) (end_of ps)

-- Each part stands at its place, the bytes between them are 0, and the file ends with its last part.
pub record IsLaidOut (ps : List Part) (bytes : List ℕ) : Type 0 where
  pub stands : AllByRecursion (Stands bytes) ps
  pub zeros : (i : ℕ) → AllByRecursion (λ p. ¬ Covers p i) ps → slice_index bytes i ≡ 0
  pub end : length bytes ≡ end_of ps

-- ---- what is read

-- what the section holds
unfoldable pub contents_of : SectionKind → Section → List ℕ → Result Contents ElfFault
contents_of Empty s bytes = Ok held.Empty
contents_of Symbols s bytes = do
  symbols ← records_at symbol_format (s.size / symbol_format.size) s.offset bytes
  Ok (held.Symbols symbols)
contents_of Relas s bytes = do
  relas ← records_at rela_format (s.size / rela_format.size) s.offset bytes
  Ok (held.Relas relas)
contents_of Bytes s bytes = do
  others ← bytes_at s.size s.offset bytes
  Ok (held.Bytes others)

-- what each section holds, by number
unfoldable pub all_contents_of : List Section → List ℕ → Result (List Contents) ElfFault
all_contents_of [] bytes = Ok []
all_contents_of (s ∷ sections) bytes = do
  first ← contents_of (kind_of s.section_type) s bytes
  others ← all_contents_of sections bytes
  Ok (first ∷ others)

-- the header, the program headers, the section headers, and then the sections by number
unfoldable pub file_of : List ℕ → Result ElfFile ElfFault
file_of bytes = do
  header ← record_at header_format 0 bytes
  segments ← records_at segment_format header.program_header_count header.program_header_offset bytes
  sections ← records_at section_format header.section_header_count header.section_header_offset bytes
  contents ← all_contents_of sections bytes
  Ok (record { header = header; segments = segments; sections = sections; contents = contents })
