-- Reading what an executable tells of itself: its header, its program headers and its section headers.
use Rattle.std.specs.Prelude.{ℕ, ◌+◌, ◌-◌, ◌==◌, if◌then◌else◌, List, [], ◌∷◌, length, Result, Ok, Err}
use Rattle.std.specs.Int.{w16, w32}
use Rattle.std.specs.Str.{bytes_eq}
use Rattle.pruelf.specs.declared.fault.LoadCause.TheVariants.{Header, Segment, Section}
use Rattle.pruelf.specs.declared.fault.LoadFault.{LoadFault}
use Rattle.pruelf.specs.declared.form.Form.{Form}
use Rattle.pruelf.specs.declared.plan.Plan.{Plan}
use Rattle.pruelf.specs.declared.segments.LoadSizes.{LoadSizes}
use Rattle.pruelf.specs.declared.span.Span.{Span}
use Rattle.pruelf.specs.Fields.{◌>>=◌, bytes_in, fixed_in, within_in, wrong, only}
use Rattle.pruelf.specs.Layout.{sections_span, code_span, data_at_span, init_span, memory_span, notes_span, table_span}
use Rattle.pruelf.specs.Layout.{symbols_span, names_span, fields_before, fields_behind, code_form, data_form, zero_form, notes_form}
use Rattle.pruelf.specs.Layout.{table_form, symbols_form, names_form, section_names_form}

-- ---- the header

-- a 32-bit little-endian ELF file of version 1
abbrev pub identification : List ℕ
identification = 0x7F ∷ 0x45 ∷ 0x4C ∷ 0x46 ∷ 1 ∷ 1 ∷ 1 ∷ 0 ∷ 0 ∷ 0 ∷ 0 ∷ 0 ∷ 0 ∷ 0 ∷ 0 ∷ 0 ∷ []

-- all 16 bytes are one field
unfoldable pub identified_in : ℕ → List ℕ → Result (List ℕ) LoadFault
identified_in end bytes = do
  front ← bytes_in 16 end bytes
  if bytes_eq front.0 identification then Ok front.1 else Err (wrong Header end bytes)

-- Executable, for the PRU; version 1, entry 0, program headers at 52; where the section headers stand; no flags; the sizes of the
-- header and of a program header, of which there are 2, and of a section header, of which there are 9; the sections' names are section 8.
unfoldable pub header_in : ℕ → List ℕ → Result (ℕ × List ℕ) LoadFault
header_in end bytes = do
  rest ← identified_in end bytes
  rest ← fixed_in Header w16 (2 ∷ 144 ∷ []) end rest
  rest ← fixed_in Header w32 (1 ∷ 0 ∷ 52 ∷ []) end rest
  at ← within_in Header sections_span end rest
  rest ← fixed_in Header w32 (0 ∷ []) end at.1
  rest ← fixed_in Header w16 (52 ∷ 32 ∷ 2 ∷ 40 ∷ 9 ∷ 8 ∷ []) end rest
  Ok (at.0, rest)

-- ---- the program headers

-- Loaded from 116 to address 0, with as many bytes in memory as in the file, read and executed, at multiples of 4.
unfoldable pub code_in : ℕ → ℕ → List ℕ → Result (ℕ × List ℕ) LoadFault
code_in sections_at end bytes = do
  rest ← fixed_in Segment w32 (1 ∷ 116 ∷ 0 ∷ 0 ∷ []) end bytes
  code ← within_in Segment (code_span sections_at) end rest
  rest ← fixed_in Segment w32 (code.0 ∷ 5 ∷ 4 ∷ []) end code.1
  Ok (code.0, rest)

-- Loaded from behind the code to the data's address, with the zero part in memory alone, read and written, at multiples of 4.
unfoldable pub segments_in : ℕ → ℕ → List ℕ → Result (LoadSizes × List ℕ) LoadFault
segments_in sections_at end bytes = do
  code ← code_in sections_at end bytes
  rest ← fixed_in Segment w32 (1 ∷ (116 + code.0) ∷ []) end code.1
  data_at ← within_in Segment data_at_span end rest
  rest ← fixed_in Segment w32 (data_at.0 ∷ []) end data_at.1
  init ← within_in Segment (init_span sections_at code.0 data_at.0) end rest
  memory ← within_in Segment (memory_span data_at.0 init.0) end init.1
  rest ← fixed_in Segment w32 (6 ∷ 4 ∷ []) end memory.1
  Ok (record { code = code.0; data_at = data_at.0; init = init.0; memory = memory.0 }, rest)

-- ---- the section headers

-- a section header of this form, whose size is in the span
unfoldable pub section_in : Form → Span → ℕ → List ℕ → Result (ℕ × List ℕ) LoadFault
section_in form span end bytes = do
  rest ← fixed_in Section w32 (fields_before form) end bytes
  size ← within_in Section span end rest
  rest ← fixed_in Section w32 (fields_behind form) end size.1
  Ok (size.0, rest)

-- what is known before the section headers are read
abbrev pub begun : ℕ → LoadSizes → Plan
begun sections_at s =
    record {
      sections_at = sections_at;
      code = s.code;
      data_at = s.data_at;
      init = s.init;
      memory = s.memory;
      notes = 0;
      table = 0;
      symbols = 0;
      names = 0;
    }

-- the null section, and the sections that are loaded
unfoldable pub loaded_in : Plan → ℕ → List ℕ → Result (List ℕ) LoadFault
loaded_in p end bytes = do
  rest ← fixed_in Section w32 (0 ∷ 0 ∷ 0 ∷ 0 ∷ 0 ∷ 0 ∷ 0 ∷ 0 ∷ 0 ∷ 0 ∷ []) end bytes
  code ← section_in code_form (only p.code) end rest
  init ← section_in (data_form p) (only p.init) end code.1
  zero ← section_in (zero_form p) (only (p.memory - p.init)) end init.1
  Ok zero.1

abbrev pub with_notes : Plan → ℕ → Plan
with_notes p size = record p { notes = size }

abbrev pub with_table : Plan → ℕ → Plan
with_table p size = record p { table = size }

abbrev pub with_symbols : Plan → ℕ → Plan
with_symbols p size = record p { symbols = size }

abbrev pub with_names : Plan → ℕ → Plan
with_names p size = record p { names = size }

-- the notes and the resource table
unfoldable pub noted_in : Plan → ℕ → List ℕ → Result (Plan × List ℕ) LoadFault
noted_in p end bytes = do
  notes ← section_in (notes_form p) (notes_span p) end bytes
  table ← section_in (table_form (with_notes p notes.0)) (table_span (with_notes p notes.0)) end notes.1
  Ok (with_table (with_notes p notes.0) table.0, table.1)

-- the symbols, their names and the sections' names
unfoldable pub named_in : Plan → ℕ → List ℕ → Result (Plan × List ℕ) LoadFault
named_in p end bytes = do
  symbols ← section_in (symbols_form p) (symbols_span p) end bytes
  names ← section_in (names_form (with_symbols p symbols.0)) (names_span (with_symbols p symbols.0)) end symbols.1
  last ← section_in (section_names_form (with_names (with_symbols p symbols.0) names.0)) (only 71) end names.1
  Ok (with_names (with_symbols p symbols.0) names.0, last.1)

unfoldable pub sections_in : Plan → ℕ → List ℕ → Result (Plan × List ℕ) LoadFault
sections_in p end bytes = do
  rest ← loaded_in p end bytes
  noted ← noted_in p end rest
  named_in noted.0 end noted.1
