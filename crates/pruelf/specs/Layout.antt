-- The parts of an executable one behind the other, each filled with bytes of 0 to a multiple of 4; its section headers; and the
-- room that is left for a part where each part behind it takes its least: 16 bytes of the resource table, 16 of the symbols, 4 of
-- their names with what fills them, and 72 of the sections' names with what fills them.
use Rattle.std.specs.Prelude.{ℕ, ◌+◌, ◌-◌, ◌*◌, ◌/◌, ◌%◌, ◌^◌, min, max, List, [], ◌∷◌, ◌++◌, codes}
use Rattle.std.specs.List.{flat_map}
use Rattle.pruelf.specs.declared.plan.Plan.{Plan}
use Rattle.pruelf.specs.declared.form.Form.{Form}
use Rattle.pruelf.specs.declared.span.Span.{Span}

-- ---- where the parts stand

-- how many bytes of 0 stand behind a part of this length
abbrev pub padding : ℕ → ℕ
padding length = (4 - length % 4) % 4

abbrev pub data_offset : Plan → ℕ
data_offset p = 116 + p.code

abbrev pub notes_offset : Plan → ℕ
notes_offset p = data_offset p + p.init + padding p.init

abbrev pub table_offset : Plan → ℕ
table_offset p = notes_offset p + p.notes

abbrev pub symbols_offset : Plan → ℕ
symbols_offset p = table_offset p + p.table

abbrev pub names_offset : Plan → ℕ
names_offset p = symbols_offset p + p.symbols

abbrev pub section_names_offset : Plan → ℕ
section_names_offset p = names_offset p + p.names + padding p.names

-- ---- section headers

-- the sections' names, each behind a byte of 0, and one at the end
abbrev pub section_names : List ℕ
section_names =
    0 ∷ flat_map (λ name. name ++ 0 ∷ [])
    (codes ".text" ∷ codes ".data" ∷ codes ".bss" ∷ codes ".pru.notes" ∷ codes ".resource_table" ∷ codes ".symtab" ∷ codes ".strtab"
    ∷ codes ".shstrtab" ∷ [])

-- a section header but for its size: where its name begins, its type and flags, where it stands in memory and in the file
abbrev pub part : ℕ → ℕ → ℕ → ℕ → ℕ → Form
part name kind flags address offset =
    record {
      name = name;
      kind = kind;
      flags = flags;
      address = address;
      offset = offset;
      link = 0;
      info = 0;
      alignment = 4;
      entry_size = 0;
    }

-- the fields before the size, and those behind it
abbrev pub fields_before : Form → List ℕ
fields_before f = f.name ∷ f.kind ∷ f.flags ∷ f.address ∷ f.offset ∷ []

abbrev pub fields_behind : Form → List ℕ
fields_behind f = f.link ∷ f.info ∷ f.alignment ∷ f.entry_size ∷ []

-- program bits that are loaded and executed, or loaded and written; no bits; program bits that aren't loaded; symbols; strings
abbrev pub code_form : Form
code_form = part 1 1 6 0 116

abbrev pub data_form : Plan → Form
data_form p = part 7 1 3 p.data_at (data_offset p)

abbrev pub zero_form : Plan → Form
zero_form p = part 13 8 3 (p.data_at + p.init) (data_offset p + p.init)

abbrev pub notes_form : Plan → Form
notes_form p = part 18 1 0 0 (notes_offset p)

abbrev pub table_form : Plan → Form
table_form p = part 29 1 0 0 (table_offset p)

-- the symbols' names are section 7, and the first symbol that isn't null is symbol 1
abbrev pub symbols_form : Plan → Form
symbols_form p =
    record { name = 45; kind = 2; flags = 0; address = 0; offset = symbols_offset p; link = 7; info = 1; alignment = 4; entry_size = 16 }

abbrev pub names_form : Plan → Form
names_form p = record {
  name = 53;
  kind = 3;
  flags = 0;
  address = 0;
  offset = names_offset p;
  link = 0;
  info = 0;
  alignment = 1;
  entry_size = 0;
}

abbrev pub section_names_form : Plan → Form
section_names_form p =
    record {
      name = 61;
      kind = 3;
      flags = 0;
      address = 0;
      offset = section_names_offset p;
      link = 0;
      info = 0;
      alignment = 1;
      entry_size = 0;
    }

-- ---- what numbers may stand where

-- The section headers stand at a multiple of 4, behind the least file's parts, and end below 2 ^ 31.
abbrev pub sections_span : Span
sections_span = record { least = 224; most = 2 ^ 31 - 361; unit = 4 }

-- at most 2,048 words
abbrev pub code_span : ℕ → Span
code_span sections_at = record { least = 0; most = min (sections_at - 224) 8192; unit = 4 }

abbrev pub data_at_span : Span
data_at_span = record { least = 0x10; most = 0x1DFC; unit = 4 }

-- the data ends at 0x1E00 at most
abbrev pub init_span : ℕ → ℕ → ℕ → Span
init_span sections_at code data_at = record { least = 0; most = min (0x1E00 - data_at) (sections_at - (224 + code)); unit = 1 }

abbrev pub memory_span : ℕ → ℕ → Span
memory_span data_at init = record { least = init; most = 0x1E00 - data_at; unit = 1 }

abbrev pub notes_span : Plan → Span
notes_span p = record { least = 0; most = p.sections_at - (notes_offset p + 108); unit = 8 }

abbrev pub table_span : Plan → Span
table_span p = record { least = 16; most = p.sections_at - (table_offset p + 92); unit = 52 }

abbrev pub symbols_span : Plan → Span
symbols_span p = record { least = 16; most = p.sections_at - (symbols_offset p + 76); unit = 16 }

abbrev pub names_room : Plan → ℕ
names_room p = p.sections_at - (names_offset p + 72)

-- The parts end where the section headers begin, and each symbol's name, the null symbol's too, has its byte of 0.
abbrev pub names_span : Plan → Span
names_span p = record { least = max (names_room p - 3) (p.symbols / 16); most = names_room p; unit = 1 }
