-- The one written form of an executable: the bytes of an image with its symbols and its resource table.
use Rattle.std.specs.Prelude.{◌≡◌, ℕ, ◌+◌, ◌-◌, ◌*◌, ◌^◌, ◌<◌, if◌then◌else◌, Bool, true, false, IsTrue, List, [], ◌∷◌, ◌++◌, length}
use Rattle.std.specs.Prelude.{replicate}
use Rattle.std.specs.List.{flat_map, AllByRecursion}
use Rattle.std.specs.Int.{Width, w16, w32, to_le_bytes}
use Rattle.isa.specs.declared.note.Note.{Note}
use Rattle.isa.specs.Image.{Contents, IsImage}
use Rattle.isa.specs.Note.{kind_number}
use Rattle.restable.specs.declared.trace.Trace.{Trace}
use Rattle.restable.specs.Tables.{IsTrace, table}
use Rattle.pruelf.specs.declared.form.Form.{Form}
use Rattle.pruelf.specs.declared.plan.Plan.{Plan}
use Rattle.pruelf.specs.declared.symbol.Sym.{Sym}
use Rattle.pruelf.specs.declared.symbol.SymbolPart.{SymbolPart}
use Rattle.pruelf.specs.declared.symbol.SymbolPart.TheVariants.{Used, Code, Data, Zero}
use Rattle.pruelf.specs.Front.{identification}
use Rattle.pruelf.specs.Names.{can_name}
use Rattle.pruelf.specs.Layout.{padding, section_names, section_names_offset, fields_before, fields_behind, code_form, data_form}
use Rattle.pruelf.specs.Layout.{zero_form, notes_form, table_form, symbols_form, names_form, section_names_form}

-- ---- what stands in an executable besides its image

abbrev pub is_defined : SymbolPart → Bool
is_defined Used = false
is_defined Code = true
is_defined Data = true
is_defined Zero = true

pub record Besides : Type 0 where
  pub symbols : List Sym
  pub table : List ℕ

-- what the type of a symbol keeps, and that it is defined
pub record IsSymbol (s : Sym) : Type 0 where
  pub value : s.value < 2 ^ 32
  pub size : s.size < 2 ^ 32
  pub name : IsTrue (can_name s.name)
  pub defined : IsTrue (is_defined s.part)

-- its symbols are defined, and its resource table is one of traces
pub record IsExtra (x : Besides) : Type 0 where
  pub symbols : AllByRecursion IsSymbol x.symbols
  pub traces : List Trace
  pub each : AllByRecursion IsTrace traces
  pub table : x.table ≡ table traces

-- ---- bytes

abbrev pub numbers : Width → List ℕ → List ℕ
numbers w values = flat_map (to_le_bytes w) values

-- filled with bytes of 0 to a multiple of 4
abbrev pub filled : List ℕ → List ℕ
filled bytes = bytes ++ replicate (padding (length bytes)) 0

abbrev pub note_bytes : Note → List ℕ
note_bytes n = numbers w16 (n.word ∷ []) ++ (kind_number n.kind ∷ 0 ∷ []) ++ numbers w32 (n.value ∷ [])

abbrev pub info_of : Bool → ℕ
info_of function = if function then 0x12 else 0x11

abbrev pub section_of : SymbolPart → ℕ
section_of Used = 0
section_of Code = 1
section_of Data = 2
section_of Zero = 3

-- a symbol whose name begins at this place
abbrev pub symbol_bytes : ℕ → Sym → List ℕ
symbol_bytes name s = numbers w32 (name ∷ s.value ∷ s.size ∷ []) ++ (info_of s.function ∷ 0 ∷ []) ++ numbers w16 (section_of s.part ∷ [])

-- symbols, of whose names the first begins there
unfoldable pub symbols_bytes : ℕ → List Sym → List ℕ
symbols_bytes name [] = []
symbols_bytes name (s ∷ symbols) = symbol_bytes name s ++ symbols_bytes (name + (length s.name + 1)) symbols

abbrev pub name_bytes : Sym → List ℕ
name_bytes s = s.name ++ 0 ∷ []

abbrev pub names_bytes : List Sym → List ℕ
names_bytes symbols = 0 ∷ flat_map name_bytes symbols

-- ---- the parts

-- how long the parts are
abbrev pub measured : Contents → Besides → Plan
measured i x = record {
  sections_at = 0;
  code = 4 * length i.words;
  data_at = i.data_at;
  init = length i.init;
  memory = length i.init + i.zero;
  notes = 8 * length i.notes;
  table = length x.table;
  symbols = 16 + 16 * length x.symbols;
  names = length (names_bytes x.symbols);
}

abbrev pub plan_of : Contents → Besides → Plan
plan_of i x = record (measured i x) { sections_at = section_names_offset (measured i x) + 72 }

abbrev pub header_bytes : Plan → List ℕ
header_bytes p =
    identification ++ numbers w16 (2 ∷ 144 ∷ []) ++ numbers w32 (1 ∷ 0 ∷ 52 ∷ p.sections_at ∷ 0 ∷ [])
    ++ numbers w16 (52 ∷ 32 ∷ 2 ∷ 40 ∷ 9 ∷ 8 ∷ [])

abbrev pub segments_bytes : Plan → List ℕ
segments_bytes p =
    numbers w32 (1 ∷ 116 ∷ 0 ∷ 0 ∷ p.code ∷ p.code ∷ 5 ∷ 4 ∷ [])
    ++ numbers w32 (1 ∷ (116 + p.code) ∷ p.data_at ∷ p.data_at ∷ p.init ∷ p.memory ∷ 6 ∷ 4 ∷ [])

-- the words, the data and the notes
abbrev pub image_bytes : Contents → List ℕ
image_bytes i = numbers w32 i.words ++ filled i.init ++ flat_map note_bytes i.notes

-- the resource table and the symbols, the null one before them
abbrev pub besides_bytes : Besides → List ℕ
besides_bytes x = x.table ++ replicate 16 0 ++ symbols_bytes 1 x.symbols

-- the symbols' names and the sections' names
unfoldable pub section_names_bytes : List ℕ
section_names_bytes = filled section_names

abbrev pub strings_bytes : Besides → List ℕ
strings_bytes x = filled (names_bytes x.symbols) ++ section_names_bytes

abbrev pub parts_bytes : Contents → Besides → List ℕ
parts_bytes i x = image_bytes i ++ besides_bytes x ++ strings_bytes x

abbrev pub section_bytes : Form → ℕ → List ℕ
section_bytes form size = numbers w32 (fields_before form ++ size ∷ fields_behind form)

-- each section's header, and its size
unfoldable pub sections : Plan → List (Form × ℕ)
sections p =
    (code_form, p.code) ∷ (data_form p, p.init) ∷ (zero_form p, p.memory - p.init) ∷ (notes_form p, p.notes) ∷ (table_form p, p.table)
    ∷ (symbols_form p, p.symbols) ∷ (names_form p, p.names) ∷ (section_names_form p, 71) ∷ []

-- the section headers, the null one before them
unfoldable pub sections_bytes : Plan → List ℕ
sections_bytes p = replicate 40 0 ++ flat_map (λ x. section_bytes x.0 x.1) (sections p)

unfoldable pub front_bytes : Plan → List ℕ
front_bytes p = header_bytes p ++ segments_bytes p

abbrev pub executable : Contents → Besides → List ℕ
executable i x = front_bytes (plan_of i x) ++ parts_bytes i x ++ sections_bytes (plan_of i x)

-- it is fewer than 2 ^ 31 bytes
abbrev pub CanBeWritten : Contents → Besides → Type 0
CanBeWritten i x = (plan_of i x).sections_at + 360 < 2 ^ 31

-- whatever image it stands with
abbrev pub CanAlwaysBeWritten : Besides → Type 0
CanAlwaysBeWritten x = (i : Contents) → IsImage i → CanBeWritten i x
