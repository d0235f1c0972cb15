-- Reading an executable: what it tells of itself, and then its parts.
use Rattle.std.specs.Prelude.{ℕ, ◌+◌, ◌-◌, ◌*◌, ◌/◌, ◌==◌, if◌then◌else◌, List, [], ◌∷◌, length, drop, replicate, None, Result, Ok, Err}
use Rattle.std.specs.Int.{w8}
use Rattle.isa.specs.declared.note.Note.{Note}
use Rattle.isa.specs.Image.{Contents}
use Rattle.pruelf.specs.declared.fault.LoadCause.TheVariants.{Pad, Section, Trailing}
use Rattle.pruelf.specs.declared.fault.LoadFault.{LoadFault}
use Rattle.pruelf.specs.declared.executable.Parts.{Parts}
use Rattle.pruelf.specs.declared.plan.Plan.{Plan}
use Rattle.pruelf.specs.declared.symbol.Sym.{Sym}
use Rattle.pruelf.specs.Fields.{◌>>=◌, wrong, bytes_in, fixed_in, many_in}
use Rattle.pruelf.specs.Front.{header_in, segments_in, begun, sections_in}
use Rattle.pruelf.specs.Layout.{padding, section_names}
use Rattle.pruelf.specs.Parts.{word_in, note_in, resources_in, entries_in, names_in}

-- what an executable holds: an image, and besides the symbols and the resource table
pub record Held : Type 0 where
  pub image : Contents
  pub symbols : List Sym
  pub table : List ℕ

abbrev pub held : Parts → Held
held p = record {
  image = record { words = p.words.items; data_at = p.data_at; init = p.init.now; zero = p.zero; notes = p.notes.items };
  symbols = p.symbols.items;
  table = p.table.now;
}

-- the words and the data
pub record Loaded : Type 0 where
  pub words : List ℕ
  pub init : List ℕ

abbrev pub pad_in : ℕ → ℕ → List ℕ → Result (List ℕ) LoadFault
pad_in length end bytes = fixed_in Pad w8 (replicate (padding length) 0) end bytes

unfoldable pub memory_in : Plan → ℕ → List ℕ → Result (Loaded × List ℕ) LoadFault
memory_in p end bytes = do
  words ← many_in (word_in end) (p.code / 4) None bytes
  init ← bytes_in p.init end words.1
  rest ← pad_in p.init end init.1
  Ok (record { words = words.0; init = init.0 }, rest)

-- the symbols and their names, and the sections' names
unfoldable pub symbols_in : Plan → ℕ → List ℕ → Result (List Sym × List ℕ) LoadFault
symbols_in p end bytes = do
  entries ← entries_in p.names (p.symbols / 16 - 1) end bytes
  symbols ← names_in p.names entries.0 end entries.1
  rest ← pad_in p.names end symbols.1
  rest ← fixed_in Section w8 section_names end rest
  rest ← fixed_in Pad w8 (0 ∷ []) end rest
  Ok (symbols.0, rest)

-- the parts in the order of the file
unfoldable pub parts_in : Plan → ℕ → List ℕ → Result Held LoadFault
parts_in p end bytes = do
  loaded ← memory_in p end bytes
  notes ← many_in (note_in loaded.0.words end) (p.notes / 8) None loaded.1
  table ← resources_in p.table end notes.1
  symbols ← symbols_in p end table.1
  Ok (record {
    image = record { words = loaded.0.words; data_at = p.data_at; init = loaded.0.init; zero = p.memory - p.init; notes = notes.0 };
    symbols = symbols.0;
    table = table.0;
  })

-- What the bytes hold. The header is judged first, then the program headers, the section headers, the other parts in the order of
-- the file, and that nothing stands behind the section headers.
unfoldable pub executable_in : List ℕ → Result Held LoadFault
executable_in bytes = do
  at ← header_in (length bytes) bytes
  loads ← segments_in at.0 (length bytes) at.1
  plan ← sections_in (begun at.0 loads.0) (length bytes) (drop at.0 bytes)
  held ← parts_in plan.0 (length bytes) loads.1
  if length plan.1 == 0 then Ok held else Err (wrong Trailing (length bytes) plan.1)

-- the image alone
abbrev pub image_in : List ℕ → Result Contents LoadFault
image_in bytes = executable_in bytes >>= λ held. Ok held.image
