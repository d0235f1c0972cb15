-- Symbols. ELF specification, book I, "Symbol Table": Elf32_Sym.
use Rattle.std.specs.Prelude.{ℕ, true, List, [], ◌∷◌}
use Rattle.std.specs.Int.{w8, w16, w32}
use Rattle.elfrec.specs.declared.symbol.Symbol.{Symbol}
use Rattle.elfrec.specs.Field.{Field, FieldsFit, fields_bytes, number_at}
use Rattle.elfrec.specs.Record.{Format}

abbrev pub symbol_fields : Symbol → List Field
symbol_fields s =
    (w32, s.name) ∷ (w32, s.value) ∷ (w32, s.size) ∷ (w8, s.info) ∷ (w8, s.other) ∷ (w16, s.section) ∷ []

abbrev pub SymbolFits : Symbol → Type 0
SymbolFits s = FieldsFit (symbol_fields s)

-- the symbol that 16 bytes are
abbrev pub symbol_of : List ℕ → Symbol
symbol_of bytes = record {
  name = number_at w32 0 bytes;
  value = number_at w32 4 bytes;
  size = number_at w32 8 bytes;
  info = number_at w8 12 bytes;
  other = number_at w8 13 bytes;
  section = number_at w16 14 bytes;
}

abbrev pub symbol_format : Format Symbol
symbol_format = record {
  size = 16;
  bytes = λ s. fields_bytes (symbol_fields s);
  from_bytes = symbol_of;
  has_right_sizes = λ _. true;
}
