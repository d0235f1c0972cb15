-- Relocations with an addend. ELF specification, book I, "Relocation": Elf32_Rela. The addend is in two's complement.
use Rattle.std.specs.Prelude.{ℕ, true, List, [], ◌∷◌, FitsSigned}
use Rattle.std.specs.Int.{w32, cast_signed, cast_unsigned}
use Rattle.elfrec.specs.declared.rela.Rela.{Rela}
use Rattle.elfrec.specs.Field.{Field, FieldsFit, fields_bytes, number_at}
use Rattle.elfrec.specs.Record.{Format}

abbrev pub rela_fields : Rela → List Field
rela_fields r = (w32, r.offset) ∷ (w32, r.info) ∷ (w32, cast_unsigned w32 r.addend) ∷ []

abbrev pub RelaFits : Rela → Type 0
RelaFits r = FieldsFit (rela_fields r) × FitsSigned w32 r.addend

-- the relocation that 12 bytes are
abbrev pub rela_of : List ℕ → Rela
rela_of bytes = record {
  offset = number_at w32 0 bytes;
  info = number_at w32 4 bytes;
  addend = cast_signed w32 (number_at w32 8 bytes);
}

abbrev pub rela_format : Format Rela
rela_format = record {
  size = 12;
  bytes = λ r. fields_bytes (rela_fields r);
  from_bytes = rela_of;
  has_right_sizes = λ _. true;
}
