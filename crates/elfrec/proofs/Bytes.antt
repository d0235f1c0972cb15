-- Each kind of record is its bytes, and the bytes are the record.
use Rattle.std.proofs.Common.{◌≡◌, ℕ, zero, suc, ◌+◌, List, [], ◌∷◌, ◌++◌, length, take, refl, sym, ap, subst, ◌∙◌, arith}
use Rattle.std.specs.Prelude.{ℤ}
use Rattle.std.specs.Int.{Width, w8, w16, w32, cast_signed, cast_unsigned}
use Rattle.std.proofs.lemmas.Int.{of_z-to_z, to_z-of_z}
use Rattle.std.proofs.Math.Facts.{sfits_to_z}
use Rattle.std.proofs.lemmas.List.{length-append, length-take, take_at}
use Rattle.elfrec.specs.declared.header.Header.{Header}
use Rattle.elfrec.specs.declared.rela.Rela.{Rela}
use Rattle.elfrec.specs.declared.section.Section.{Section}
use Rattle.elfrec.specs.declared.segment.Segment.{Segment}
use Rattle.elfrec.specs.declared.symbol.Symbol.{Symbol}
use Rattle.elfrec.specs.Field.{Field, FieldsFit, fields_bytes}
use Rattle.elfrec.specs.Header.{HeaderFits, header_fields, header_format}
use Rattle.elfrec.specs.Record.{IsBytes, IsExact}
use Rattle.elfrec.specs.Rela.{RelaFits, rela_fields, rela_format, rela_of}
use Rattle.elfrec.specs.Section.{SectionFits, section_fields, section_format}
use Rattle.elfrec.specs.Segment.{SegmentFits, segment_fields, segment_format}
use Rattle.elfrec.specs.Symbol.{SymbolFits, symbol_fields, symbol_format}
use Rattle.elfrec.proofs.Numbers.{wide8, wide16, wide32, AreWide, AreAll, all_fields_take}
use Rattle.elfrec.proofs.Numbers.{all_fields_again, fields_take, fields_again, fields_of}
use Rattle.elfrec.proofs.Stands.{TextStands, stands_whole, stands_back, whole_stands, stands_both}

-- the number of the k-th field
abbrev number : ℕ → List Field → ℕ
number k [] = 0
number zero (f ∷ fields) = f.1
number (suc k) (f ∷ fields) = number k fields

-- ---- section headers

abbrev section_widths : List Width
section_widths = w32 ∷ w32 ∷ w32 ∷ w32 ∷ w32 ∷ w32 ∷ w32 ∷ w32 ∷ w32 ∷ w32 ∷ []

section_wide : AreWide section_widths
section_wide = (wide32, (wide32, (wide32, (wide32, (wide32, (wide32, (wide32, (wide32, (wide32, (wide32, tt))))))))))

abbrev section_from : List Field → Section
section_from fields = record {
  name = number 0 fields;
  section_type = number 1 fields;
  flags = record { 0 = number 2 fields };
  address = number 3 fields;
  offset = number 4 fields;
  size = number 5 fields;
  link = number 6 fields;
  info = number 7 fields;
  alignment = number 8 fields;
  entry_size = number 9 fields;
}

pub section_exact : IsExact section_format SectionFits
section_exact = record {
  positive = omega arith;
  long = λ s fits. refl;
  same = λ bytes fits e. (all_fields_take section_widths bytes section_wide fits e).same;
  fits = λ bytes fits e. (all_fields_take section_widths bytes section_wide fits e).fit;
  again = λ s fits. ap section_from (all_fields_again (section_fields s) section_wide fits);
}

-- ---- program headers

abbrev segment_widths : List Width
segment_widths = w32 ∷ w32 ∷ w32 ∷ w32 ∷ w32 ∷ w32 ∷ w32 ∷ w32 ∷ []

segment_wide : AreWide segment_widths
segment_wide = (wide32, (wide32, (wide32, (wide32, (wide32, (wide32, (wide32, (wide32, tt))))))))

abbrev segment_from : List Field → Segment
segment_from fields = record {
  segment_type = number 0 fields;
  offset = number 1 fields;
  virtual_address = number 2 fields;
  physical_address = number 3 fields;
  file_size = number 4 fields;
  memory_size = number 5 fields;
  flags = number 6 fields;
  alignment = number 7 fields;
}

pub segment_exact : IsExact segment_format SegmentFits
segment_exact = record {
  positive = omega arith;
  long = λ s fits. refl;
  same = λ bytes fits e. (all_fields_take segment_widths bytes segment_wide fits e).same;
  fits = λ bytes fits e. (all_fields_take segment_widths bytes segment_wide fits e).fit;
  again = λ s fits. ap segment_from (all_fields_again (segment_fields s) segment_wide fits);
}

-- ---- symbols

abbrev symbol_widths : List Width
symbol_widths = w32 ∷ w32 ∷ w32 ∷ w8 ∷ w8 ∷ w16 ∷ []

symbol_wide : AreWide symbol_widths
symbol_wide = (wide32, (wide32, (wide32, (wide8, (wide8, (wide16, tt))))))

abbrev symbol_from : List Field → Symbol
symbol_from fields = record {
  name = number 0 fields;
  value = number 1 fields;
  size = number 2 fields;
  info = number 3 fields;
  other = number 4 fields;
  section = number 5 fields;
}

pub symbol_exact : IsExact symbol_format SymbolFits
symbol_exact = record {
  positive = omega arith;
  long = λ s fits. refl;
  same = λ bytes fits e. (all_fields_take symbol_widths bytes symbol_wide fits e).same;
  fits = λ bytes fits e. (all_fields_take symbol_widths bytes symbol_wide fits e).fit;
  again = λ s fits. ap symbol_from (all_fields_again (symbol_fields s) symbol_wide fits);
}

-- ---- relocations

abbrev rela_widths : List Width
rela_widths = w32 ∷ w32 ∷ w32 ∷ []

rela_wide : AreWide rela_widths
rela_wide = (wide32, (wide32, (wide32, tt)))

abbrev rela_from : List Field → Rela
rela_from fields = record { offset = number 0 fields; info = number 1 fields; addend = cast_signed w32 (number 2 fields) }

-- the relocation's fields are those that stand in its bytes
rela_fields_same : (bytes : List ℕ) → AreAll bytes (fields_of rela_widths 0 bytes)
    → rela_fields (rela_of bytes) ≡ fields_of rela_widths 0 bytes
rela_fields_same bytes all =
    let e : cast_unsigned w32 (cast_signed w32 (number 2 (fields_of rela_widths 0 bytes)))
    ≡ number 2 (fields_of rela_widths 0 bytes) = of_z-to_z w32 _ all.fit.1.1.0 in
    ap (λ (n : ℕ). (w32, number 0 (fields_of rela_widths 0 bytes)) ∷ (w32, number 1 (fields_of rela_widths 0 bytes)) ∷ (w32, n) ∷ []) e

rela_same : (bytes : List ℕ) → IsBytes bytes → length bytes ≡ 12 → fields_bytes (rela_fields (rela_of bytes)) ≡ bytes
rela_same bytes fits e =
    let all = all_fields_take rela_widths bytes rela_wide fits e in
    ap fields_bytes (rela_fields_same bytes all) ∙ all.same

rela_fits : (bytes : List ℕ) → IsBytes bytes → length bytes ≡ 12 → RelaFits (rela_of bytes)
rela_fits bytes fits e =
    let all = all_fields_take rela_widths bytes rela_wide fits e in
    (subst FieldsFit (sym (rela_fields_same bytes all)) all.fit, sfits_to_z {w = w32} (record { fits = all.fit.1.1.0 }))

abbrev with_addend : ℕ → ℕ → ℤ → Rela
with_addend offset info addend = record { offset = offset; info = info; addend = addend }

rela_again : (r : Rela) → RelaFits r → rela_of (fields_bytes (rela_fields r)) ≡ r
rela_again r fits =
    let read : rela_from (fields_of rela_widths 0 (fields_bytes (rela_fields r))) ≡ rela_from (rela_fields r) =
    ap rela_from (all_fields_again (rela_fields r) rela_wide fits.0) in
    let back : cast_signed w32 (cast_unsigned w32 r.addend) ≡ r.addend = to_z-of_z w32 r.addend fits.1 in
    read ∙ ap (with_addend r.offset r.info) back

pub rela_exact : IsExact rela_format RelaFits
rela_exact = record {
  positive = omega arith;
  long = λ r fits. refl;
  same = rela_same;
  fits = rela_fits;
  again = rela_again;
}

-- ---- the header

abbrev header_widths : List Width
header_widths = w16 ∷ w16 ∷ w32 ∷ w32 ∷ w32 ∷ w32 ∷ w32 ∷ w16 ∷ w16 ∷ w16 ∷ w16 ∷ w16 ∷ w16 ∷ []

header_wide : AreWide header_widths
header_wide = (
  wide16,
  (
    wide16,
    (
      wide32,
      (
        wide32,
        (
          wide32,
          (
            wide32,
            (wide32, (wide16, (wide16, (wide16, (wide16, (wide16, (wide16, tt))))))),
          ),
        ),
      ),
    ),
  ),
)

abbrev header_from : List ℕ → List Field → Header
header_from identification fields = record {
  identification = identification;
  file_type = number 0 fields;
  machine = number 1 fields;
  version = number 2 fields;
  entry = number 3 fields;
  program_header_offset = number 4 fields;
  section_header_offset = number 5 fields;
  flags = number 6 fields;
  header_size = number 7 fields;
  program_header_size = number 8 fields;
  program_header_count = number 9 fields;
  section_header_size = number 10 fields;
  section_header_count = number 11 fields;
  section_name_table = number 12 fields;
}

identification_long : (bytes : List ℕ) → length bytes ≡ 52 → length (take 16 bytes) ≡ 16
identification_long bytes e = omega (arith, length-take 16 bytes)

header_same : (bytes : List ℕ) → IsBytes bytes → length bytes ≡ 52
    → take 16 bytes ++ fields_bytes (fields_of header_widths 16 bytes) ≡ bytes
header_same bytes fits e =
    let read = fields_take header_widths 16 bytes header_wide fits (omega arith) in
    let len = identification_long bytes e in
    let others : List ℕ = fields_bytes (fields_of header_widths 16 bytes) in
    let here : TextStands bytes 0 (take 16 bytes) = ap (λ (n : ℕ). take n bytes) len in
    let place : 16 ≡ 0 + length (take 16 bytes) = omega arith in
    let behind : TextStands bytes (0 + length (take 16 bytes)) others = subst (λ (n : ℕ). TextStands bytes n others) place read.stand in
    whole_stands bytes (take 16 bytes ++ others) (omega (arith, length-append (take 16 bytes) others, read.long))
    (stands_both bytes 0 (take 16 bytes) others here behind)

header_fits : (bytes : List ℕ) → IsBytes bytes → length bytes ≡ 52 → HeaderFits (header_format.from_bytes bytes)
header_fits bytes fits e = ((fields_take header_widths 16 bytes header_wide fits (omega arith)).fit, identification_long bytes e)

header_again : (h : Header) → HeaderFits h → header_format.from_bytes (header_format.bytes h) ≡ h
header_again h fits =
    let others : List ℕ = fields_bytes (header_fields h) in
    let whole : List ℕ = h.identification ++ others in
    let front : take 16 whole ≡ h.identification = take_at h.identification others 16 fits.1 in
    let place : 0 + length h.identification ≡ 16 = omega (arith, fits.1) in
    let behind : TextStands whole 16 others = subst (λ (n : ℕ). TextStands whole n others) place
    (stands_back whole 0 h.identification others (stands_whole whole)) in
    let read : fields_of header_widths 16 whole ≡ header_fields h = fields_again (header_fields h) 16 whole header_wide fits.0 behind in
    ap (λ (i : List ℕ). header_from i (fields_of header_widths 16 whole)) front ∙ ap (header_from h.identification) read

header_long : (h : Header) → HeaderFits h → length (header_format.bytes h) ≡ 52
header_long h fits = omega (arith, length-append h.identification (fields_bytes (header_fields h)), fits.1)

pub header_exact : IsExact header_format HeaderFits
header_exact = record {
  positive = omega arith;
  long = header_long;
  same = header_same;
  fits = header_fits;
  again = header_again;
}
