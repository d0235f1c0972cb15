use Rattle.std.proofs.Common.{◌≡◌, List, [], ◌∷◌, ◌++◌, length, refl, sym, ap, subst, ◌∙◌, arith}
use Rattle.std.proofs.lemmas.List.{length-append}
use Rattle.elfrec.specs.declared.file.Contents.{Contents}
use Rattle.elfrec.specs.declared.file.Contents.TheVariants as held
use Rattle.elfrec.specs.declared.file.ElfFile.{ElfFile}
use Rattle.elfrec.specs.declared.header.Header.{Header}
use Rattle.elfrec.specs.declared.rela.Rela.{Rela}
use Rattle.elfrec.specs.declared.section.Section.{Section}
use Rattle.elfrec.specs.declared.segment.Segment.{Segment}
use Rattle.elfrec.specs.declared.symbol.Symbol.{Symbol}
use Rattle.elfrec.specs.declared.tests.TheConstants.{HEADER, RELA, SEGMENT, SYMBOL}
use Rattle.elfrec.specs.Field.{fields_bytes}
use Rattle.elfrec.specs.File.{AreApart, parts}
use Rattle.elfrec.specs.Header.{header_fields}
use Rattle.elfrec.proofs.tests.example.Goals as goal

abbrev made : Header → List Segment → List Section → List Contents → ElfFile
made h segments sections contents = record { header = h; segments = segments; sections = sections; contents = contents }

abbrev bytes_and_records : Symbol → Rela → List Contents
bytes_and_records x y = held.Bytes (16 ∷ 32 ∷ 48 ∷ 64 ∷ []) ∷ held.Symbols (x ∷ []) ∷ held.Relas (y ∷ []) ∷ []

-- a file of these six parts
abbrev file : Header → Segment → Section → Section → Section → Symbol → Rela → ElfFile
file h g t s u x y = made h (g ∷ []) (t ∷ s ∷ u ∷ []) (bytes_and_records x y)

are_apart : (h : Header) (g : Segment) (t s u : Section) (x : Symbol) (y : Rela) → length h.identification ≡ 16
    → h.program_header_offset ≡ 52 → h.section_header_offset ≡ 116
    → t.offset ≡ 84 → s.offset ≡ 88 → u.offset ≡ 104 → AreApart (parts (file h g t s u x y))
are_apart h g t s u x y i p q a b c =
    let long : length (h.identification ++ fields_bytes (header_fields h)) ≡ 52 =
    omega (arith, length-append h.identification (fields_bytes (header_fields h))) in (
      (λ k l r. omega arith, (λ k l r. omega arith, (λ k l r. omega arith, (λ k l r. omega arith, (λ k l r. omega arith, tt))))),
      (
        (λ k l r. omega arith, (λ k l r. omega arith, (λ k l r. omega arith, (λ k l r. omega arith, tt)))),
        (
          (λ k l r. omega arith, (λ k l r. omega arith, (λ k l r. omega arith, tt))),
          (
            (λ k l r. omega arith, (λ k l r. omega arith, tt)),
            (
              (λ k l r. omega arith, tt),
              (
                tt,
                tt,
              ),
            ),
          ),
        ),
      ),
    )

pub returns-clause-measured : goal.returns-clause-measured
returns-clause-measured c =
    let segments = c.new.ensures ∙ c.in_ok-segments.ensures.items in
    let sections = c.new-2.ensures ∙ c.in_ok-sections.ensures.items in
    let contents = c.new-3.ensures ∙ c.in_ok-contents.ensures in
    record {
      program_header_size = refl;
      section_header_size = refl;
      segments = sym (ap length segments);
      sections = sym (ap length sections);
      contents = rw (sections, contents) (c.text.ensures.0, (c.symbols.ensures.0, (c.relas.ensures.0, tt)));
    }

pub returns-clause-apart : goal.returns-clause-apart
returns-clause-apart c =
    let segments = c.new.ensures ∙ c.in_ok-segments.ensures.items in
    let sections = c.new-2.ensures ∙ c.in_ok-sections.ensures.items in
    let contents = c.new-3.ensures ∙ c.in_ok-contents.ensures in
    let t = c.text.result in
    let s = c.symbols.result in
    let u = c.relas.result in
    let whole : AreApart (parts (file HEADER SEGMENT t s u SYMBOL RELA)) =
    are_apart HEADER SEGMENT t s u SYMBOL RELA refl refl refl c.text.ensures.1 c.symbols.ensures.1 c.relas.ensures.1 in
    subst (λ (gs : List Segment). AreApart (parts (made HEADER gs c.new-2.result c.new-3.result))) (sym segments)
    (subst (λ (ss : List Section). AreApart (parts (made HEADER (SEGMENT ∷ []) ss c.new-3.result))) (sym sections)
    (subst (λ (cs : List Contents). AreApart (parts (made HEADER (SEGMENT ∷ []) (t ∷ s ∷ u ∷ []) cs))) (sym contents) whole))
