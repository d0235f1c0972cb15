-- A file that is read has its parts in the bytes, and a file whose parts stand in the bytes is read.
use Rattle.std.proofs.Common.{◌≡◌, ℕ, suc, ◌+◌, ◌*◌, ◌/◌, ◌%◌, true, false, ltb, eqb, ◌&&◌, List, [], ◌∷◌, length, take}
use Rattle.std.proofs.Common.{drop, Result, Ok, Err, refl, sym, ap, subst, ◌∙◌, arith, inl, inr}
use Rattle.std.specs.Prelude.{IfOk}
use Rattle.std.specs.List.{AllByRecursion}
use Rattle.std.proofs.lemmas.Bool.{cases_lt, ltb-false, le-ltb, eqb-true, eq-eqb, and_parts, and_from, and_cases, and_left, and_right}
use Rattle.std.proofs.lemmas.List.{length-take, length-drop}
use Rattle.elfrec.specs.declared.fault.ElfFault.{ElfFault}
use Rattle.elfrec.specs.declared.fault.ElfFault.TheVariants.{At}
use Rattle.elfrec.specs.declared.fault.ElfCause.TheVariants.{Short}
use Rattle.elfrec.specs.declared.file.Contents.{Contents}
use Rattle.elfrec.specs.declared.file.Contents.TheVariants as held
use Rattle.elfrec.specs.declared.file.ElfFile.{ElfFile}
use Rattle.elfrec.specs.declared.header.Header.{Header}
use Rattle.elfrec.specs.declared.rela.Rela.{Rela}
use Rattle.elfrec.specs.declared.section.Section.{Section}
use Rattle.elfrec.specs.declared.section.SectionKind.{SectionKind}
use Rattle.elfrec.specs.declared.section.SectionKind.TheVariants.{Empty, Symbols, Relas, Bytes}
use Rattle.elfrec.specs.declared.symbol.Symbol.{Symbol}
use Rattle.elfrec.specs.File.{contents_bytes, section_parts, parts, Describes, EachDescribes, IsMeasured, ContentsFit}
use Rattle.elfrec.specs.File.{FileFits, Stands, IsFileOf, IsLaidOut, contents_of, all_contents_of, file_of}
use Rattle.elfrec.specs.Header.{HeaderFits, header_format}
use Rattle.elfrec.specs.Record.{Format, IsBytes, ◌>>=◌, Gives, bytes_at, record_at, records_at}
use Rattle.elfrec.specs.Rela.{RelaFits, rela_format}
use Rattle.elfrec.specs.Section.{SectionFits, kind_of, has_entry_sizes, section_format}
use Rattle.elfrec.specs.Segment.{SegmentFits, segment_format}
use Rattle.elfrec.specs.Symbol.{SymbolFits, symbol_format}
use Rattle.elfrec.proofs.Bytes.{header_exact, rela_exact, section_exact, segment_exact, symbol_exact}
use Rattle.elfrec.proofs.Records.{bind_ok, guard_ok, ok_is, AreRead, record_take, record_again, records_take, records_again}
use Rattle.elfrec.proofs.Stands.{TextStands, stands_within}

-- every record of a kind that gives no sizes has the right ones
all_sized : {R : Type 0} (format : Format R) → ((r : R) → format.has_right_sizes r ≡ true) → (rs : List R)
    → AllByRecursion (λ r. format.has_right_sizes r ≡ true) rs
all_sized format each [] = tt
all_sized format each (r ∷ rs) = (each r, all_sized format each rs)

-- ---- bytes

bytes_take : (size at : ℕ) (bytes text : List ℕ) → bytes_at size at bytes ≡ Ok text → TextStands bytes at text × (size ≡ length text)
bytes_take size at bytes text e =
    let g = guard_ok (ltb 0 size && ltb (length bytes) (at + size)) (At at Short) (Ok (take size (drop at bytes))) text e in
    let is : take size (drop at bytes) ≡ text = ok_is (take size (drop at bytes)) text g.1 in
    let long : length (take size (drop at bytes)) ≡ size =
    elim (and_cases (ltb 0 size) (ltb (length bytes) (at + size)) g.0) [
      | inl none ↦ omega (arith, ltb-false 0 size none, length-take size (drop at bytes))
      | inr enough ↦ omega (arith, ltb-false (length bytes) (at + size) enough, length-take size (drop at bytes), length-drop at bytes)
    ] in
    let size-is : size ≡ length text = sym long ∙ ap length is in
    (ap (λ (n : ℕ). take n (drop at bytes)) (sym size-is) ∙ is, size-is)

bytes_again : (size at : ℕ) (bytes text : List ℕ) → size ≡ length text → TextStands bytes at text → bytes_at size at bytes ≡ Ok text
bytes_again size at bytes text e stands =
    let text-is : take size (drop at bytes) ≡ text = ap (λ (n : ℕ). take n (drop at bytes)) e ∙ stands in
    let enough : (ltb 0 size && ltb (length bytes) (at + size)) ≡ false = elim (cases_lt 0 size) [
      | inl pos ↦ and_right (ltb 0 size) (ltb (length bytes) (at + size)) (le-ltb _ _ (omega (arith, stands_within bytes at text stands)))
      | inr none ↦ and_left (ltb 0 size) (ltb (length bytes) (at + size)) (le-ltb _ _ none)
    ] in
    rw enough (ap Ok text-is)

-- ---- what a section holds

-- the section holds this
pub record IsHeld (bytes : List ℕ) (s : Section) (c : Contents) : Type 0 where
  pub describes : Describes s c
  pub fit : ContentsFit c
  pub stands : TextStands bytes s.offset (contents_bytes c)

contents_take : (k : SectionKind) (s : Section) (bytes : List ℕ) (c : Contents) → IsBytes bytes → kind_of s.section_type ≡ k
    → has_entry_sizes k s.entry_size s.size ≡ true → contents_of k s bytes ≡ Ok c → IsHeld bytes s c
unfolding contents_of
contents_take Empty s bytes c byte kind sizes e =
    subst (IsHeld bytes s) (ok_is held.Empty c e) (record { describes = kind; fit = tt; stands = refl })
contents_take Symbols s bytes c byte kind sizes e =
    let a = bind_ok (records_at symbol_format (s.size / 16) s.offset bytes) (λ xs. Ok (held.Symbols xs)) c e in
    let t = records_take symbol_format SymbolFits (s.size / 16) s.offset bytes a.0 symbol_exact byte a.1 in
    let p = and_parts (eqb s.entry_size 16) (eqb (s.size % 16) 0) sizes in
    let even : s.size % 16 ≡ 0 = eqb-true _ _ p.1 in
    let size : s.size ≡ 16 * length a.0 = omega (arith, t.1) in
    subst (IsHeld bytes s) (ok_is (held.Symbols a.0) c a.2) (record
    { describes = (kind, eqb-true _ _ p.0, size); fit = t.0.fit; stands = t.0.stand })
contents_take Relas s bytes c byte kind sizes e =
    let a = bind_ok (records_at rela_format (s.size / 12) s.offset bytes) (λ xs. Ok (held.Relas xs)) c e in
    let t = records_take rela_format RelaFits (s.size / 12) s.offset bytes a.0 rela_exact byte a.1 in
    let p = and_parts (eqb s.entry_size 12) (eqb (s.size % 12) 0) sizes in
    let even : s.size % 12 ≡ 0 = eqb-true _ _ p.1 in
    let size : s.size ≡ 12 * length a.0 = omega (arith, t.1) in
    subst (IsHeld bytes s) (ok_is (held.Relas a.0) c a.2) (record
    { describes = (kind, eqb-true _ _ p.0, size); fit = t.0.fit; stands = t.0.stand })
contents_take Bytes s bytes c byte kind sizes e =
    let a = bind_ok (bytes_at s.size s.offset bytes) (λ text. Ok (held.Bytes text)) c e in
    let t = bytes_take s.size s.offset bytes a.0 a.1 in
    subst (IsHeld bytes s) (ok_is (held.Bytes a.0) c a.2) (record { describes = (kind, t.1); fit = tt; stands = t.0 })

contents_again : (s : Section) (bytes : List ℕ) (c : Contents) → IsHeld bytes s c → contents_of (kind_of s.section_type) s bytes ≡ Ok c
unfolding contents_of
contents_again s bytes held.Empty h = ap (λ (k : SectionKind). contents_of k s bytes) h.describes
contents_again s bytes (held.Symbols xs) h =
    let n : s.size / 16 ≡ length xs = omega (arith, h.describes.2) in
    let read : AreRead symbol_format SymbolFits bytes s.offset xs =
    record { stand = h.stands; fit = h.fit; sized = all_sized symbol_format (λ _. refl) xs } in
    ap (λ (k : SectionKind). contents_of k s bytes) h.describes.0
    ∙ ap (λ (k : ℕ). records_at symbol_format k s.offset bytes >>= λ ys. Ok (held.Symbols ys)) n
    ∙ ap (λ (r : Result (List Symbol) ElfFault). r >>= λ ys. Ok (held.Symbols ys))
    (records_again symbol_format SymbolFits xs s.offset bytes symbol_exact read)
contents_again s bytes (held.Relas xs) h =
    let n : s.size / 12 ≡ length xs = omega (arith, h.describes.2) in
    let read : AreRead rela_format RelaFits bytes s.offset xs =
    record { stand = h.stands; fit = h.fit; sized = all_sized rela_format (λ _. refl) xs } in
    ap (λ (k : SectionKind). contents_of k s bytes) h.describes.0
    ∙ ap (λ (k : ℕ). records_at rela_format k s.offset bytes >>= λ ys. Ok (held.Relas ys)) n
    ∙ ap (λ (r : Result (List Rela) ElfFault). r >>= λ ys. Ok (held.Relas ys))
    (records_again rela_format RelaFits xs s.offset bytes rela_exact read)
contents_again s bytes (held.Bytes text) h =
    ap (λ (k : SectionKind). contents_of k s bytes) h.describes.0
    ∙ ap (λ (r : Result (List ℕ) ElfFault). r >>= λ ys. Ok (held.Bytes ys)) (bytes_again s.size s.offset bytes text h.describes.1 h.stands)

-- ---- what the sections hold

abbrev AreSized : List Section → Type 0
AreSized sections = AllByRecursion (λ s. section_format.has_right_sizes s ≡ true) sections

-- each section holds this
pub record AreHeld (bytes : List ℕ) (sections : List Section) (contents : List Contents) : Type 0 where
  pub describe : EachDescribes sections contents
  pub fit : AllByRecursion ContentsFit contents
  pub stand : AllByRecursion (Stands bytes) (section_parts sections contents)

all_contents_take : (sections : List Section) (bytes : List ℕ) (contents : List Contents) → IsBytes bytes → AreSized sections
    → all_contents_of sections bytes ≡ Ok contents → AreHeld bytes sections contents
unfolding all_contents_of
all_contents_take [] bytes contents byte sized e =
    subst (AreHeld bytes []) (ok_is [] contents e) (record { describe = tt; fit = tt; stand = tt })
all_contents_take (s ∷ sections) bytes contents byte sized e =
    let a = bind_ok (contents_of (kind_of s.section_type) s bytes)
    (λ first. all_contents_of sections bytes >>= λ others. Ok (first ∷ others)) contents e in
    let b = bind_ok (all_contents_of sections bytes) (λ others. Ok (a.0 ∷ others)) contents a.2 in
    let first = contents_take (kind_of s.section_type) s bytes a.0 byte refl sized.0 a.1 in
    let others = all_contents_take sections bytes b.0 byte sized.1 b.1 in
    subst (AreHeld bytes (s ∷ sections)) (ok_is (a.0 ∷ b.0) contents b.2)
    (record { describe = (first.describes, others.describe); fit = (first.fit, others.fit); stand = (first.stands, others.stand) })

all_contents_again : (sections : List Section) (bytes : List ℕ) (contents : List Contents) → AreHeld bytes sections contents
    → all_contents_of sections bytes ≡ Ok contents
unfolding all_contents_of
all_contents_again [] bytes [] h = refl
all_contents_again [] bytes (c ∷ contents) h = absurd h.describe
all_contents_again (s ∷ sections) bytes [] h = absurd h.describe
all_contents_again (s ∷ sections) bytes (c ∷ contents) h =
    let first : contents_of (kind_of s.section_type) s bytes ≡ Ok c =
    contents_again s bytes c (record { describes = h.describe.0; fit = h.fit.0; stands = h.stand.0 }) in
    let others : all_contents_of sections bytes ≡ Ok contents =
    all_contents_again sections bytes contents (record { describe = h.describe.1; fit = h.fit.1; stand = h.stand.1 }) in
    rw (first, others) refl

-- a section header that describes what its section holds gives the right sizes
describes_sized : (s : Section) (c : Contents) → Describes s c → section_format.has_right_sizes s ≡ true
describes_sized s held.Empty d = ap (λ (k : SectionKind). has_entry_sizes k s.entry_size s.size) d
describes_sized s (held.Symbols xs) d =
    ap (λ (k : SectionKind). has_entry_sizes k s.entry_size s.size) d.0
    ∙ and_from (eqb s.entry_size 16) (eqb (s.size % 16) 0) (eq-eqb _ _ d.1) (eq-eqb _ _ (omega (arith, d.2)))
describes_sized s (held.Relas xs) d =
    ap (λ (k : SectionKind). has_entry_sizes k s.entry_size s.size) d.0
    ∙ and_from (eqb s.entry_size 12) (eqb (s.size % 12) 0) (eq-eqb _ _ d.1) (eq-eqb _ _ (omega (arith, d.2)))
describes_sized s (held.Bytes text) d = ap (λ (k : SectionKind). has_entry_sizes k s.entry_size s.size) d.0

each_sized : (sections : List Section) (contents : List Contents) → EachDescribes sections contents → AreSized sections
each_sized [] contents d = tt
each_sized (s ∷ sections) [] d = absurd d
each_sized (s ∷ sections) (c ∷ contents) d = (describes_sized s c d.0, each_sized sections contents d.1)

-- there is something held for each section
pub each_held : (sections : List Section) (contents : List Contents) → EachDescribes sections contents → length sections ≡ length contents
each_held [] [] d = refl
each_held [] (c ∷ contents) d = absurd d
each_held (s ∷ sections) [] d = absurd d
each_held (s ∷ sections) (c ∷ contents) d = ap suc (each_held sections contents d.1)

-- ---- the file

pub file_take : (bytes : List ℕ) (f : ElfFile) → IsBytes bytes → file_of bytes ≡ Ok f → IsFileOf f bytes
unfolding file_of
file_take bytes f byte e =
    let a = bind_ok (record_at header_format 0 bytes) (λ header. records_at segment_format header.program_header_count
    header.program_header_offset bytes >>= λ segments.
    records_at section_format header.section_header_count header.section_header_offset bytes >>= λ sections. all_contents_of
    sections bytes >>= λ contents.
    Ok (record { header = header; segments = segments; sections = sections; contents = contents })) f e in
    let header : Header = a.0 in
    let b = bind_ok (records_at segment_format header.program_header_count header.program_header_offset bytes) (λ segments.
    records_at section_format header.section_header_count header.section_header_offset bytes >>= λ sections. all_contents_of
    sections bytes >>= λ contents.
    Ok (record { header = header; segments = segments; sections = sections; contents = contents })) f a.2 in
    let c = bind_ok (records_at section_format header.section_header_count header.section_header_offset bytes)
    (λ sections. all_contents_of sections bytes >>= λ contents.
    Ok (record { header = header; segments = b.0; sections = sections; contents = contents })) f b.2 in
    let d = bind_ok (all_contents_of c.0 bytes) (λ contents. Ok
    (record { header = header; segments = b.0; sections = c.0; contents = contents })) f c.2 in
    let h = record_take header_format HeaderFits 0 bytes header header_exact byte a.1 in
    let segments = records_take segment_format SegmentFits header.program_header_count header.program_header_offset bytes b.0
    segment_exact byte b.1 in
    let sections = records_take section_format SectionFits header.section_header_count header.section_header_offset bytes c.0
    section_exact byte c.1 in
    let held = all_contents_take c.0 bytes d.0 byte sections.0.sized d.1 in
    let p = and_parts (eqb header.program_header_size 32) (eqb header.section_header_size 40) h.sized in
    let made : ElfFile = record { header = header; segments = b.0; sections = c.0; contents = d.0 } in
    subst (λ (g : ElfFile). IsFileOf g bytes) (ok_is made f d.2) (record {
      measured = record {
        program_header_size = eqb-true _ _ p.0;
        section_header_size = eqb-true _ _ p.1;
        segments = sym segments.1;
        sections = sym sections.1;
        contents = held.describe;
      };
      fits = record { header = h.fits; segments = segments.0.fit; sections = sections.0.fit; contents = held.fit };
      stands = (h.stands, (segments.0.stand, (sections.0.stand, held.stand)));
    })

pub is_found : (bytes : List ℕ) (r : Result ElfFile ElfFault) → IsBytes bytes → Gives (λ f. f) r (file_of bytes)
    → IfOk r (λ f. IsFileOf f bytes)
is_found bytes (Ok f) byte given = file_take bytes f byte given
is_found bytes (Err e) byte given = tt

pub file_again : (bytes : List ℕ) (f : ElfFile) → IsFileOf f bytes → file_of bytes ≡ Ok f
unfolding file_of
file_again bytes f is =
    let m = is.measured in
    let sizes : header_format.has_right_sizes f.header ≡ true =
    and_from (eqb f.header.program_header_size 32) (eqb f.header.section_header_size 40) (eq-eqb _ _ m.program_header_size)
    (eq-eqb _ _ m.section_header_size) in
    let header : record_at header_format 0 bytes ≡ Ok f.header =
    record_again header_format HeaderFits 0 bytes f.header header_exact
    (record { stands = is.stands.0; fits = is.fits.header; sized = sizes }) in
    let segments : records_at segment_format (length f.segments) f.header.program_header_offset bytes ≡ Ok f.segments =
    records_again segment_format SegmentFits f.segments f.header.program_header_offset bytes segment_exact
    (record { stand = is.stands.1.0; fit = is.fits.segments; sized = all_sized segment_format (λ _. refl) f.segments }) in
    let sections : records_at section_format (length f.sections) f.header.section_header_offset bytes ≡ Ok f.sections =
    records_again section_format SectionFits f.sections f.header.section_header_offset bytes section_exact
    (record { stand = is.stands.1.1.0; fit = is.fits.sections; sized = each_sized f.sections f.contents m.contents }) in
    let contents : all_contents_of f.sections bytes ≡ Ok f.contents =
    all_contents_again f.sections bytes f.contents (record
    { describe = m.contents; fit = is.fits.contents; stand = is.stands.1.1.1 }) in
    rw (header, m.segments, segments, m.sections, sections, contents) refl

-- what is written is read again
pub written_again : (f : ElfFile) (bytes : List ℕ) → IsMeasured f → FileFits f → IsLaidOut (parts f) bytes → file_of bytes ≡ Ok f
written_again f bytes measured fits laid = file_again bytes f (record { measured = measured; fits = fits; stands = laid.stands })
