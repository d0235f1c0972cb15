-- What is written is read again: fields, and what an executable tells of itself.
use Rattle.std.proofs.Common.{◌≡◌, ℕ, ◌+◌, ◌-◌, ◌/◌, ◌%◌, ◌^◌, ◌<◌, ◌≤◌, ◌==◌, Bool, true, false, cond}
use Rattle.std.proofs.Common.{List, [], ◌∷◌, ◌++◌, length, Result, Ok, Err, refl, ap}
use Rattle.std.proofs.Common.{◌∙◌, append_assoc, arith, nat_lt}
use Rattle.std.specs.Int.{Width, w8, w16, w32, byte_len, from_le_bytes, to_le_bytes}
use Rattle.std.specs.List.{AllByRecursion}
use Rattle.std.proofs.lemmas.Bool.{le-ltb, le-leb, eq-eqb, and_from}
use Rattle.std.proofs.lemmas.List.{take_at, drop_at, length-append}
use Rattle.std.proofs.lemmas.Nat.{from_le_bytes-to_le_bytes_2, from_le_bytes-to_le_bytes_4}
use Rattle.pruelf.specs.declared.fault.LoadCause.{LoadCause}
use Rattle.pruelf.specs.declared.fault.LoadCause.TheVariants as causes
use Rattle.pruelf.specs.declared.fault.LoadFault.{LoadFault}
use Rattle.pruelf.specs.declared.form.Form.{Form}
use Rattle.pruelf.specs.declared.plan.Plan.{Plan}
use Rattle.pruelf.specs.declared.segments.LoadSizes.{LoadSizes}
use Rattle.pruelf.specs.declared.span.Span.{Span}
use Rattle.std.specs.Str.{bytes_eq}
use Rattle.pruelf.specs.Fields.{◌>>=◌, allows, bytes_in, fixed_in, judged_in, number_in, only, within_in, wrong}
use Rattle.pruelf.specs.Front.{begun, code_in, header_in, identification, identified_in, loaded_in, named_in, noted_in, section_in}
use Rattle.pruelf.specs.Front.{sections_in, segments_in, with_notes, with_symbols, with_table}
use Rattle.pruelf.specs.Layout as layout
use Rattle.elfwrite.specs.Written.{header_bytes, numbers, section_bytes, sections, sections_bytes, segments_bytes}

pub then_ok : {A B : Type 0} (r : Result A LoadFault) (x : A) (f : A → Result B LoadFault) → r ≡ Ok x → (r >>= f) ≡ f x
then_ok r x f e = ap (λ q. q >>= f) e

-- numbers of this width are read again
pub record IsWide (w : Width) : Type 0 where
  pub len : (n : ℕ) → length (to_le_bytes w n) ≡ byte_len w
  pub again : (n : ℕ) → n < 256 ^ byte_len w → from_le_bytes w (to_le_bytes w n) ≡ n

small_rest : (n : ℕ) → n < 256 → n % 256 ≡ n
small_rest n lt = omega arith

pub wide8 : IsWide w8
wide8 = record { len = λ n. refl; again = λ n lt. small_rest n lt }

pub wide16 : IsWide w16
wide16 = record { len = λ n. refl; again = λ n lt. from_le_bytes-to_le_bytes_2 n lt }

pub wide32 : IsWide w32
wide32 = record { len = λ n. refl; again = λ n lt. from_le_bytes-to_le_bytes_4 n lt }

pub number_again : (w : Width) (wide : IsWide w) (end n : ℕ) (rest : List ℕ) → n < 256 ^ byte_len w
    → number_in w end (to_le_bytes w n ++ rest) ≡ Ok (n, rest)
number_again w wide end n rest lt =
    let len = wide.len n in
    let long : nat_lt (length (to_le_bytes w n ++ rest)) (byte_len w) ≡ false =
    le-ltb _ _ (omega (arith, length-append (to_le_bytes w n) rest)) in
    rw (long, take_at (to_le_bytes w n) rest (byte_len w) len, drop_at (to_le_bytes w n) rest (byte_len w) len, wide.again n lt) refl

pub judged_again : (cause : LoadCause) (w : Width) (wide : IsWide w) (may : ℕ → Bool) (end n : ℕ) (rest : List ℕ) → n < 256 ^ byte_len w
    → may n ≡ true → judged_in cause w may end (to_le_bytes w n ++ rest) ≡ Ok (n, rest)
unfolding judged_in
judged_again cause w wide may end n rest lt ok =
    let bytes = to_le_bytes w n ++ rest in
    then_ok (number_in w end bytes) (n, rest) (λ number. cond (may number.0) (Ok number) (Err (wrong cause end bytes)))
    (number_again w wide end n rest lt)
    ∙ ap (λ (t : Bool). cond {A = Result (ℕ × List ℕ) LoadFault} t (Ok (n, rest)) (Err (wrong cause end bytes))) ok

pub fixed_again : (cause : LoadCause) (w : Width) (wide : IsWide w) (values : List ℕ) (end : ℕ) (rest : List ℕ)
    → AllByRecursion (λ v. v < 256 ^ byte_len w) values → fixed_in cause w values end (numbers w values ++ rest) ≡ Ok rest
unfolding fixed_in
fixed_again cause w wide [] end rest h = refl
fixed_again cause w wide (v ∷ values) end rest h =
    let behind = numbers w values ++ rest in
    ap (fixed_in cause w (v ∷ values) end) (append_assoc (to_le_bytes w v) (numbers w values) rest)
    ∙ then_ok (judged_in cause w (λ n. n == v) end (to_le_bytes w v ++ behind)) (v, behind)
    (λ number. fixed_in cause w values end number.1) (judged_again cause w wide (λ n. n == v) end v behind h.0 (eq-eqb v v refl))
    ∙ fixed_again cause w wide values end rest h.1

pub allowed : (span : Span) (n : ℕ) → span.least ≤ n → n ≤ span.most → (n - span.least) % span.unit ≡ 0 → allows span n ≡ true
allowed span n low high unit = and_from _ _ (and_from _ _ (le-leb _ _ low) (le-leb _ _ high)) (eq-eqb _ _ unit)

pub within_again : (cause : LoadCause) (span : Span) (end n : ℕ) (rest : List ℕ) → n < 2 ^ 32 → allows span n ≡ true
    → within_in cause span end (to_le_bytes w32 n ++ rest) ≡ Ok (n, rest)
within_again cause span end n rest lt ok = judged_again cause w32 wide32 (allows span) end n rest lt ok

pub only_allows : (n : ℕ) → allows (only n) n ≡ true
only_allows n = allowed (only n) n (omega arith) (omega arith) (omega arith)

pub bytes_again : (count end : ℕ) (front rest : List ℕ) → length front ≡ count → bytes_in count end (front ++ rest) ≡ Ok (front, rest)
bytes_again count end front rest len =
    let long : nat_lt (length (front ++ rest)) count ≡ false = le-ltb _ _ (omega (arith, length-append front rest)) in
    rw (long, take_at front rest count len, drop_at front rest count len) refl

-- ---- the header

identified_again : (end : ℕ) (rest : List ℕ) → identified_in end (identification ++ rest) ≡ Ok rest
unfolding identified_in
identified_again end rest =
    then_ok (bytes_in 16 end (identification ++ rest)) (identification, rest)
    (λ front. cond (bytes_eq front.0 identification) (Ok front.1) (Err (wrong causes.Header end (identification ++ rest))))
    (bytes_again 16 end identification rest refl)

pub header_again : (p : Plan) (end : ℕ) (rest : List ℕ) → p.sections_at < 2 ^ 32 → allows layout.sections_span p.sections_at ≡ true
    → header_in end (header_bytes p ++ rest) ≡ Ok (p.sections_at, rest)
unfolding header_in
header_again p end rest lt ok =
    let r6 = numbers w16 (52 ∷ 32 ∷ 2 ∷ 40 ∷ 9 ∷ 8 ∷ []) ++ rest in
    let r5 = numbers w32 (0 ∷ []) ++ r6 in
    let r4 = to_le_bytes w32 p.sections_at ++ r5 in
    let r3 = numbers w32 (1 ∷ 0 ∷ 52 ∷ []) ++ r4 in
    let r2 = numbers w16 (2 ∷ 144 ∷ []) ++ r3 in
    then_ok (identified_in end (identification ++ r2)) r2 _ (identified_again end r2)
    ∙ then_ok (fixed_in causes.Header w16 (2 ∷ 144 ∷ []) end r2) r3 _
    (fixed_again causes.Header w16 wide16 (2 ∷ 144 ∷ []) end r3 (omega arith, (omega arith, tt)))
    ∙ then_ok (fixed_in causes.Header w32 (1 ∷ 0 ∷ 52 ∷ []) end r3) r4 _
    (fixed_again causes.Header w32 wide32 (1 ∷ 0 ∷ 52 ∷ []) end r4 (omega arith, (omega arith, (omega arith, tt))))
    ∙ then_ok (within_in causes.Header layout.sections_span end r4) (p.sections_at, r5) _
    (within_again causes.Header layout.sections_span end p.sections_at r5 lt ok)
    ∙ then_ok (fixed_in causes.Header w32 (0 ∷ []) end r5) r6 _ (fixed_again causes.Header w32 wide32 (0 ∷ []) end r6 (omega arith, tt))
    ∙ then_ok (fixed_in causes.Header w16 (52 ∷ 32 ∷ 2 ∷ 40 ∷ 9 ∷ 8 ∷ []) end r6) rest _
    (fixed_again causes.Header w16 wide16 (52 ∷ 32 ∷ 2 ∷ 40 ∷ 9 ∷ 8 ∷ []) end rest
    (omega arith, (omega arith, (omega arith, (omega arith, (omega arith, (omega arith, tt)))))))

-- ---- what holds of a plan that is written

pub record IsPlanned (p : Plan) : Type 0 where
  pub at : p.sections_at ≡ layout.section_names_offset p + 72
  pub small : p.sections_at + 360 < 2 ^ 31
  pub words : p.code % 4 ≡ 0
  pub few : p.code ≤ 8192
  pub aligned : p.data_at % 4 ≡ 0
  pub from : 0x10 ≤ p.data_at
  pub below : p.data_at ≤ 0x1DFC
  pub more : p.init ≤ p.memory
  pub within : p.data_at + p.memory ≤ 0x1E00
  pub notes : p.notes % 8 ≡ 0
  pub table : 16 ≤ p.table
  pub entries : (p.table - 16) % 52 ≡ 0
  pub null : 16 ≤ p.symbols
  pub symbols : p.symbols % 16 ≡ 0
  pub names : p.symbols / 16 ≤ p.names

pub filled_up : (n : ℕ) → (layout.padding n < 4) × ((n + layout.padding n) % 4 ≡ 0)
filled_up n = (omega arith, omega arith)

pub sections_allowed : (p : Plan) → IsPlanned p → allows layout.sections_span p.sections_at ≡ true
sections_allowed p h =
    let i = filled_up p.init in
    let n = filled_up p.names in
    allowed layout.sections_span p.sections_at (omega (arith, h.at, h.table, h.null, h.names)) (omega (arith, h.small))
    (omega (arith, h.at, h.words, i.1, h.notes, h.table, h.entries, h.symbols, n.1))

-- ---- the program headers

abbrev pub loads_of : Plan → LoadSizes
loads_of p = record { code = p.code; data_at = p.data_at; init = p.init; memory = p.memory }

code_again : (p : Plan) (end : ℕ) (rest : List ℕ) → IsPlanned p
    → code_in p.sections_at end (numbers w32 (1 ∷ 116 ∷ 0 ∷ 0 ∷ p.code ∷ p.code ∷ 5 ∷ 4 ∷ []) ++ rest) ≡ Ok (p.code, rest)
unfolding code_in
code_again p end rest h =
    let lt : p.code < 2 ^ 32 = omega (arith, h.few) in
    let ok : allows (layout.code_span p.sections_at) p.code ≡ true =
    allowed (layout.code_span p.sections_at) p.code (omega arith) (omega (arith, h.few, h.at, h.table, h.null, h.names))
    (omega (arith, h.words)) in
    let r3 = numbers w32 (p.code ∷ 5 ∷ 4 ∷ []) ++ rest in
    let r2 = to_le_bytes w32 p.code ++ r3 in
    then_ok (fixed_in causes.Segment w32 (1 ∷ 116 ∷ 0 ∷ 0 ∷ []) end (numbers w32 (1 ∷ 116 ∷ 0 ∷ 0 ∷ []) ++ r2)) r2 _
    (fixed_again causes.Segment w32 wide32 (1 ∷ 116 ∷ 0 ∷ 0 ∷ []) end r2 (omega arith, (omega arith, (omega arith, (omega arith, tt)))))
    ∙ then_ok (within_in causes.Segment (layout.code_span p.sections_at) end r2) (p.code, r3) _
    (within_again causes.Segment (layout.code_span p.sections_at) end p.code r3 lt ok)
    ∙ then_ok (fixed_in causes.Segment w32 (p.code ∷ 5 ∷ 4 ∷ []) end r3) rest _
    (fixed_again causes.Segment w32 wide32 (p.code ∷ 5 ∷ 4 ∷ []) end rest (lt, (omega arith, (omega arith, tt))))

pub segments_again : (p : Plan) (end : ℕ) (rest : List ℕ) → IsPlanned p → segments_in p.sections_at end (segments_bytes p ++ rest)
    ≡ Ok (loads_of p, rest)
unfolding segments_in
segments_again p end rest h =
    let at = p.sections_at in
    let d-lt : p.data_at < 2 ^ 32 = omega (arith, h.below) in
    let i-lt : p.init < 2 ^ 32 = omega (arith, h.within, h.more) in
    let m-lt : p.memory < 2 ^ 32 = omega (arith, h.within) in
    let c-lt : 116 + p.code < 2 ^ 32 = omega (arith, h.few) in
    let d-ok : allows layout.data_at_span p.data_at ≡ true =
    allowed layout.data_at_span p.data_at h.from h.below (omega (arith, h.aligned, h.from)) in
    let i-ok : allows (layout.init_span at p.code p.data_at) p.init ≡ true =
    allowed (layout.init_span at p.code p.data_at) p.init (omega arith)
    (omega (arith, h.within, h.more, h.at, h.table, h.null, h.names)) (omega arith) in
    let m-ok : allows (layout.memory_span p.data_at p.init) p.memory ≡ true =
    allowed (layout.memory_span p.data_at p.init) p.memory h.more (omega (arith, h.within)) (omega arith) in
    let r7 = numbers w32 (6 ∷ 4 ∷ []) ++ rest in
    let r6 = to_le_bytes w32 p.memory ++ r7 in
    let r5 = to_le_bytes w32 p.init ++ r6 in
    let r4 = numbers w32 (p.data_at ∷ []) ++ r5 in
    let r3 = to_le_bytes w32 p.data_at ++ r4 in
    let r2 = numbers w32 (1 ∷ (116 + p.code) ∷ []) ++ r3 in
    then_ok (code_in at end (numbers w32 (1 ∷ 116 ∷ 0 ∷ 0 ∷ p.code ∷ p.code ∷ 5 ∷ 4 ∷ []) ++ r2)) (p.code, r2) _ (code_again p end r2 h)
    ∙ then_ok (fixed_in causes.Segment w32 (1 ∷ (116 + p.code) ∷ []) end r2) r3 _
    (fixed_again causes.Segment w32 wide32 (1 ∷ (116 + p.code) ∷ []) end r3 (omega arith, (c-lt, tt)))
    ∙ then_ok (within_in causes.Segment layout.data_at_span end r3) (p.data_at, r4) _
    (within_again causes.Segment layout.data_at_span end p.data_at r4 d-lt d-ok)
    ∙ then_ok (fixed_in causes.Segment w32 (p.data_at ∷ []) end r4) r5 _
    (fixed_again causes.Segment w32 wide32 (p.data_at ∷ []) end r5 (d-lt, tt))
    ∙ then_ok (within_in causes.Segment (layout.init_span at p.code p.data_at) end r5) (p.init, r6) _
    (within_again causes.Segment (layout.init_span at p.code p.data_at) end p.init r6 i-lt i-ok)
    ∙ then_ok (within_in causes.Segment (layout.memory_span p.data_at p.init) end r6) (p.memory, r7) _
    (within_again causes.Segment (layout.memory_span p.data_at p.init) end p.memory r7 m-lt m-ok)
    ∙ then_ok (fixed_in causes.Segment w32 (6 ∷ 4 ∷ []) end r7) rest _
    (fixed_again causes.Segment w32 wide32 (6 ∷ 4 ∷ []) end rest (omega arith, (omega arith, tt)))

-- ---- the section headers

record FormFits (f : Form) : Type 0 where
  before : AllByRecursion (λ v. v < 256 ^ byte_len w32) (layout.fields_before f)
  behind : AllByRecursion (λ v. v < 256 ^ byte_len w32) (layout.fields_behind f)

-- but for the address and the offset the fields are numerals
fit : (f : Form) → f.name < 256 → f.kind < 256 → f.flags < 256 → f.address < 2 ^ 32 → f.offset < 2 ^ 32 → f.link < 256 → f.info < 256
    → f.alignment < 256 → f.entry_size < 256 → FormFits f
fit f n k g a o l i m e = record {
  before = (omega (arith, n), (omega (arith, k), (omega (arith, g), (a, (o, tt)))));
  behind = (omega (arith, l), (omega (arith, i), (omega (arith, m), (omega (arith, e), tt))));
}

section_again : (f : Form) (span : Span) (end size : ℕ) (rest : List ℕ) → FormFits f → size < 2 ^ 32 → allows span size ≡ true
    → section_in f span end (section_bytes f size ++ rest) ≡ Ok (size, rest)
unfolding section_in
section_again f span end size rest h lt ok =
    let r3 = numbers w32 (layout.fields_behind f) ++ rest in
    let r2 = to_le_bytes w32 size ++ r3 in
    then_ok (fixed_in causes.Section w32 (layout.fields_before f) end (numbers w32 (layout.fields_before f) ++ r2)) r2 _
    (fixed_again causes.Section w32 wide32 (layout.fields_before f) end r2 h.before)
    ∙ then_ok (within_in causes.Section span end r2) (size, r3) _ (within_again causes.Section span end size r3 lt ok)
    ∙ then_ok (fixed_in causes.Section w32 (layout.fields_behind f) end r3) rest _
    (fixed_again causes.Section w32 wide32 (layout.fields_behind f) end rest h.behind)

-- the null section's header and those of what is loaded, and those of the rest
abbrev pub loaded_bytes : Plan → List ℕ
loaded_bytes p =
    numbers w32 (0 ∷ 0 ∷ 0 ∷ 0 ∷ 0 ∷ 0 ∷ 0 ∷ 0 ∷ 0 ∷ 0 ∷ []) ++ section_bytes layout.code_form p.code
    ++ section_bytes (layout.data_form p) p.init
    ++ section_bytes (layout.zero_form p) (p.memory - p.init)

abbrev pub others_bytes : Plan → List ℕ
others_bytes p =
    section_bytes (layout.notes_form p) p.notes ++ section_bytes (layout.table_form p) p.table
    ++ section_bytes (layout.symbols_form p) p.symbols
    ++ section_bytes (layout.names_form p) p.names ++ section_bytes (layout.section_names_form p) 71

loaded_again : (p : Plan) (end : ℕ) (rest : List ℕ) → IsPlanned p → loaded_in p end (loaded_bytes p ++ rest) ≡ Ok rest
unfolding loaded_in
loaded_again p end rest h =
    let c-lt : p.code < 2 ^ 32 = omega (arith, h.few) in
    let i-lt : p.init < 2 ^ 32 = omega (arith, h.within, h.more) in
    let z-lt : p.memory - p.init < 2 ^ 32 = omega (arith, h.within) in
    let code = fit layout.code_form (omega arith) (omega arith) (omega arith) (omega arith) (omega arith) (omega arith) (omega arith)
    (omega arith) (omega arith) in
    let store = fit (layout.data_form p) (omega arith) (omega arith) (omega arith) (omega (arith, h.below)) (omega (arith, h.few))
    (omega arith) (omega arith) (omega arith) (omega arith) in
    let zero = fit (layout.zero_form p) (omega arith) (omega arith) (omega arith) (omega (arith, h.within, h.more))
    (omega (arith, h.few, h.within, h.more)) (omega arith) (omega arith) (omega arith) (omega arith) in
    let nulls : List ℕ = 0 ∷ 0 ∷ 0 ∷ 0 ∷ 0 ∷ 0 ∷ 0 ∷ 0 ∷ 0 ∷ 0 ∷ [] in
    let r4 = section_bytes (layout.zero_form p) (p.memory - p.init) ++ rest in
    let r3 = section_bytes (layout.data_form p) p.init ++ r4 in
    let r2 = section_bytes layout.code_form p.code ++ r3 in
    then_ok (fixed_in causes.Section w32 nulls end (numbers w32 nulls ++ r2)) r2 _
    (fixed_again causes.Section w32 wide32 nulls end r2 (
      omega arith,
      (
        omega arith,
        (
          omega arith,
          (
            omega arith,
            (omega arith, (omega arith, (omega arith, (omega arith, (omega arith, (omega arith, tt)))))),
          ),
        ),
      ),
    ))
    ∙ then_ok (section_in layout.code_form (only p.code) end r2) (p.code, r3) _
    (section_again layout.code_form (only p.code) end p.code r3 code c-lt (only_allows p.code))
    ∙ then_ok (section_in (layout.data_form p) (only p.init) end r3) (p.init, r4) _
    (section_again (layout.data_form p) (only p.init) end p.init r4 store i-lt (only_allows p.init))
    ∙ then_ok (section_in (layout.zero_form p) (only (p.memory - p.init)) end r4) (p.memory - p.init, rest) _
    (section_again (layout.zero_form p) (only (p.memory - p.init)) end (p.memory - p.init) rest zero z-lt (only_allows (p.memory - p.init)))

-- a section that isn't loaded
others_fit : (p : Plan) (name kind offset link info alignment entry_size : ℕ) → IsPlanned p → name < 256 → kind < 256
    → offset ≤ p.sections_at → link < 256 → info < 256 → alignment < 256 → entry_size < 256
    → FormFits (record {
      name = name;
      kind = kind;
      flags = 0;
      address = 0;
      offset = offset;
      link = link;
      info = info;
      alignment =
          alignment;
      entry_size = entry_size;
    })
others_fit p name kind offset link info alignment entry_size h n k o l i m e =
    fit (record {
      name = name;
      kind = kind;
      flags = 0;
      address = 0;
      offset = offset;
      link = link;
      info = info;
      alignment =
          alignment;
      entry_size = entry_size;
    }) n k (omega arith) (omega arith) (omega (arith, o, h.small)) l i m e

noted_again : (p : Plan) (end : ℕ) (rest : List ℕ) → IsPlanned p
    → noted_in (begun p.sections_at (loads_of p)) end (section_bytes (layout.notes_form p) p.notes
    ++ (section_bytes (layout.table_form p) p.table ++ rest))
    ≡ Ok (with_table (with_notes (begun p.sections_at (loads_of p)) p.notes) p.table, rest)
unfolding noted_in
noted_again p end rest h =
    let q = begun p.sections_at (loads_of p) in
    let r = with_notes q p.notes in
    let n-lt : p.notes < 2 ^ 32 = omega (arith, h.at, h.small) in
    let t-lt : p.table < 2 ^ 32 = omega (arith, h.at, h.small) in
    let notes = others_fit p 18 1 (layout.notes_offset p) 0 0 4 0 h (omega arith) (omega arith) (omega (arith, h.at)) (omega arith)
    (omega arith) (omega arith) (omega arith) in
    let table = others_fit p 29 1 (layout.table_offset p) 0 0 4 0 h (omega arith) (omega arith) (omega (arith, h.at)) (omega arith)
    (omega arith) (omega arith) (omega arith) in
    let n-ok : allows (layout.notes_span q) p.notes ≡ true =
    allowed (layout.notes_span q) p.notes (omega arith) (omega (arith, h.at, h.table, h.null, (filled_up p.names).1, h.names))
    (omega (arith, h.notes)) in
    let t-ok : allows (layout.table_span r) p.table ≡ true =
    allowed (layout.table_span r) p.table h.table (omega (arith, h.at, h.null, (filled_up p.names).1, h.names)) h.entries in
    let r2 = section_bytes (layout.table_form p) p.table ++ rest in
    then_ok (section_in (layout.notes_form q) (layout.notes_span q) end (section_bytes (layout.notes_form p) p.notes ++ r2))
    (p.notes, r2) _ (section_again (layout.notes_form p) (layout.notes_span q) end p.notes r2 notes n-lt n-ok)
    ∙ then_ok (section_in (layout.table_form r) (layout.table_span r) end r2) (p.table, rest) _
    (section_again (layout.table_form p) (layout.table_span r) end p.table rest table t-lt t-ok)

named_again : (p : Plan) (end : ℕ) (rest : List ℕ) → IsPlanned p
    → named_in (with_table (with_notes (begun p.sections_at (loads_of p)) p.notes) p.table) end
    (section_bytes (layout.symbols_form p) p.symbols ++ (section_bytes (layout.names_form p) p.names
    ++ (section_bytes (layout.section_names_form p) 71 ++ rest))) ≡ Ok (p, rest)
unfolding named_in
named_again p end rest h =
    let q = with_table (with_notes (begun p.sections_at (loads_of p)) p.notes) p.table in
    let r = with_symbols q p.symbols in
    let n = filled_up p.names in
    let s-lt : p.symbols < 2 ^ 32 = omega (arith, h.at, h.small) in
    let n-lt : p.names < 2 ^ 32 = omega (arith, h.at, h.small) in
    let symbols = others_fit p 45 2 (layout.symbols_offset p) 7 1 4 16 h (omega arith) (omega arith) (omega (arith, h.at)) (omega arith)
    (omega arith) (omega arith) (omega arith) in
    let names = others_fit p 53 3 (layout.names_offset p) 0 0 1 0 h (omega arith) (omega arith) (omega (arith, h.at)) (omega arith)
    (omega arith) (omega arith) (omega arith) in
    let last = others_fit p 61 3 (layout.section_names_offset p) 0 0 1 0 h (omega arith) (omega arith) (omega (arith, h.at))
    (omega arith) (omega arith) (omega arith) (omega arith) in
    let s-ok : allows (layout.symbols_span q) p.symbols ≡ true =
    allowed (layout.symbols_span q) p.symbols h.null (omega (arith, h.at, h.null, h.names, n.1)) (omega (arith, h.symbols, h.null)) in
    let n-ok : allows (layout.names_span r) p.names ≡ true =
    allowed (layout.names_span r) p.names (omega (arith, h.at, h.names, n.0)) (omega (arith, h.at)) (omega arith) in
    let r3 = section_bytes (layout.section_names_form p) 71 ++ rest in
    let r2 = section_bytes (layout.names_form p) p.names ++ r3 in
    then_ok (section_in (layout.symbols_form q) (layout.symbols_span q) end (section_bytes (layout.symbols_form p) p.symbols ++ r2))
    (p.symbols, r2) _ (section_again (layout.symbols_form p) (layout.symbols_span q) end p.symbols r2 symbols s-lt s-ok)
    ∙ then_ok (section_in (layout.names_form r) (layout.names_span r) end r2) (p.names, r3) _
    (section_again (layout.names_form p) (layout.names_span r) end p.names r3 names n-lt n-ok)
    ∙ then_ok (section_in (layout.section_names_form p) (only 71) end r3) (71, rest) _
    (section_again (layout.section_names_form p) (only 71) end 71 rest last (omega arith) (only_allows 71))

pub sections_again : (p : Plan) (end : ℕ) (rest : List ℕ) → IsPlanned p
    → sections_in (begun p.sections_at (loads_of p)) end (loaded_bytes p ++ (others_bytes p ++ rest)) ≡ Ok (p, rest)
unfolding sections_in loaded_in
sections_again p end rest h =
    let q = begun p.sections_at (loads_of p) in
    let r = with_table (with_notes q p.notes) p.table in
    let r2 = others_bytes p ++ rest in
    let r3 = section_bytes (layout.symbols_form p) p.symbols
    ++ (section_bytes (layout.names_form p) p.names ++ (section_bytes (layout.section_names_form p) 71 ++ rest)) in
    then_ok (loaded_in q end (loaded_bytes p ++ r2)) r2 _ (loaded_again p end r2 h)
    ∙ then_ok (noted_in q end r2) (r, r3) _ (noted_again p end r3 h)
    ∙ named_again p end rest h

pub headers_again : (p : Plan) (end : ℕ) → IsPlanned p → sections_in (begun p.sections_at (loads_of p)) end (sections_bytes p) ≡ Ok (p, [])
unfolding sections_bytes sections
headers_again p end h = sections_again p end [] h
