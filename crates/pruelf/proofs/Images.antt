-- What is read is an image.
use Rattle.std.proofs.Common.{◌≡◌, ℕ, zero, suc, ◌+◌, ◌-◌, ◌*◌, ◌/◌, ◌%◌, ◌<◌, ◌≤◌, ◌==◌, ◌&&◌, ◌||◌, min, Bool, true, false}
use Rattle.std.proofs.Common.{IsTrue, cond, List, [], ◌∷◌, length, get_or, take, drop, Option, Some, None, Result, Ok, Err, refl}
use Rattle.std.proofs.Common.{sym, ap, subst, ◌∙◌, arith, nat_lt, nat_le}
use Rattle.std.specs.Prelude.{All, IsSome, IsSomeAnd, is_some, slice_get, slice_index, option_and_then}
use Rattle.std.specs.Int.{Width, w8, w16, w32}
use Rattle.std.specs.List.{AllByRecursion}
use Rattle.std.proofs.lemmas.Bool.{and_parts, leb-true, ltb-true, ltb-false, eqb-true}
use Rattle.std.proofs.lemmas.List.{length-take}
use Rattle.std.proofs.lemmas.List.Elements.{All-from_recursion}
use Rattle.isa.specs.declared.inst.Inst.{Inst}
use Rattle.isa.specs.declared.note.Note.{Note as Mark}
use Rattle.isa.specs.declared.note.NoteKind.{NoteKind}
use Rattle.isa.specs.Decoded.{decoded}
use Rattle.isa.specs.Image.{Contents, IsImage, IsPlaced}
use Rattle.isa.specs.Note.{AreOrdered, Stands, is_before, kind_number, may_stand, value_fits}
use Rattle.pruelf.specs.declared.fault.LoadCause.{LoadCause}
use Rattle.pruelf.specs.declared.fault.LoadCause.TheVariants as causes
use Rattle.pruelf.specs.declared.fault.LoadFault.{LoadFault}
use Rattle.pruelf.specs.declared.fault.LoadFault.TheVariants.{At}
use Rattle.pruelf.specs.declared.symbol.Sym.{Sym}
use Rattle.pruelf.specs.declared.plan.Plan.{Plan}
use Rattle.pruelf.specs.declared.segments.LoadSizes.{LoadSizes}
use Rattle.pruelf.specs.declared.span.Span.{Span}
use Rattle.pruelf.specs.Executable.{Held, Loaded, executable_in, memory_in, pad_in, parts_in, symbols_in}
use Rattle.pruelf.specs.Fields.{◌>>=◌, allows, bytes_in, fixed_in, judged_in, many_in, number_in, only, within_in, wrong}
use Rattle.pruelf.specs.Front.{begun, code_in, header_in, loaded_in, named_in, noted_in, section_in, sections_in}
use Rattle.pruelf.specs.Front.{segments_in, with_notes, with_symbols, with_table, with_names}
use Rattle.pruelf.specs.Layout as layout
use Rattle.pruelf.specs.Parts.{bears, chosen, instruction, is_word, kind_before, kind_in, kinds, may_be_word}
use Rattle.pruelf.specs.Parts.{may_follow, note_in, resources_in, word_before, word_in}
use Rattle.pruelf.proofs.Loop.{Reader}

-- the value of a step that did not fail
pub bind_ok : {A B : Type 0} (r : Result A LoadFault) (f : A → Result B LoadFault) (y : B) → (r >>= f) ≡ Ok y
    → (x : A) × (r ≡ Ok x) × (f x ≡ Ok y)
bind_ok (Ok x) f y e = (x, refl, e)
bind_ok (Err d) f y e = absurd cc

abbrev done : {A : Type 0} → A → Result A LoadFault
done x = Ok x

pub ok_is : {A : Type 0} (x y : A) → done x ≡ done y → x ≡ y
ok_is x y e = cc

-- a test that did not fail
pub guard_ok : {A : Type 0} (b : Bool) (x y : A) (d : LoadFault) → cond b (Ok x) (Err d) ≡ Ok y → (b ≡ true) × (x ≡ y)
guard_ok true x y d e = (refl, cc)
guard_ok false x y d e = absurd cc

pub judged_ok : (cause : LoadCause) (w : Width) (may : ℕ → Bool) (end : ℕ) (bytes : List ℕ) (x : ℕ × List ℕ)
    → judged_in cause w may end bytes ≡ Ok x → may x.0 ≡ true
unfolding judged_in
judged_ok cause w may end bytes x e =
    let b = bind_ok (number_in w end bytes) (λ n. cond (may n.0) (Ok n) (Err (wrong cause end bytes))) x e in
    let g = guard_ok (may b.0.0) b.0 x (wrong cause end bytes) b.2 in
    subst (λ (y : ℕ × List ℕ). may y.0 ≡ true) g.1 g.0

pub record Within (span : Span) (n : ℕ) : Type 0 where
  pub least : span.least ≤ n
  pub most : n ≤ span.most
  pub unit : (n - span.least) % span.unit ≡ 0

within_allowed : (span : Span) (n : ℕ) → allows span n ≡ true → Within span n
within_allowed span n h =
    let both = and_parts (nat_le span.least n && nat_le n span.most) ((n - span.least) % span.unit == 0) h in
    let bounds = and_parts (nat_le span.least n) (nat_le n span.most) both.0 in
    record { least = leb-true _ _ bounds.0; most = leb-true _ _ bounds.1; unit = eqb-true _ _ both.1 }

pub within_ok : (cause : LoadCause) (span : Span) (end : ℕ) (bytes : List ℕ) (x : ℕ × List ℕ)
    → within_in cause span end bytes ≡ Ok x → Within span x.0
within_ok cause span end bytes x e = within_allowed span x.0 (judged_ok cause w32 (allows span) end bytes x e)

-- ---- so many things, each of which fits what stands before it

abbrev pub Chained : {A : Type 0} → (Option A → A → Type 0) → Option A → List A → Type 0
Chained P before [] = Unit {0}
Chained P before (x ∷ xs) = P before x × Chained P (Some x) xs

pub many_ok : {A : Type 0} (one : Reader A) (P : Option A → A → Type 0)
    → ((left : ℕ) (before : Option A) (bytes : List ℕ) (x : A × List ℕ) → one left before bytes ≡ Ok x → P before x.0)
    → (n : ℕ) (before : Option A) (bytes : List ℕ) (x : List A × List ℕ) → many_in one n before bytes ≡ Ok x
    → Chained P before x.0 × (length x.0 ≡ n)
unfolding many_in
many_ok {A = A} one P each zero before bytes x e = subst (λ (y : List A × List ℕ). Chained P before y.0 × (length y.0 ≡ 0))
    (ok_is ([], bytes) x e) (tt, refl)
many_ok {A = A} one P each (suc n) before bytes x e =
    let a = bind_ok (one (suc n) before bytes) (λ first. many_in one n (Some first.0) first.1 >>= λ others. Ok
    (first.0 ∷ others.0, others.1)) x e in
    let b = bind_ok (many_in one n (Some a.0.0) a.0.1) (λ others. Ok (a.0.0 ∷ others.0, others.1)) x a.2 in
    let rest = many_ok one P each n (Some a.0.0) a.0.1 b.0 b.1 in
    let made : List A × List ℕ = (a.0.0 ∷ b.0.0, b.0.1) in
    subst (λ (y : List A × List ℕ). Chained P before y.0 × (length y.0 ≡ suc n)) (ok_is made x b.2)
    ((each (suc n) before bytes a.0 a.1, rest.0), ap suc rest.1)

-- ---- words

abbrev IsCode : Option ℕ → ℕ → Type 0
IsCode before word = IsSome (decoded word)

code_of_some : (o : Option Inst) → is_some o ≡ true → IsSome o
code_of_some o h = h

word_ok : (end left : ℕ) (before : Option ℕ) (bytes : List ℕ) (x : ℕ × List ℕ) → word_in end left before bytes ≡ Ok x → IsCode before x.0
word_ok end left before bytes x e = code_of_some (decoded x.0) (judged_ok causes.Word w32 is_word end bytes x e)

all_code : (before : Option ℕ) (words : List ℕ) → Chained IsCode before words → AllByRecursion (λ w. IsSome (decoded w)) words
all_code before [] h = tt
all_code before (w ∷ words) h = (h.0, all_code (Some w) words h.1)

-- ---- notes

abbrev Follows : Option Mark → Mark → Type 0
Follows None m = Unit {0}
Follows (Some b) m = is_before b m ≡ true

abbrev Marks : List ℕ → Option Mark → Mark → Type 0
Marks words before m = Stands words m × Follows before m

stands_on : (o : Option Inst) (k : NoteKind) (w : ℕ) → bears k w o ≡ true → IsSomeAnd o (λ i. IsTrue (may_stand k w i))
stands_on None k w h = absurd cc
stands_on (Some i) k w h = h

bears_at : (words : List ℕ) (i w : ℕ) (k : NoteKind) → bears k w (option_and_then decoded (slice_get words i)) ≡ true
    → (i < length words) × IsSomeAnd (decoded (slice_index words i)) (λ x. IsTrue (may_stand k w x))
bears_at [] i w k h = absurd cc
bears_at (x ∷ words) zero w k h = (omega arith, stands_on (decoded x) k w h)
bears_at (x ∷ words) (suc i) w k h =
    let r = bears_at words i w k h in
    (omega (arith, r.0), r.1)

before_by : (b m : ℕ) (j k : ℕ) (same : Bool) → (b == m) ≡ same → b ≤ m → nat_lt (cond same j 0) k ≡ true
    → (nat_lt b m || (same && nat_lt j k)) ≡ true
before_by b m j k true is le h = rw h (grind arith)
before_by b m j k false is le h = rw (ltb-of b m is le) refl
  where
    ltb-of : (b m : ℕ) → (b == m) ≡ false → b ≤ m → nat_lt b m ≡ true
    ltb-of b m is le = grind arith

follows : (words : List ℕ) (before : Option Mark) (m : Mark) → may_be_word words before m.word ≡ true
    → may_follow words before m.word m.kind ≡ true → Follows before m
follows words None m h f = tt
follows words (Some b) m h f =
    let le : b.word ≤ m.word = leb-true _ _ (and_parts (nat_le b.word m.word) _ h).0 in
    let kind = (and_parts (nat_lt (kind_before (Some b) m.word) (kind_number m.kind)) _ f).0 in
    before_by b.word m.word (kind_number b.kind) (kind_number m.kind) (b.word == m.word) refl le kind

chosen_ok : {A : Type 0} (may : A → Bool) (o : Option A) (d : LoadFault) (x : A) → chosen may o d ≡ Ok x → may x ≡ true
chosen_ok may None d x e = absurd cc
chosen_ok may (Some y) d x e =
    let g = guard_ok (may y) y x d e in
    subst (λ z. may z ≡ true) g.1 g.0

kind_ok : (words : List ℕ) (before : Option Mark) (word end : ℕ) (bytes : List ℕ) (x : NoteKind × List ℕ)
    → kind_in words before word end bytes ≡ Ok x → may_follow words before word x.0 ≡ true
unfolding kind_in
kind_ok words before word end bytes x e =
    let a = bind_ok (number_in w8 end bytes) _ x e in
    let b = bind_ok (chosen (may_follow words before word) _ (wrong causes.Note end bytes)) (λ kind. Ok (kind, a.0.1)) x a.2 in
    subst (λ (y : NoteKind × List ℕ). may_follow words before word y.0 ≡ true) (ok_is (b.0, a.0.1) x b.2)
    (chosen_ok (may_follow words before word) _ (wrong causes.Note end bytes) b.0 b.1)

note_ok : (words : List ℕ) (end left : ℕ) (before : Option Mark) (bytes : List ℕ) (x : Mark × List ℕ)
    → note_in words end left before bytes ≡ Ok x → Marks words before x.0
unfolding note_in
note_ok words end left before bytes x e =
    let a = bind_ok (judged_in causes.Note w16 (may_be_word words before) end bytes) _ x e in
    let b = bind_ok (kind_in words before a.0.0 end a.0.1) _ x a.2 in
    let c = bind_ok (fixed_in causes.Note w8 (0 ∷ []) end b.0.1) _ x b.2 in
    let d = bind_ok (judged_in causes.Note w32 (value_fits b.0.0) end c.0) _ x c.2 in
    let word = judged_ok causes.Note w16 (may_be_word words before) end bytes a.0 a.1 in
    let kind = kind_ok words before a.0.0 end a.0.1 b.0 b.1 in
    let value = judged_ok causes.Note w32 (value_fits b.0.0) end c.0 d.0 d.1 in
    let made : Mark = record { word = a.0.0; kind = b.0.0; value = d.0.0 } in
    let place = bears_at words a.0.0 a.0.0 b.0.0 (and_parts _ (bears b.0.0 a.0.0 (instruction words a.0.0)) kind).1 in
    let stands : Stands words made = record { word = place.0; value = value; place = place.1 } in
    let y : Mark × List ℕ = (made, d.0.1) in
    subst (λ (z : Mark × List ℕ). Marks words before z.0) (ok_is y x d.2) (stands, follows words before made word kind)

all_stand : (words : List ℕ) (before : Option Mark) (notes : List Mark) → Chained (Marks words) before notes
    → AllByRecursion (Stands words) notes
all_stand words before [] h = tt
all_stand words before (m ∷ notes) h = (h.0.0, all_stand words (Some m) notes h.1)

all_ordered : (words : List ℕ) (before : Option Mark) (notes : List Mark) → Chained (Marks words) before notes → AreOrdered notes
all_ordered words before [] h = tt
all_ordered words before (m ∷ []) h = tt
all_ordered words before (m ∷ n ∷ notes) h = (h.1.0.1, all_ordered words (Some m) (n ∷ notes) h.1)

-- ---- what the program headers tell

bytes_ok : (count end : ℕ) (bytes : List ℕ) (x : List ℕ × List ℕ) → bytes_in count end bytes ≡ Ok x → length x.0 ≡ count
bytes_ok count end bytes x e = by (nat_lt (length bytes) count) refl e
  where
    by : (t : Bool) → nat_lt (length bytes) count ≡ t → cond {A = Result (List ℕ × List ℕ) LoadFault} t
        (Err (At end causes.Truncated)) (Ok (take count bytes, drop count bytes)) ≡ Ok x → length x.0 ≡ count
    by true is e = absurd cc
    by false is e =
        let y : List ℕ × List ℕ = (take count bytes, drop count bytes) in
        let long : count ≤ length bytes = ltb-false _ _ is in
        subst (λ (z : List ℕ × List ℕ). length z.0 ≡ count) (ok_is y x e) (omega (arith, length-take count bytes))

code_ok : (at end : ℕ) (bytes : List ℕ) (x : ℕ × List ℕ) → code_in at end bytes ≡ Ok x → x.0 ≤ 8192
unfolding code_in
code_ok at end bytes x e =
    let a = bind_ok (fixed_in causes.Segment w32 (1 ∷ 116 ∷ 0 ∷ 0 ∷ []) end bytes) _ x e in
    let b = bind_ok (within_in causes.Segment (layout.code_span at) end a.0) _ x a.2 in
    let c = bind_ok (fixed_in causes.Segment w32 (b.0.0 ∷ 5 ∷ 4 ∷ []) end b.0.1) (λ rest. Ok (b.0.0, rest)) x b.2 in
    let span = within_ok causes.Segment (layout.code_span at) end a.0 b.0 b.1 in
    let most : b.0.0 ≤ min (at - 224) 8192 = span.most in
    let y : ℕ × List ℕ = (b.0.0, c.0) in
    subst (λ (z : ℕ × List ℕ). z.0 ≤ 8192) (ok_is y x c.2) (omega (arith, most))

record AreLoads (s : LoadSizes) : Type 0 where
  code : s.code ≤ 8192
  placed : IsPlaced s.data_at s.init (s.memory - s.init)

placed_of : (at code d i m : ℕ) → Within layout.data_at_span d → Within (layout.init_span at code d) i
    → Within (layout.memory_span d i) m → IsPlaced d i (m - i)
placed_of at code d i m wd wi wm =
    let low : 0x10 ≤ d = wd.least in
    let high : d ≤ 0x1DFC = wd.most in
    let unit : (d - 0x10) % 4 ≡ 0 = wd.unit in
    let more : i ≤ m = wm.least in
    let most : m ≤ 0x1E00 - d = wm.most in
    record { aligned = omega arith; from = low; below = high; within = omega arith }

segments_ok : (at end : ℕ) (bytes : List ℕ) (x : LoadSizes × List ℕ) → segments_in at end bytes ≡ Ok x → AreLoads x.0
unfolding segments_in
segments_ok at end bytes x e =
    let a = bind_ok (code_in at end bytes) _ x e in
    let b = bind_ok (fixed_in causes.Segment w32 (1 ∷ (116 + a.0.0) ∷ []) end a.0.1) _ x a.2 in
    let d = bind_ok (within_in causes.Segment layout.data_at_span end b.0) _ x b.2 in
    let f = bind_ok (fixed_in causes.Segment w32 (d.0.0 ∷ []) end d.0.1) _ x d.2 in
    let i = bind_ok (within_in causes.Segment (layout.init_span at a.0.0 d.0.0) end f.0) _ x f.2 in
    let m = bind_ok (within_in causes.Segment (layout.memory_span d.0.0 i.0.0) end i.0.1) _ x i.2 in
    let g = bind_ok (fixed_in causes.Segment w32 (6 ∷ 4 ∷ []) end m.0.1)
    (λ rest. Ok (record { code = a.0.0; data_at = d.0.0; init = i.0.0; memory = m.0.0 }, rest)) x m.2 in
    let made : LoadSizes = record { code = a.0.0; data_at = d.0.0; init = i.0.0; memory = m.0.0 } in
    let placed = placed_of at a.0.0 d.0.0 i.0.0 m.0.0 (within_ok causes.Segment layout.data_at_span end b.0 d.0 d.1)
    (within_ok causes.Segment (layout.init_span at a.0.0 d.0.0) end f.0 i.0 i.1)
    (within_ok causes.Segment (layout.memory_span d.0.0 i.0.0) end i.0.1 m.0 m.1) in
    let are : AreLoads made = record { code = code_ok at end bytes a.0 a.1; placed = placed } in
    let y : LoadSizes × List ℕ = (made, g.0) in
    subst (λ (z : LoadSizes × List ℕ). AreLoads z.0) (ok_is y x g.2) are

-- ---- the section headers leave that

record Keeps (p q : Plan) : Type 0 where
  code : q.code ≡ p.code
  data_at : q.data_at ≡ p.data_at
  init : q.init ≡ p.init
  memory : q.memory ≡ p.memory

keeps_then : (p q r : Plan) → Keeps p q → Keeps q r → Keeps p r
keeps_then p q r h k = record {
  code = k.code ∙ h.code;
  data_at = k.data_at ∙ h.data_at;
  init = k.init ∙ h.init;
  memory =
      k.memory ∙ h.memory;
}

noted_keeps : (p : Plan) (end : ℕ) (bytes : List ℕ) (x : Plan × List ℕ) → noted_in p end bytes ≡ Ok x → Keeps p x.0
unfolding noted_in
noted_keeps p end bytes x e =
    let a = bind_ok (section_in (layout.notes_form p) (layout.notes_span p) end bytes) _ x e in
    let q = with_notes p a.0.0 in
    let b = bind_ok (section_in (layout.table_form q) (layout.table_span q) end a.0.1) (λ table. Ok (with_table q table.0, table.1))
    x a.2 in
    let y : Plan × List ℕ = (with_table q b.0.0, b.0.1) in
    subst (λ (z : Plan × List ℕ). Keeps p z.0) (ok_is y x b.2) (record { code = refl; data_at = refl; init = refl; memory = refl })

named_keeps : (p : Plan) (end : ℕ) (bytes : List ℕ) (x : Plan × List ℕ) → named_in p end bytes ≡ Ok x → Keeps p x.0
unfolding named_in
named_keeps p end bytes x e =
    let a = bind_ok (section_in (layout.symbols_form p) (layout.symbols_span p) end bytes) _ x e in
    let q = with_symbols p a.0.0 in
    let b = bind_ok (section_in (layout.names_form q) (layout.names_span q) end a.0.1) _ x a.2 in
    let r = with_names q b.0.0 in
    let c = bind_ok (section_in (layout.section_names_form r) (only 71) end b.0.1) (λ last. Ok (r, last.1)) x b.2 in
    let y : Plan × List ℕ = (r, c.0.1) in
    subst (λ (z : Plan × List ℕ). Keeps p z.0) (ok_is y x c.2) (record { code = refl; data_at = refl; init = refl; memory = refl })

sections_keep : (p : Plan) (end : ℕ) (bytes : List ℕ) (x : Plan × List ℕ) → sections_in p end bytes ≡ Ok x → Keeps p x.0
unfolding sections_in
sections_keep p end bytes x e =
    let a = bind_ok (loaded_in p end bytes) _ x e in
    let b = bind_ok (noted_in p end a.0) (λ noted. named_in noted.0 end noted.1) x a.2 in
    keeps_then p b.0.0 x.0 (noted_keeps p end a.0 b.0 b.1) (named_keeps b.0.0 end b.0.1 x b.2)

-- ---- the parts

record HasParts (p : Plan) (h : Held) : Type 0 where
  count : length h.image.words ≡ p.code / 4
  code : AllByRecursion (λ w. IsSome (decoded w)) h.image.words
  init : length h.image.init ≡ p.init
  data_at : h.image.data_at ≡ p.data_at
  zero : h.image.zero ≡ p.memory - p.init
  stand : AllByRecursion (Stands h.image.words) h.image.notes
  ordered : AreOrdered h.image.notes

record HasMemory (p : Plan) (l : Loaded) : Type 0 where
  count : length l.words ≡ p.code / 4
  code : AllByRecursion (λ w. IsSome (decoded w)) l.words
  init : length l.init ≡ p.init

memory_ok : (p : Plan) (end : ℕ) (bytes : List ℕ) (x : Loaded × List ℕ) → memory_in p end bytes ≡ Ok x → HasMemory p x.0
unfolding memory_in
memory_ok p end bytes x e =
    let a = bind_ok (many_in (word_in end) (p.code / 4) None bytes) _ x e in
    let b = bind_ok (bytes_in p.init end a.0.1) _ x a.2 in
    let made : Loaded = record { words = a.0.0; init = b.0.0 } in
    let c = bind_ok (pad_in p.init end b.0.1) (λ rest. Ok (made, rest)) x b.2 in
    let words = many_ok (word_in end) IsCode (word_ok end) (p.code / 4) None bytes a.0 a.1 in
    let has : HasMemory p made = record { count = words.1; code = all_code None a.0.0 words.0; init = bytes_ok p.init end a.0.1 b.0 b.1 } in
    let y : Loaded × List ℕ = (made, c.0) in
    subst (λ (z : Loaded × List ℕ). HasMemory p z.0) (ok_is y x c.2) has

parts_ok : (p : Plan) (end : ℕ) (bytes : List ℕ) (h : Held) → parts_in p end bytes ≡ Ok h → HasParts p h
unfolding parts_in
parts_ok p end bytes h e =
    let a = bind_ok (memory_in p end bytes) _ h e in
    let words = a.0.0.words in
    let b = bind_ok (many_in (note_in words end) (p.notes / 8) None a.0.1) _ h a.2 in
    let c = bind_ok (resources_in p.table end b.0.1) _ h b.2 in
    let made : List Sym × List ℕ → Held = λ s. record {
      image =
          record { words = words; data_at = p.data_at; init = a.0.0.init; zero = p.memory - p.init; notes = b.0.0 };
      symbols = s.0;
      table = c.0.0;
    } in
    let d = bind_ok (symbols_in p end c.0.1) (λ symbols. Ok (made symbols)) h c.2 in
    let memory = memory_ok p end bytes a.0 a.1 in
    let notes = (many_ok (note_in words end) (Marks words) (note_ok words end) (p.notes / 8) None a.0.1 b.0 b.1).0 in
    let has : HasParts p (made d.0) = record {
      count = memory.count;
      code = memory.code;
      init = memory.init;
      data_at = refl;
      zero =
          refl;
      stand = all_stand words None b.0.0 notes;
      ordered = all_ordered words None b.0.0 notes;
    } in
    subst (HasParts p) (ok_is (made d.0) h d.2) has

image_of : (s : LoadSizes) (p : Plan) (at : ℕ) (h : Held) → AreLoads s → Keeps (begun at s) p → HasParts p h → IsImage h.image
image_of s p at h loads keeps parts =
    let count : length h.image.words ≡ p.code / 4 = parts.count in
    let code : p.code ≡ s.code = keeps.code in
    let few : s.code ≤ 8192 = loads.code in
    let zero : h.image.zero ≡ s.memory - s.init = parts.zero ∙ ap (λ m. m - p.init) keeps.memory ∙ ap (λ i. s.memory - i) keeps.init in
    let placed : IsPlaced h.image.data_at (length h.image.init) h.image.zero =
    rw (parts.data_at ∙ keeps.data_at, parts.init ∙ keeps.init, zero) loads.placed in
    record {
      few = omega arith;
      decode = All-from_recursion (λ w. IsSome (decoded w)) h.image.words parts.code;
      placed = placed;
      stand = All-from_recursion (Stands h.image.words) h.image.notes parts.stand;
      ordered = parts.ordered;
    }

-- an executable holds an image
pub is_image : (bytes : List ℕ) (h : Held) → executable_in bytes ≡ Ok h → IsImage h.image
unfolding executable_in
is_image bytes h e =
    let end = length bytes in
    let a = bind_ok (header_in end bytes) _ h e in
    let b = bind_ok (segments_in a.0.0 end a.0.1) _ h a.2 in
    let c = bind_ok (sections_in (begun a.0.0 b.0.0) end (drop a.0.0 bytes)) _ h b.2 in
    let d = bind_ok (parts_in c.0.0 end b.0.1) (λ held. cond (length c.0.1 == 0) (Ok held) (Err (wrong causes.Trailing end c.0.1))) h c.2 in
    let g = guard_ok (length c.0.1 == 0) d.0 h (wrong causes.Trailing end c.0.1) d.2 in
    let image = image_of b.0.0 c.0.0 a.0.0 d.0 (segments_ok a.0.0 end a.0.1 b.0 b.1)
    (sections_keep (begun a.0.0 b.0.0) end (drop a.0.0 bytes) c.0 c.1) (parts_ok c.0.0 end b.0.1 d.0 d.1) in
    subst (λ (i : Held). IsImage i.image) g.1 image
