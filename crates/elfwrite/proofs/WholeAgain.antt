-- What is written is read again: the resource table, all parts, and the whole executable.
use Rattle.std.proofs.Common.{◌≡◌, ℕ, zero, suc, ◌+◌, ◌-◌, ◌*◌, ◌/◌, ◌^◌, ◌<◌, ◌≤◌, ◌==◌, Bool, true, false, cond, List, [], ◌∷◌}
use Rattle.std.proofs.Common.{◌++◌, length, drop, replicate, Option, Some, None, Result, Ok, Err, refl, sym, ap, subst, ◌∙◌}
use Rattle.std.proofs.Common.{append_assoc, arith, nat_lt}
use Rattle.std.proofs.lemmas.List.Folds.{list_any_at}
use Rattle.std.specs.Prelude.{◌&&◌, ◌||◌, nat_le, not, All, IsSome, IsSomeAnd, IsTrue, option_and_then, slice_get, slice_index}
use Rattle.std.specs.Int.{w8, w16, w32, byte_len, to_le_bytes}
use Rattle.std.specs.List.{AllByRecursion, flat_map, list_all, list_any}
use Rattle.std.proofs.lemmas.List.{drop_at, length-append, length-replicate}
use Rattle.isa.specs.declared.note.Note.{Note as Mark}
use Rattle.isa.specs.declared.inst.Inst.{Inst}
use Rattle.isa.specs.declared.note.NoteKind.{NoteKind}
use Rattle.isa.specs.declared.note.NoteKind.TheVariants.{Enter, DelayIn, DelayOut, Leave, Own, Return, Turns}
use Rattle.isa.specs.Note.{AreOrdered, Stands, is_before, kind_number, may_stand}
use Rattle.isa.specs.Decoded.{decoded}
use Rattle.isa.specs.Image.{Contents, IsImage}
use Rattle.restable.specs.declared.trace.Trace.{Trace}
use Rattle.restable.specs.Tables.{IsTrace, entry, offsets, table, words}
use Rattle.restable.specs.Reading.{table_in}
use Rattle.restable.proofs.TableLaws.{table_again}
use Rattle.std.proofs.lemmas.Bool.{and_from, and_parts, eqb-true, le-leb, leb-true, lt-ltb, ltb-true}
use Rattle.std.proofs.lemmas.List.Elements.{All-head, All-tail}
use Rattle.pruelf.specs.declared.fault.LoadCause.TheVariants as causes
use Rattle.pruelf.specs.declared.fault.LoadFault.{LoadFault}
use Rattle.pruelf.specs.declared.plan.Plan.{Plan}
use Rattle.pruelf.specs.declared.symbol.Sym.{Sym}
use Rattle.pruelf.specs.Executable.{Held, Loaded, executable_in, image_in, memory_in, pad_in, parts_in, symbols_in}
use Rattle.pruelf.specs.Fields.{◌>>=◌, bytes_in, fixed_in, many_in, wrong}
use Rattle.pruelf.specs.Front.{begun, header_in, sections_in, segments_in}
use Rattle.pruelf.specs.Layout.{padding, section_names}
use Rattle.pruelf.specs.Parts.{bears, entries_in, kind_before, kinds, located, may_follow, names_in, note_in, resources_in}
use Rattle.pruelf.specs.Parts.{word_before, word_in}
use Rattle.elfwrite.specs.Ranged.{IsRanged}
use Rattle.elfwrite.specs.Written.{Besides, CanBeWritten, IsExtra, executable, filled, front_bytes, names_bytes}
use Rattle.elfwrite.specs.Written.{note_bytes, numbers, parts_bytes, plan_of, section_names_bytes, sections, sections_bytes}
use Rattle.elfwrite.specs.Written.{segments_bytes, symbol_bytes, symbols_bytes}
use Rattle.elfwrite.proofs.Again.{IsPlanned, bytes_again, fixed_again, header_again, headers_again, loads_of}
use Rattle.elfwrite.proofs.Again.{sections_allowed, segments_again, then_ok, wide8, wide32}
use Rattle.elfwrite.proofs.PartsAgain.{Chain, IsMark, IsWord, notes_again, words_again}
use Rattle.elfwrite.proofs.Few.{kind_least}
use Rattle.elfwrite.proofs.SymbolsAgain.{entries_again, entries_of, names_again, names_longer}

-- ---- what fills a part

zeros : (n : ℕ) → numbers w8 (replicate n 0) ≡ replicate n 0
zeros zero = refl
zeros (suc n) = ap (λ xs. 0 ∷ xs) (zeros n)

small_zeros : (n : ℕ) → AllByRecursion (λ v. v < 256 ^ byte_len w8) (replicate n 0)
small_zeros zero = tt
small_zeros (suc n) = (omega arith, small_zeros n)

pad_again : (n end : ℕ) (rest : List ℕ) → pad_in n end (replicate (padding n) 0 ++ rest) ≡ Ok rest
pad_again n end rest =
    ap (λ b. pad_in n end (b ++ rest)) (sym (zeros (padding n)))
    ∙ fixed_again causes.Pad w8 wide8 (replicate (padding n) 0) end rest (small_zeros (padding n))

-- ---- the resource table

length_offsets : (count value : ℕ) → length (words (offsets value count)) ≡ 4 * count
length_offsets zero value = refl
length_offsets (suc count) value =
    omega (arith, length_offsets count (value + 48), length-append (to_le_bytes w32 value) (words (offsets (value + 48) count)))

length_entries : (traces : List Trace) → AllByRecursion IsTrace traces → length (flat_map entry traces) ≡ 48 * length traces
length_entries [] h = refl
length_entries (trace ∷ traces) h =
    let short = leb-true _ 32 (and_parts (nat_le (length trace.name) 32) (list_all (λ b. not (b == 0)) trace.name) h.0.name).0 in
    omega (
      arith,
      short,
      length_entries traces h.1,
      length-append (entry trace) (flat_map entry traces),
      length-append trace.name (replicate (32 - length trace.name) 0),
      length-replicate {A = ℕ} (32 - length trace.name) 0,
    )

pub length_table : (traces : List Trace) → AllByRecursion IsTrace traces → length (table traces) ≡ 16 + 52 * length traces
length_table traces h =
    let n = length traces in
    let w = words (offsets (16 + 4 * n) n) in
    omega (arith, length_offsets n (16 + 4 * n), length_entries traces h, length-append w (flat_map entry traces))

resources_again : (traces : List Trace) (size end : ℕ) (rest : List ℕ) → AllByRecursion IsTrace traces → length (table traces) ≡ size
    → size < 2 ^ 31
    → resources_in size end (table traces ++ rest) ≡ Ok (table traces, rest)
unfolding resources_in
resources_again traces size end rest h e small =
    let n = length traces in
    let bytes = table traces ++ rest in
    let behind = words (0 ∷ 0 ∷ []) ++ (words (offsets (16 + 4 * n) n) ++ flat_map entry traces) ++ rest in
    let count : (size - 16) / 52 ≡ n = omega (arith, e, length_table traces h) in
    let few : n < 2 ^ 32 = omega (arith, e, length_table traces h, small) in
    ap (λ k. fixed_in causes.Table w32 (1 ∷ k ∷ []) end bytes >>= λ r. bytes_in size end bytes >>= λ t. located end bytes (table_in t.0)
    >>= λ ts. Ok t) count
    ∙ then_ok (fixed_in causes.Table w32 (1 ∷ n ∷ []) end bytes) behind _
    (fixed_again causes.Table w32 wide32 (1 ∷ n ∷ []) end behind (omega arith, (few, tt)))
    ∙ then_ok (bytes_in size end bytes) (table traces, rest) _ (bytes_again size end (table traces) rest e)
    ∙ ap (λ r. located end bytes r >>= λ ts. Ok (table traces, rest)) (table_again traces h (omega (arith, e, small)))

-- ---- words

words_chain : (before : Option ℕ) (ws : List ℕ) → AllByRecursion (λ w. w < 2 ^ 32) ws → All (λ w. IsSome (decoded w)) ws
    → Chain IsWord before ws
words_chain before [] r d = tt
words_chain before (w ∷ ws) r d =
    ((r.0, All-head (λ v. IsSome (decoded v)) w ws d), words_chain (Some w) ws r.1 (All-tail (λ v. IsSome (decoded v)) w ws d))

-- ---- notes

some_kind : (p : NoteKind → Bool) (k : NoteKind) → p k ≡ true → list_any p kinds ≡ true
some_kind p Enter h = list_any_at p kinds 0 Enter (omega arith) h
some_kind p DelayIn h = list_any_at p kinds 1 Enter (omega arith) h
some_kind p DelayOut h = list_any_at p kinds 2 Enter (omega arith) h
some_kind p Leave h = list_any_at p kinds 3 Enter (omega arith) h
some_kind p Own h = list_any_at p kinds 4 Enter (omega arith) h
some_kind p Return h = list_any_at p kinds 5 Enter (omega arith) h
some_kind p Turns h = list_any_at p kinds 6 Enter (omega arith) h

stands_back : (o : Option Inst) (k : NoteKind) (w : ℕ) → IsSomeAnd o (λ i. IsTrue (may_stand k w i)) → bears k w o ≡ true
stands_back None k w h = absurd h
stands_back (Some i) k w h = h

bears_back : (ws : List ℕ) (i w : ℕ) (k : NoteKind) → i < length ws → IsSomeAnd (decoded (slice_index ws i)) (λ x. IsTrue (may_stand k w x))
    → bears k w (option_and_then decoded (slice_get ws i)) ≡ true
bears_back [] i w k lt h = absurd (omega (arith, lt))
bears_back (x ∷ ws) zero w k lt h = stands_back (decoded x) k w h
bears_back (x ∷ ws) (suc i) w k lt h = bears_back ws i w k (omega (arith, lt)) h

-- it stands behind the one before
abbrev IsBehind : Option Mark → Mark → Type 0
IsBehind None m = Unit {0}
IsBehind (Some b) m = is_before b m ≡ true

behind_by : (a b j k : ℕ) (t same : Bool) → nat_lt a b ≡ t → (a == b) ≡ same → 1 ≤ k → (t || (same && nat_lt j k)) ≡ true
    → (nat_le a b ≡ true) × (nat_lt (cond same j 0) k ≡ true)
behind_by a b j k true true lt is least h = absurd (omega (arith, ltb-true a b lt, eqb-true a b is))
behind_by a b j k true false lt is least h = (le-leb a b (omega (arith, ltb-true a b lt)), lt-ltb 0 k (omega (arith, least)))
behind_by a b j k false true lt is least h = (le-leb a b (omega (arith, eqb-true a b is)), h)
behind_by a b j k false false lt is least h = absurd cc

is_behind : (before : Option Mark) (m : Mark) → IsBehind before m
    → (nat_le (word_before before) m.word ≡ true) × (nat_lt (kind_before before m.word) (kind_number m.kind) ≡ true)
is_behind None m h = (le-leb 0 m.word (omega arith), lt-ltb 0 (kind_number m.kind) (kind_least m.kind))
is_behind (Some b) m h =
    behind_by b.word m.word (kind_number b.kind) (kind_number m.kind) (nat_lt b.word m.word) (b.word == m.word) refl refl
    (kind_least m.kind) h

is_mark : (ws : List ℕ) (left : ℕ) (before : Option Mark) (m : Mark) → length ws ≤ 2048 → m.value < 2 ^ 32 → Stands ws m → IsBehind before m
    → IsMark ws left before m
is_mark ws left before m few value stands behind =
    let word : m.word < length ws = stands.word in
    let is = is_behind before m behind in
    let follow : may_follow ws before m.word m.kind ≡ true = and_from _ _ is.1 (bears_back ws m.word m.word m.kind word stands.place) in
    (omega (arith, word, few), value, and_from _ _ is.0 (some_kind (may_follow ws before m.word) m.kind follow), follow, stands.value)

notes_chain : (ws : List ℕ) (before : Option Mark) (m : Mark) (notes : List Mark) → length ws ≤ 2048
    → AllByRecursion (λ n. n.value < 2 ^ 32) (m ∷ notes)
    → All (Stands ws) (m ∷ notes) → AreOrdered (m ∷ notes) → IsBehind before m → Chain (IsMark ws) before (m ∷ notes)
notes_chain ws before m [] few r s o b = (is_mark ws 1 before m few r.0 (All-head (Stands ws) m [] s) b, tt)
notes_chain ws before m (n ∷ notes) few r s o b = (
  is_mark ws (suc (length (n ∷ notes))) before m few r.0 (All-head (Stands ws) m (n ∷ notes) s) b,
  notes_chain ws (Some m) n notes few r.1 (All-tail (Stands ws) m (n ∷ notes) s) o.1 o.0,
)

all_notes_chain : (ws : List ℕ) (notes : List Mark) → length ws ≤ 2048 → AllByRecursion (λ n. n.value < 2 ^ 32) notes
    → All (Stands ws) notes → AreOrdered notes → Chain (IsMark ws) None notes
all_notes_chain ws [] few r s o = tt
all_notes_chain ws (m ∷ notes) few r s o = notes_chain ws None m notes few r s o tt

-- ---- the plan

planned : (i : Contents) (x : Besides) → IsImage i → IsExtra x → CanBeWritten i x → IsPlanned (plan_of i x)
planned i x is extra small =
    let long = length_table extra.traces extra.each in
    let table : length x.table ≡ 16 + 52 * length extra.traces = ap (λ (t : List ℕ). length t) extra.table ∙ long in
    let names = names_longer x.symbols in
    record {
      at = refl;
      small = small;
      words = omega arith;
      few = omega (arith, is.few);
      aligned = is.placed.aligned;
      from = is.placed.from;
      below = is.placed.below;
      more = omega arith;
      within = omega (arith, is.placed.within);
      notes = omega arith;
      table = omega (arith, table);
      entries = omega (arith, table);
      null = omega arith;
      symbols = omega arith;
      names = omega (arith, names);
    }

-- ---- lengths

length_numbers : (values : List ℕ) → length (numbers w32 values) ≡ 4 * length values
length_numbers [] = refl
length_numbers (v ∷ values) = omega (arith, length_numbers values, length-append (to_le_bytes w32 v) (numbers w32 values))

length_notes : (notes : List Mark) → length (flat_map note_bytes notes) ≡ 8 * length notes
length_notes [] = refl
length_notes (n ∷ notes) = omega (arith, length_notes notes, length-append (note_bytes n) (flat_map note_bytes notes))

length_symbols : (name : ℕ) (symbols : List Sym) → length (symbols_bytes name symbols) ≡ 16 * length symbols
unfolding symbols_bytes
length_symbols name [] = refl
length_symbols name (s ∷ symbols) =
    let next = name + (length s.name + 1) in
    omega (arith, length_symbols next symbols, length-append (symbol_bytes name s) (symbols_bytes next symbols))

length_filled : (bytes : List ℕ) → length (filled bytes) ≡ length bytes + padding (length bytes)
length_filled bytes = length-append bytes (replicate (padding (length bytes)) 0)
    ∙ ap (λ n. length bytes + n) (length-replicate {A = ℕ} (padding (length bytes)) 0)

length_parts : (a f n t z s g c : List ℕ) → length (((a ++ f) ++ n) ++ ((t ++ z) ++ s) ++ (g ++ c))
    ≡ length a + length f + length n + length t + length z + length s + length g + length c
length_parts a f n t z s g c =
    omega (
      arith,
      length-append (((a ++ f) ++ n) ++ ((t ++ z) ++ s)) (g ++ c),
      length-append ((a ++ f) ++ n) ((t ++ z) ++ s),
      length-append (a ++ f) n,
      length-append a f,
      length-append (t ++ z) s,
      length-append t z,
      length-append g c,
    )

length_front : (p : Plan) → length (front_bytes p) ≡ 116
unfolding front_bytes
length_front p = refl

length_names : length section_names_bytes ≡ 72
unfolding section_names_bytes
length_names = refl

length_all : (i : Contents) (x : Besides) → length (front_bytes (plan_of i x) ++ parts_bytes i x) ≡ (plan_of i x).sections_at
length_all i x =
    let whole = length_parts (numbers w32 i.words) (filled i.init) (flat_map note_bytes i.notes) x.table (replicate 16 0)
    (symbols_bytes 1 x.symbols)
    (filled (names_bytes x.symbols)) section_names_bytes in
    omega (
      arith,
      length-append (front_bytes (plan_of i x)) (parts_bytes i x),
      length_front (plan_of i x),
      length_names,
      whole,
      length_numbers i.words,
      length_filled i.init,
      length_notes i.notes,
      length_symbols 1 x.symbols,
      length_filled (names_bytes x.symbols),
    )

-- ---- the parts

abbrev names_on : Besides → List ℕ → List ℕ
names_on x rest = names_bytes x.symbols ++ (replicate (padding (length (names_bytes x.symbols))) 0 ++ (section_names ++ (0 ∷ rest)))

abbrev symbols_on : Besides → List ℕ → List ℕ
symbols_on x rest =
    numbers w32 (0 ∷ 0 ∷ 0 ∷ []) ++ (numbers w8 (0 ∷ 0 ∷ []) ++ (numbers w16 (0 ∷ []) ++ (symbols_bytes 1 x.symbols ++ names_on x rest)))

abbrev notes_on : Contents → Besides → List ℕ → List ℕ
notes_on i x rest = flat_map note_bytes i.notes ++ (x.table ++ symbols_on x rest)

abbrev parts_on : Contents → Besides → List ℕ → List ℕ
parts_on i x rest = numbers w32 i.words ++ (i.init ++ (replicate (padding (length i.init)) 0 ++ notes_on i x rest))

regroup : (a b p n t z s m q c rest : List ℕ) → ((((a ++ (b ++ p)) ++ n) ++ ((t ++ z) ++ s)) ++ ((m ++ q) ++ c)) ++ rest
    ≡ a ++ (b ++ (p ++ (n ++ (t ++ (z ++ (s ++ (m ++ (q ++ (c ++ rest)))))))))
regroup a b p n t z s m q c rest = simp append_assoc

memory_again : (i : Contents) (x : Besides) (end : ℕ) (rest : List ℕ) → Chain IsWord None i.words
    → memory_in (plan_of i x) end (numbers w32 i.words ++ (i.init ++ (replicate (padding (length i.init)) 0 ++ rest)))
    ≡ Ok (record { words = i.words; init = i.init }, rest)
unfolding memory_in
memory_again i x end rest h =
    let n = length i.init in
    let r2 = replicate (padding n) 0 ++ rest in
    let r1 = i.init ++ r2 in
    let bytes = numbers w32 i.words ++ r1 in
    let count : 4 * length i.words / 4 ≡ length i.words = omega arith in
    let made : List ℕ → List ℕ → List ℕ → Result (Loaded × List ℕ) LoadFault =
    λ ws init behind. Ok (record { words = ws; init = init }, behind) in
    ap (λ k. many_in (word_in end) k None bytes >>= λ ws. bytes_in n end ws.1 >>= λ init. pad_in n end init.1 >>= λ behind. made ws.0
    init.0 behind) count
    ∙ then_ok (many_in (word_in end) (length i.words) None bytes) (i.words, r1) _ (words_again end i.words r1 h)
    ∙ then_ok (bytes_in n end r1) (i.init, r2) _ (bytes_again n end i.init r2 refl)
    ∙ then_ok (pad_in n end r2) rest _ (pad_again n end rest)

bytes_small : (xs : List ℕ) → list_all (λ v. nat_lt v 256) xs ≡ true → AllByRecursion (λ v. v < 256 ^ byte_len w8) xs
bytes_small [] h = tt
bytes_small (v ∷ xs) h =
    let both = and_parts (nat_lt v 256) (list_all (λ u. nat_lt u 256) xs) h in
    let lt : v < 256 = ltb-true v 256 both.0 in
    (omega (arith, lt), bytes_small xs both.1)

symbols_again : (i : Contents) (x : Besides) (end : ℕ) (rest : List ℕ) → IsExtra x → CanBeWritten i x
    → symbols_in (plan_of i x) end (symbols_on x rest) ≡ Ok (x.symbols, rest)
unfolding symbols_in
symbols_again i x end rest extra small =
    let size = length (names_bytes x.symbols) in
    let r3 = section_names ++ (0 ∷ rest) in
    let r2 = replicate (padding size) 0 ++ r3 in
    let r1 = names_bytes x.symbols ++ r2 in
    let bytes = symbols_on x rest in
    let count : (16 + 16 * length x.symbols) / 16 - 1 ≡ length x.symbols = omega arith in
    let fits : size < 2 ^ 32 = omega (arith, small) in
    ap (λ k. entries_in size k end bytes >>= λ entries. names_in size entries.0 end entries.1 >>= λ symbols. pad_in size end symbols.1
    >>= λ behind. fixed_in causes.Section w8 section_names end behind >>= λ b. fixed_in causes.Pad w8 (0 ∷ []) end b >>= λ d. Ok
    (symbols.0, d)) count
    ∙ then_ok (entries_in size (length x.symbols) end bytes) (entries_of 1 x.symbols, r1) _
    (entries_again size end x.symbols r1 fits refl extra.symbols)
    ∙ then_ok (names_in size (entries_of 1 x.symbols) end r1) (x.symbols, r2) _ (names_again size end x.symbols r2 refl extra.symbols)
    ∙ then_ok (pad_in size end r2) r3 _ (pad_again size end r3)
    ∙ then_ok (fixed_in causes.Section w8 section_names end r3) (0 ∷ rest) _
    (fixed_again causes.Section w8 wide8 section_names end (0 ∷ rest) (bytes_small section_names refl))
    ∙ then_ok (fixed_in causes.Pad w8 (0 ∷ []) end (0 ∷ rest)) rest _ (fixed_again causes.Pad w8 wide8 (0 ∷ []) end rest (omega arith, tt))

abbrev holds : Contents → Besides → Held
holds i x = record { image = i; symbols = x.symbols; table = x.table }

parts_again : (i : Contents) (x : Besides) (end : ℕ) (rest : List ℕ) → IsImage i → IsExtra x → CanBeWritten i x → IsRanged i
    → parts_in (plan_of i x) end (parts_on i x rest) ≡ Ok (holds i x)
unfolding parts_in
parts_again i x end rest is extra small ranged =
    let p = plan_of i x in
    let r3 = symbols_on x rest in
    let r2 = x.table ++ r3 in
    let r1 = flat_map note_bytes i.notes ++ r2 in
    let count : 8 * length i.notes / 8 ≡ length i.notes = omega arith in
    let zero-is : length i.init + i.zero - length i.init ≡ i.zero = omega arith in
    let size = length x.table in
    let fits : size < 2 ^ 31 = omega (arith, small) in
    let made : ℕ → List Mark → List ℕ → List Sym → Held = λ zeros notes t symbols. record {
      image = record { words = i.words; data_at = i.data_at; init = i.init; zero = zeros; notes = notes };
      symbols = symbols;
      table = t;
    } in
    then_ok (memory_in p end (parts_on i x rest)) (record { words = i.words; init = i.init }, r1) _
    (memory_again i x end r1 (words_chain None i.words ranged.words is.decode))
    ∙ ap (λ k. many_in (note_in i.words end) k None r1 >>= λ notes. resources_in size end notes.1 >>= λ t. symbols_in p end t.1
    >>= λ symbols. Ok (made (length i.init + i.zero - length i.init) notes.0 t.0 symbols.0)) count
    ∙ then_ok (many_in (note_in i.words end) (length i.notes) None r1) (i.notes, r2) _
    (notes_again i.words end i.notes r2 (all_notes_chain i.words i.notes is.few ranged.notes is.stand is.ordered))
    ∙ then_ok (resources_in size end r2) (x.table, r3) _
    (subst (λ (t : List ℕ). resources_in size end (t ++ r3) ≡ Ok (t, r3)) (sym extra.table)
    (resources_again extra.traces size end r3 extra.each (ap (λ (t : List ℕ). length t) (sym extra.table)) fits))
    ∙ then_ok (symbols_in p end r3) (x.symbols, rest) _ (symbols_again i x end rest extra small)
    ∙ ap (λ z. Ok (made z i.notes x.table x.symbols)) zero-is

-- ---- the whole

pub executable_again : (i : Contents) (x : Besides) → IsImage i → IsExtra x → CanBeWritten i x → IsRanged i
    → executable_in (executable i x) ≡ Ok (holds i x)
unfolding executable_in front_bytes sections_bytes section_names_bytes
executable_again i x is extra small ranged =
    let p = plan_of i x in
    let bytes = executable i x in
    let end = length bytes in
    let h = planned i x is extra small in
    let r2 = parts_bytes i x ++ sections_bytes p in
    let r1 = segments_bytes p ++ r2 in
    let lt : p.sections_at < 2 ^ 32 = omega (arith, small) in
    let dropped : drop p.sections_at bytes ≡ sections_bytes p =
    drop_at (front_bytes p ++ parts_bytes i x) (sections_bytes p) p.sections_at (length_all i x) in
    let ends : Plan × List ℕ → Held → Result Held LoadFault =
    λ plan held. cond (length plan.1 == 0) (Ok held) (Err (wrong causes.Trailing end plan.1)) in
    then_ok (header_in end bytes) (p.sections_at, r1) _ (header_again p end r1 lt (sections_allowed p h))
    ∙ then_ok (segments_in p.sections_at end r1) (loads_of p, r2) _ (segments_again p end r2 h)
    ∙ ap (λ d. sections_in (begun p.sections_at (loads_of p)) end d >>= λ plan. parts_in plan.0 end r2 >>= λ held. ends plan held) dropped
    ∙ then_ok (sections_in (begun p.sections_at (loads_of p)) end (sections_bytes p)) (p, []) _ (headers_again p end h)
    ∙ ap (λ b. parts_in p end b >>= λ held. Ok held)
    (regroup (numbers w32 i.words) i.init (replicate (padding (length i.init)) 0) (flat_map note_bytes i.notes) x.table (replicate 16 0)
    (symbols_bytes 1 x.symbols) (names_bytes x.symbols) (replicate (padding (length (names_bytes x.symbols))) 0) (filled section_names)
    (sections_bytes p))
    ∙ then_ok (parts_in p end (parts_on i x (sections_bytes p))) (holds i x) _
    (parts_again i x end (sections_bytes p) is extra small ranged)

pub image_again : (i : Contents) (x : Besides) (bytes : List ℕ) → bytes ≡ executable i x → IsImage i → IsExtra x → CanBeWritten i x
    → IsRanged i
    → image_in bytes ≡ Ok i
image_again i x bytes e is extra small ranged =
    ap image_in e ∙ then_ok (executable_in (executable i x)) (holds i x) (λ held. Ok held.image)
    (executable_again i x is extra small ranged)

length_sections : (p : Plan) → length (sections_bytes p) ≡ 360
unfolding sections_bytes sections
length_sections p = refl

pub written_small : (i : Contents) (x : Besides) (bytes : List ℕ) → bytes ≡ executable i x → CanBeWritten i x → length bytes < 2 ^ 31
written_small i x bytes e small =
    let p = plan_of i x in
    let whole : length bytes ≡ length (front_bytes p ++ parts_bytes i x ++ sections_bytes p) = ap (λ (b : List ℕ). length b) e in
    omega (arith, whole, length_all i x, length_sections p, length-append (front_bytes p ++ parts_bytes i x) (sections_bytes p), small)
