-- What is written is read again: the symbols and their names.
use Rattle.std.proofs.Common.{◌≡◌, ℕ, suc, ◌+◌, ◌-◌, ◌%◌, ◌^◌, ◌<◌, ◌≤◌, ◌==◌, ◌&&◌, Bool, true, false}
use Rattle.std.proofs.Common.{cond, not, List, [], ◌∷◌, ◌++◌, length, Option, Some, None, Result, Ok, Err, refl, sym, ap, ◌∙◌}
use Rattle.std.proofs.Common.{append_assoc, arith, nat_lt}
use Rattle.std.specs.Prelude.{is_some, position, drop}
use Rattle.std.specs.Int.{w8, w16, w32, to_le_bytes}
use Rattle.std.specs.List.{AllByRecursion, flat_map}
use Rattle.std.proofs.lemmas.Bool.{and_from, eq-eqb, le-leb, lt-ltb, ne_eqb}
use Rattle.std.proofs.lemmas.List.{length-append}
use Rattle.elfrec.specs.declared.symbol.Symbol.{Symbol as Entry}
use Rattle.pruelf.specs.declared.fault.LoadCause.TheVariants as causes
use Rattle.pruelf.specs.declared.fault.LoadFault.{LoadFault}
use Rattle.pruelf.specs.declared.symbol.Sym.{Sym}
use Rattle.pruelf.specs.declared.symbol.SymbolPart.{SymbolPart}
use Rattle.pruelf.specs.declared.symbol.SymbolPart.TheVariants.{Used, Code, Data, Zero}
use Rattle.pruelf.specs.Fields.{◌>>=◌, bytes_in, fixed_in, judged_in, many_in, number_in, wrong}
use Rattle.pruelf.specs.Names.{can_name}
use Rattle.pruelf.specs.Parts.{end_before, entry_in, may_be_info, may_be_name, may_be_section, name_in, named, named_in, names_in}
use Rattle.pruelf.specs.Parts.{null_in, entries_in, part_at, unless}
use Rattle.elfwrite.specs.Written.{IsSymbol, info_of, is_defined, name_bytes, names_bytes, numbers, section_of, symbol_bytes, symbols_bytes}
use Rattle.elfwrite.proofs.Again.{bytes_again, fixed_again, judged_again, number_again, then_ok, wide8, wide16, wide32}
use Rattle.elfwrite.proofs.PartsAgain.{Chain, many_again}

-- ---- their entries

abbrev entry_of : ℕ → Sym → Entry
entry_of name s = record { name = name; value = s.value; size = s.size; info = info_of s.function; other = 0; section = section_of s.part }

unfoldable pub entries_of : ℕ → List Sym → List Entry
entries_of name [] = []
entries_of name (s ∷ symbols) = entry_of name s ∷ entries_of (name + (length s.name + 1)) symbols

abbrev entry_bytes : Entry → List ℕ
entry_bytes e = numbers w32 (e.name ∷ e.value ∷ e.size ∷ []) ++ (e.info ∷ 0 ∷ []) ++ numbers w16 (e.section ∷ [])

entries_written : (name : ℕ) (symbols : List Sym) → symbols_bytes name symbols ≡ flat_map entry_bytes (entries_of name symbols)
unfolding symbols_bytes entries_of
entries_written name [] = refl
entries_written name (s ∷ symbols) = ap (λ xs. symbol_bytes name s ++ xs) (entries_written (name + (length s.name + 1)) symbols)

pub record IsEntry (names left : ℕ) (before : Option Entry) (e : Entry) : Type 0 where
  name : e.name < 2 ^ 32
  value : e.value < 2 ^ 32
  size : e.size < 2 ^ 32
  other : e.other ≡ 0
  may_name : may_be_name names left before e.name ≡ true
  info : e.info < 256
  may_info : may_be_info e.info ≡ true
  section : e.section < 4
  may_section : may_be_section e.section ≡ true

byte_again : (n : ℕ) → n < 256 → to_le_bytes w8 n ≡ n ∷ []
byte_again n lt = ap (λ m. m ∷ []) (let e : n % 256 ≡ n = omega arith in e)

entry_again : (size end left : ℕ) (before : Option Entry) (e : Entry) (rest : List ℕ) → IsEntry size left before e
    → entry_in size end left before (entry_bytes e ++ rest) ≡ Ok (e, rest)
unfolding entry_in
entry_again size end left before e rest h =
    let r5 = to_le_bytes w16 e.section ++ rest in
    let r4 = numbers w8 (0 ∷ []) ++ r5 in
    let r3 = e.info ∷ r4 in
    let r2 = to_le_bytes w32 e.size ++ r3 in
    let r1 = to_le_bytes w32 e.value ++ r2 in
    let small : e.section < 256 ^ 2 = omega (arith, h.section) in
    then_ok (judged_in causes.Symbol w32 (may_be_name size left before) end (to_le_bytes w32 e.name ++ r1)) (e.name, r1) _
    (judged_again causes.Symbol w32 wide32 (may_be_name size left before) end e.name r1 h.name h.may_name)
    ∙ then_ok (number_in w32 end r1) (e.value, r2) _ (number_again w32 wide32 end e.value r2 h.value)
    ∙ then_ok (number_in w32 end r2) (e.size, r3) _ (number_again w32 wide32 end e.size r3 h.size)
    ∙ then_ok (judged_in causes.Symbol w8 may_be_info end r3) (e.info, r4) _
    (ap (λ b. judged_in causes.Symbol w8 may_be_info end (b ++ r4)) (sym (byte_again e.info h.info))
    ∙ judged_again causes.Symbol w8 wide8 may_be_info end e.info r4 h.info h.may_info)
    ∙ then_ok (fixed_in causes.Symbol w8 (0 ∷ []) end r4) r5 _ (fixed_again causes.Symbol w8 wide8 (0 ∷ []) end r5 (omega arith, tt))
    ∙ then_ok (judged_in causes.Symbol w16 may_be_section end r5) (e.section, rest) _
    (judged_again causes.Symbol w16 wide16 may_be_section end e.section rest small h.may_section)
    ∙ ap (λ (o : ℕ). Ok (record e { other = o }, rest)) (sym h.other)

-- ---- where their names begin

abbrev Begins : Option Entry → ℕ → Type 0
Begins None name = name ≡ 1
Begins (Some e) name = e.name < name

begins : (size left : ℕ) (before : Option Entry) (name : ℕ) → Begins before name → name + left ≤ size
    → may_be_name size left before name ≡ true
begins size left None name b le = eq-eqb name 1 b
begins size left (Some e) name b le = and_from _ _ (lt-ltb _ _ b) (le-leb _ _ le)

info_may : (f : Bool) → (info_of f < 256) × (may_be_info (info_of f) ≡ true)
info_may true = (omega arith, refl)
info_may false = (omega arith, refl)

section_may : (p : SymbolPart) → is_defined p ≡ true → (section_of p < 4) × (may_be_section (section_of p) ≡ true)
section_may Used d = absurd cc
section_may Code d = (omega arith, refl)
section_may Data d = (omega arith, refl)
section_may Zero d = (omega arith, refl)

many_entries : (name : ℕ) (symbols : List Sym) → length (entries_of name symbols) ≡ length symbols
unfolding entries_of
many_entries name [] = refl
many_entries name (s ∷ symbols) = ap suc (many_entries (name + (length s.name + 1)) symbols)

pub names_longer : (symbols : List Sym) → length symbols ≤ length (flat_map name_bytes symbols)
names_longer [] = omega arith
names_longer (s ∷ symbols) =
    omega (arith, names_longer symbols, length-append (name_bytes s) (flat_map name_bytes symbols), length-append s.name (0 ∷ []))

name_longer : (s : Sym) (symbols : List Sym) → length (flat_map name_bytes (s ∷ symbols))
    ≡ length s.name + 1 + length (flat_map name_bytes symbols)
name_longer s symbols = omega (arith, length-append (name_bytes s) (flat_map name_bytes symbols), length-append s.name (0 ∷ []))

entries_fit : (size : ℕ) (before : Option Entry) (name : ℕ) (symbols : List Sym) → size < 2 ^ 32 → Begins before name
    → name + length (flat_map name_bytes symbols) ≡ size → AllByRecursion IsSymbol symbols
    → Chain (IsEntry size) before (entries_of name symbols)
unfolding entries_of
entries_fit size before name [] small b e h = tt
entries_fit size before name (s ∷ symbols) small b e h =
    let next = name + (length s.name + 1) in
    let more = name_longer s symbols in
    let longer = names_longer symbols in
    let left = suc (length (entries_of next symbols)) in
    let room : name + left ≤ size = omega (arith, e, more, longer, many_entries next symbols) in
    let section = section_may s.part h.0.defined in
    let info = info_may s.function in
    let one : IsEntry size left before (entry_of name s) = record {
      name = omega (arith, e, more, small);
      value = h.0.value;
      size = h.0.size;
      other = refl;
      may_name = begins size left before name b room;
      info = info.0;
      may_info = info.1;
      section = section.0;
      may_section = section.1;
    } in
    let behind : next + length (flat_map name_bytes symbols) ≡ size = omega (arith, e, more) in
    (one, entries_fit size (Some (entry_of name s)) next symbols small (omega arith) behind h.1)

null_again : (end : ℕ) (rest : List ℕ) → null_in end (numbers w32 (0 ∷ 0 ∷ 0 ∷ [])
    ++ (numbers w8 (0 ∷ 0 ∷ []) ++ (numbers w16 (0 ∷ []) ++ rest))) ≡ Ok rest
unfolding null_in
null_again end rest =
    let r3 = numbers w16 (0 ∷ []) ++ rest in
    let r2 = numbers w8 (0 ∷ 0 ∷ []) ++ r3 in
    then_ok (fixed_in causes.Symbol w32 (0 ∷ 0 ∷ 0 ∷ []) end (numbers w32 (0 ∷ 0 ∷ 0 ∷ []) ++ r2)) r2 _
    (fixed_again causes.Symbol w32 wide32 (0 ∷ 0 ∷ 0 ∷ []) end r2 (omega arith, (omega arith, (omega arith, tt))))
    ∙ then_ok (fixed_in causes.Symbol w8 (0 ∷ 0 ∷ []) end r2) r3 _
    (fixed_again causes.Symbol w8 wide8 (0 ∷ 0 ∷ []) end r3 (omega arith, (omega arith, tt)))
    ∙ fixed_again causes.Symbol w16 wide16 (0 ∷ []) end rest (omega arith, tt)

pub entries_again : (size end : ℕ) (symbols : List Sym) (rest : List ℕ) → size < 2 ^ 32 → length (names_bytes symbols) ≡ size
    → AllByRecursion IsSymbol symbols
    → entries_in size (length symbols) end (numbers w32 (0 ∷ 0 ∷ 0 ∷ [])
    ++ (numbers w8 (0 ∷ 0 ∷ []) ++ (numbers w16 (0 ∷ []) ++ (symbols_bytes 1 symbols ++ rest))))
    ≡ Ok (entries_of 1 symbols, rest)
unfolding entries_in
entries_again size end symbols rest small e h =
    let all = entries_of 1 symbols in
    let bytes = symbols_bytes 1 symbols ++ rest in
    then_ok (null_in end (numbers w32 (0 ∷ 0 ∷ 0 ∷ []) ++ (numbers w8 (0 ∷ 0 ∷ []) ++ (numbers w16 (0 ∷ []) ++ bytes)))) bytes _
    (null_again end bytes)
    ∙ ap (λ n. many_in (entry_in size end) n None bytes) (sym (many_entries 1 symbols))
    ∙ ap (λ b. many_in (entry_in size end) (length all) None (b ++ rest)) (entries_written 1 symbols)
    ∙ many_again (entry_in size end) entry_bytes (IsEntry size) (entry_again size end) all None rest
    (entries_fit size None 1 symbols small refl (omega (arith, e)) h)

-- ---- their names

no_zero_by : (o : Option ℕ) → not (is_some o) ≡ true → o ≡ None
no_zero_by None h = refl
no_zero_by (Some i) h = absurd cc

name_again : (end : ℕ) (name rest : List ℕ) → can_name name ≡ true → name_in (length name) end (name ++ (0 ∷ rest)) ≡ Ok (name, rest)
unfolding name_in
name_again end name rest h =
    let r2 = numbers w8 (0 ∷ []) ++ rest in
    let fault = λ (i : ℕ). wrong causes.Symbol end (drop i (name ++ r2)) in
    then_ok (bytes_in (length name) end (name ++ r2)) (name, r2) _ (bytes_again (length name) end name r2 refl)
    ∙ ap (λ o. unless o fault (fixed_in causes.Symbol w8 (0 ∷ []) end r2) >>= λ behind. Ok (name, behind))
    (no_zero_by (position (λ b. b == 0) name) h)
    ∙ then_ok (fixed_in causes.Symbol w8 (0 ∷ []) end r2) rest (λ behind. Ok (name, behind))
    (fixed_again causes.Symbol w8 wide8 (0 ∷ []) end rest (omega arith, tt))

part_back : (p : SymbolPart) → part_at (section_of p) ≡ p
part_back Used = refl
part_back Code = refl
part_back Data = refl
part_back Zero = refl

function_back : (f : Bool) → (info_of f == 0x12) ≡ f
function_back true = refl
function_back false = refl

symbol_back : (name : ℕ) (s : Sym) → named s.name (entry_of name s) ≡ s
symbol_back name s =
    ap (λ (p : SymbolPart). record s { part = p; function = info_of s.function == 0x12 }) (part_back s.part)
    ∙ ap (λ (f : Bool). record s { function = f }) (function_back s.function)

ends_before : (size name : ℕ) (symbols : List Sym) → name + length (flat_map name_bytes symbols) ≡ size
    → end_before size (entries_of name symbols) ≡ name
unfolding entries_of
ends_before size name [] e = omega (arith, e)
ends_before size name (s ∷ symbols) e = refl

named_again : (size end name : ℕ) (symbols : List Sym) (rest : List ℕ) → name + length (flat_map name_bytes symbols) ≡ size
    → AllByRecursion IsSymbol symbols
    → named_in size (entries_of name symbols) end (flat_map name_bytes symbols ++ rest) ≡ Ok (symbols, rest)
unfolding named_in entries_of
named_again size end name [] rest e h = refl
named_again size end name (s ∷ symbols) rest e h =
    let next = name + (length s.name + 1) in
    let entries = entries_of next symbols in
    let first = entry_of name s in
    let behind = flat_map name_bytes symbols ++ rest in
    let left : next + length (flat_map name_bytes symbols) ≡ size = omega (arith, e, name_longer s symbols) in
    let count : end_before size entries - name - 1 ≡ length s.name = omega (arith, ends_before size next symbols left) in
    let bytes : flat_map name_bytes (s ∷ symbols) ++ rest ≡ s.name ++ (0 ∷ behind) =
    append_assoc (s.name ++ 0 ∷ []) (flat_map name_bytes symbols) rest ∙ append_assoc s.name (0 ∷ []) behind in
    ap (λ b. named_in size (first ∷ entries) end b) bytes
    ∙ ap (λ n. name_in n end (s.name ++ (0 ∷ behind)) >>= λ x. named_in size entries end x.1 >>= λ others. Ok
    (named x.0 first ∷ others.0, others.1)) count
    ∙ then_ok (name_in (length s.name) end (s.name ++ (0 ∷ behind))) (s.name, behind) _ (name_again end s.name behind h.0.name)
    ∙ then_ok (named_in size entries end behind) (symbols, rest) _ (named_again size end next symbols rest left h.1)
    ∙ ap (λ (x : Sym). Ok (x ∷ symbols, rest)) (symbol_back name s)

full : (size : ℕ) (symbols : List Sym) → length (names_bytes symbols) ≡ size → ((length (entries_of 1 symbols) == 0) && nat_lt 1 size)
    ≡ false
unfolding entries_of
full size [] e = ap (λ (n : ℕ). nat_lt 1 n) (sym e)
full size (s ∷ symbols) e = ap (λ (t : Bool). t && nat_lt 1 size) (ne_eqb (length (entries_of 1 (s ∷ symbols))) 0 (λ z. omega (arith, z)))

pub names_again : (size end : ℕ) (symbols : List Sym) (rest : List ℕ) → length (names_bytes symbols) ≡ size
    → AllByRecursion IsSymbol symbols
    → names_in size (entries_of 1 symbols) end (names_bytes symbols ++ rest) ≡ Ok (symbols, rest)
unfolding names_in
names_again size end symbols rest e h =
    let bytes = flat_map name_bytes symbols ++ rest in
    let all = entries_of 1 symbols in
    then_ok (fixed_in causes.Symbol w8 (0 ∷ []) end (numbers w8 (0 ∷ []) ++ bytes)) bytes _
    (fixed_again causes.Symbol w8 wide8 (0 ∷ []) end bytes (omega arith, tt))
    ∙ ap (λ (t : Bool). cond {A = Result (List Sym × List ℕ) LoadFault} t (Err (wrong causes.Symbol end bytes))
    (named_in size all end bytes))
    (full size symbols e)
    ∙ named_again size end 1 symbols rest (omega (arith, e)) h
