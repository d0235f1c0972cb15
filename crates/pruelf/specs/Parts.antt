-- Reading the parts of a file: its words, notes, resource table, symbols and their names.
use Rattle.std.specs.Prelude.{◌≡◌, ℕ, zero, suc, ◌+◌, ◌-◌, ◌*◌, ◌/◌, ◌==◌, ◌&&◌, ◌||◌, not, nat_lt, nat_le, is_some, if◌then◌else◌}
use Rattle.std.specs.Prelude.{Bool, true, false, List, [], ◌∷◌, length, take, drop, slice_get, position, Option, Some, None}
use Rattle.std.specs.Prelude.{option_and_then, Result, Ok, Err}
use Rattle.std.specs.List.{list_any}
use Rattle.std.specs.Int.{w8, w16, w32}
use Rattle.elfrec.specs.declared.symbol.Symbol.{Symbol as Entry}
use Rattle.isa.specs.declared.inst.Inst.{Inst}
use Rattle.isa.specs.declared.note.Note.{Note as Mark}
use Rattle.isa.specs.declared.note.NoteKind.{NoteKind}
use Rattle.isa.specs.declared.note.NoteKind.TheVariants.{Enter, DelayIn, DelayOut, Leave, Own, Return, Turns}
use Rattle.isa.specs.Decoded.{decoded}
use Rattle.isa.specs.Note.{kind_number, kind_at, may_stand, value_fits}
use Rattle.restable.specs.declared.trace.Trace.{Trace}
use Rattle.restable.specs.Reading.{table_in}
use Rattle.pruelf.specs.declared.fault.LoadCause.TheVariants.{Word, Note, Table, Symbol}
use Rattle.pruelf.specs.declared.fault.LoadFault.{LoadFault}
use Rattle.pruelf.specs.declared.fault.LoadFault.TheVariants.{At}
use Rattle.pruelf.specs.declared.symbol.Sym.{Sym}
use Rattle.pruelf.specs.declared.symbol.SymbolPart.{SymbolPart}
use Rattle.pruelf.specs.declared.symbol.SymbolPart.TheVariants.{Used, Code, Data, Zero}
use Rattle.pruelf.specs.Fields.{◌>>=◌, place, wrong, bytes_in, number_in, judged_in, fixed_in, many_in}

-- ---- words

-- an instruction's
abbrev pub is_word : ℕ → Bool
is_word word = is_some (decoded word)

abbrev pub word_in : ℕ → ℕ → Option ℕ → List ℕ → Result (ℕ × List ℕ) LoadFault
word_in end left before bytes = judged_in Word w32 is_word end bytes

-- ---- notes

abbrev pub kinds : List NoteKind
kinds = Enter ∷ DelayIn ∷ DelayOut ∷ Leave ∷ Own ∷ Return ∷ Turns ∷ []

abbrev pub instruction : List ℕ → ℕ → Option Inst
instruction words word = option_and_then decoded (slice_get words word)

abbrev pub bears : NoteKind → ℕ → Option Inst → Bool
bears kind word None = false
bears kind word (Some i) = may_stand kind word i

-- the number of the kind of the note before, where that stands on this word too
abbrev pub kind_before : Option Mark → ℕ → ℕ
kind_before None word = 0
kind_before (Some m) word = if m.word == word then kind_number m.kind else 0

abbrev pub word_before : Option Mark → ℕ
word_before None = 0
word_before (Some m) = m.word

-- a note of this kind on this word, behind the note before
abbrev pub may_follow : List ℕ → Option Mark → ℕ → NoteKind → Bool
may_follow words before word kind = nat_lt (kind_before before word) (kind_number kind) && bears kind word (instruction words word)

-- A note's word isn't below that of the note before, and a note of some kind may follow on it.
abbrev pub may_be_word : List ℕ → Option Mark → ℕ → Bool
may_be_word words before word = nat_le (word_before before) word && list_any (may_follow words before word) kinds

-- the value, where there is one that passes
abbrev pub chosen : {A : Type 0} → (A → Bool) → Option A → LoadFault → Result A LoadFault
chosen may None fault = Err fault
chosen may (Some x) fault = if may x then Ok x else Err fault

unfoldable pub kind_in : List ℕ → Option Mark → ℕ → ℕ → List ℕ → Result (NoteKind × List ℕ) LoadFault
kind_in words before word end bytes = do
  number ← number_in w8 end bytes
  kind ← chosen (may_follow words before word) (kind_at number.0) (wrong Note end bytes)
  Ok (kind, number.1)

-- a word, a kind, 0 and a value
unfoldable pub note_in : List ℕ → ℕ → ℕ → Option Mark → List ℕ → Result (Mark × List ℕ) LoadFault
note_in words end left before bytes = do
  word ← judged_in Note w16 (may_be_word words before) end bytes
  kind ← kind_in words before word.0 end word.1
  rest ← fixed_in Note w8 (0 ∷ []) end kind.1
  value ← judged_in Note w32 (value_fits kind.0) end rest
  Ok (record { word = word.0; kind = kind.0; value = value.0 }, value.1)

-- ---- the resource table

-- what is read of a table with which the bytes begin
abbrev pub located : ℕ → List ℕ → Result (List Trace) ℕ → Result (List Trace) LoadFault
located end bytes (Ok traces) = Ok traces
located end bytes (Err offset) = Err (wrong Table end (drop offset bytes))

-- The table has as many entries as its length leaves room for.
unfoldable pub resources_in : ℕ → ℕ → List ℕ → Result (List ℕ × List ℕ) LoadFault
resources_in size end bytes = do
  rest ← fixed_in Table w32 (1 ∷ ((size - 16) / 52) ∷ []) end bytes
  table ← bytes_in size end bytes
  traces ← located end bytes (table_in table.0)
  Ok table

-- ---- symbols

-- Names follow one another, each with a byte of 0, and the first begins at 1. Those to come, this one among them, have theirs still ahead.
abbrev pub may_be_name : ℕ → ℕ → Option Entry → ℕ → Bool
may_be_name size left None name = name == 1
may_be_name size left (Some e) name = nat_lt e.name name && nat_le (name + left) size

-- a function's or an object's
abbrev pub may_be_info : ℕ → Bool
may_be_info info = info == 0x12 || info == 0x11

-- the code, the data or the zero part
abbrev pub may_be_section : ℕ → Bool
may_be_section section = nat_le 1 section && nat_le section 3

unfoldable pub entry_in : ℕ → ℕ → ℕ → Option Entry → List ℕ → Result (Entry × List ℕ) LoadFault
entry_in names end left before bytes = do
  name ← judged_in Symbol w32 (may_be_name names left before) end bytes
  value ← number_in w32 end name.1
  size ← number_in w32 end value.1
  info ← judged_in Symbol w8 may_be_info end size.1
  rest ← fixed_in Symbol w8 (0 ∷ []) end info.1
  section ← judged_in Symbol w16 may_be_section end rest
  Ok (record { name = name.0; value = value.0; size = size.0; info = info.0; other = 0; section = section.0 }, section.1)

-- the null symbol
unfoldable pub null_in : ℕ → List ℕ → Result (List ℕ) LoadFault
null_in end bytes = do
  rest ← fixed_in Symbol w32 (0 ∷ 0 ∷ 0 ∷ []) end bytes
  rest ← fixed_in Symbol w8 (0 ∷ 0 ∷ []) end rest
  fixed_in Symbol w16 (0 ∷ []) end rest

-- the null symbol, and then the others
unfoldable pub entries_in : ℕ → ℕ → ℕ → List ℕ → Result (List Entry × List ℕ) LoadFault
entries_in names count end bytes = do
  rest ← null_in end bytes
  many_in (entry_in names end) count None rest

-- ---- their names

abbrev pub unless : {A : Type 0} → Option ℕ → (ℕ → LoadFault) → Result A LoadFault → Result A LoadFault
unless None fault read = read
unless (Some i) fault read = Err (fault i)

-- so many bytes, none of them 0, and a byte of 0
unfoldable pub name_in : ℕ → ℕ → List ℕ → Result (List ℕ × List ℕ) LoadFault
name_in count end bytes = do
  text ← bytes_in count end bytes
  rest ← unless (position (λ b. b == 0) text.0) (λ i. wrong Symbol end (drop i bytes)) (fixed_in Symbol w8 (0 ∷ []) end text.1)
  Ok (text.0, rest)

abbrev pub part_at : ℕ → SymbolPart
part_at section = if section == 1 then Code else if section == 2 then Data else if section == 3 then Zero else Used

abbrev pub named : List ℕ → Entry → Sym
named name e = record { name = name; part = part_at e.section; value = e.value; size = e.size; function = e.info == 0x12 }

-- where the name ends before these symbols'
abbrev pub end_before : ℕ → List Entry → ℕ
end_before size [] = size
end_before size (e ∷ entries) = e.name

unfoldable pub named_in : ℕ → List Entry → ℕ → List ℕ → Result (List Sym × List ℕ) LoadFault
named_in size [] end bytes = Ok ([], bytes)
named_in size (e ∷ entries) end bytes = do
  name ← name_in (end_before size entries - e.name - 1) end bytes
  others ← named_in size entries end name.1
  Ok (named name.0 e ∷ others.0, others.1)

-- A byte of 0, and the names. Where there are none, nothing more stands there.
unfoldable pub names_in : ℕ → List Entry → ℕ → List ℕ → Result (List Sym × List ℕ) LoadFault
names_in size entries end bytes = do
  rest ← fixed_in Symbol w8 (0 ∷ []) end bytes
  if length entries == 0 && nat_lt 1 size then Err (wrong Symbol end rest) else named_in size entries end rest
