-- An image has few notes, so it makes a small file.
use Rattle.std.proofs.Common.{◌≡◌, ℕ, ◌+◌, ◌*◌, ◌^◌, ◌<◌, ◌≤◌, ◌==◌, ◌&&◌, ◌||◌, Bool, true, false, List, [], ◌∷◌, length}
use Rattle.std.proofs.Common.{refl, sym, subst, arith, nat_lt}
use Rattle.std.specs.Prelude.{All}
use Rattle.std.proofs.lemmas.Bool.{and_parts, ltb-true, eqb-true}
use Rattle.std.proofs.lemmas.List.Elements.{All-head, All-tail}
use Rattle.isa.specs.declared.note.Note.{Note as Mark}
use Rattle.isa.specs.declared.note.NoteKind.{NoteKind}
use Rattle.isa.specs.declared.note.NoteKind.TheVariants.{Enter, DelayIn, DelayOut, Leave, Own, Return, Turns}
use Rattle.isa.specs.Image.{Contents, IsImage}
use Rattle.isa.specs.Note.{AreOrdered, Stands, is_before, kind_number}
use Rattle.restable.specs.declared.trace.Trace.{Trace}
use Rattle.restable.specs.Tables.{IsTrace, table}
use Rattle.std.specs.List.{AllByRecursion}
use Rattle.pruelf.specs.declared.symbol.Sym.{Sym}
use Rattle.elfwrite.specs.Written.{CanAlwaysBeWritten, CanBeWritten, IsExtra, IsSymbol}

kind_most : (k : NoteKind) → kind_number k ≤ 7
kind_most Enter = omega arith
kind_most DelayIn = omega arith
kind_most DelayOut = omega arith
kind_most Leave = omega arith
kind_most Own = omega arith
kind_most Return = omega arith
kind_most Turns = omega arith

pub kind_least : (k : NoteKind) → 1 ≤ kind_number k
kind_least Enter = omega arith
kind_least DelayIn = omega arith
kind_least DelayOut = omega arith
kind_least Leave = omega arith
kind_least Own = omega arith
kind_least Return = omega arith
kind_least Turns = omega arith

-- there are eight numbers for a word's notes
abbrev rank : Mark → ℕ
rank m = 8 * m.word + kind_number m.kind

rises_by : (a b j k : ℕ) (t : Bool) → nat_lt a b ≡ t → (t || ((a == b) && nat_lt j k)) ≡ true → j ≤ 7 → 8 * a + j < 8 * b + k
rises_by a b j k true is h le = omega (arith, ltb-true a b is)
rises_by a b j k false is h le =
    let both = and_parts (a == b) (nat_lt j k) h in
    omega (arith, eqb-true a b both.0, ltb-true j k both.1)

rises : (m n : Mark) → is_before m n ≡ true → rank m < rank n
rises m n h = rises_by m.word n.word (kind_number m.kind) (kind_number n.kind) (nat_lt m.word n.word) refl h (kind_most m.kind)

few_behind : (words : List ℕ) (m : Mark) (notes : List Mark) → length words ≤ 2048 → All (Stands words) (m ∷ notes)
    → AreOrdered (m ∷ notes) → length notes + rank m < 2 ^ 14
few_behind words m [] few stand ordered =
    let stands = All-head (Stands words) m [] stand in
    let word : m.word < length words = stands.word in
    omega (arith, few, word, kind_most m.kind)
few_behind words m (n ∷ notes) few stand ordered =
    let more = few_behind words n notes few (All-tail (Stands words) m (n ∷ notes) stand) ordered.1 in
    omega (arith, more, rises m n ordered.0)

few_notes : (words : List ℕ) (notes : List Mark) → length words ≤ 2048 → All (Stands words) notes → AreOrdered notes → length notes ≤ 2 ^ 14
few_notes words [] few stand ordered = omega arith
few_notes words (m ∷ notes) few stand ordered = omega (arith, few_behind words m notes few stand ordered)

pub always_small : (i : Contents) → IsImage i → CanBeWritten i (record { symbols = []; table = table [] })
always_small i is =
    let notes = few_notes i.words i.notes is.few is.stand is.ordered in
    omega (arith, notes, is.few, is.placed.within)

-- ---- no symbols, and the table of no traces

pub empty_extra : (t : List ℕ) → t ≡ table [] → IsExtra (record { symbols = []; table = t })
empty_extra t e = record { symbols = tt; traces = []; each = tt; table = e }

pub empty_fits : (t : List ℕ) → t ≡ table [] → CanAlwaysBeWritten (record { symbols = []; table = t })
empty_fits t e = λ i is. subst (λ (u : List ℕ). CanBeWritten i (record { symbols = []; table = u })) (sym e) (always_small i is)

pub extra_of : (symbols : List Sym) (traces : List Trace) (t : List ℕ) → AllByRecursion IsSymbol symbols → AllByRecursion IsTrace traces
    → t ≡ table traces → IsExtra (record { symbols = symbols; table = t })
extra_of symbols traces t s h e = record { symbols = s; traces = traces; each = h; table = e }
