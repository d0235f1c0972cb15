-- Notes on words, this project's own: which values they have and where each may stand.
use Rattle.std.specs.Prelude.{ℕ, ◌^◌, ◌<◌, ◌==◌, ◌&&◌, ◌||◌, Bool, true, false, IsTrue, nat_lt, nat_le, Option, IsSomeAnd}
use Rattle.std.specs.Prelude.{find, List, [], ◌∷◌, length, slice_index, pos, ◌+ℤ◌, unsigned_abs}
use Rattle.std.specs.Int.{int_rem_euclid}
use Rattle.isa.specs.declared.control.BranchOffset.{BranchOffset}
use Rattle.isa.specs.declared.control.Jump.TheVariants as jump
use Rattle.isa.specs.declared.inst.Inst.{Inst}
use Rattle.isa.specs.declared.inst.Inst.TheVariants.{Jmp, Branch, Qba, Load, Store}
use Rattle.isa.specs.declared.note.Note.{Note}
use Rattle.isa.specs.declared.note.NoteKind.{NoteKind}
use Rattle.isa.specs.declared.note.NoteKind.TheVariants.{Enter, DelayIn, DelayOut, Leave, Own, Return, Turns}
use Rattle.isa.specs.Decoded.{decoded}

abbrev pub kind_number : NoteKind → ℕ
kind_number Enter = 1
kind_number DelayIn = 2
kind_number DelayOut = 3
kind_number Leave = 4
kind_number Own = 5
kind_number Return = 6
kind_number Turns = 7

abbrev pub kind_at : ℕ → Option NoteKind
kind_at n = find (λ k. n == kind_number k) (Enter ∷ DelayIn ∷ DelayOut ∷ Leave ∷ Own ∷ Return ∷ Turns ∷ [])

abbrev pub is_delay : ℕ → Bool
is_delay n = nat_le 1 n && nat_le n 1000000

-- A region's number is below 64, a delay is 1 to 1,000,000 cycles, and a loop is run at least once.
abbrev pub value_fits : NoteKind → ℕ → Bool
value_fits Enter n = nat_lt n 64
value_fits DelayIn n = is_delay n
value_fits DelayOut n = is_delay n
value_fits Leave n = nat_lt n 64
value_fits Own n = n == 0
value_fits Return n = n == 0
value_fits Turns n = nat_le 1 n

-- the word that a branch goes to: words are counted modulo 65,536
abbrev pub branch_target : ℕ → BranchOffset → ℕ
branch_target at offset = unsigned_abs (int_rem_euclid (pos at +ℤ offset.words) (pos (2 ^ 16)))

-- a branch, or a JMP to a number, whose target isn't behind it
abbrev pub goes_back : ℕ → Inst → Bool
goes_back at (Branch condition offset a b) = nat_le (branch_target at offset) at
goes_back at (Qba offset) = nat_le (branch_target at offset) at
goes_back at (Jmp (jump.Word n)) = nat_le n at
goes_back at _ = false

abbrev pub is_access : Inst → Bool
is_access (Load access) = true
is_access (Store access) = true
is_access _ = false

abbrev pub is_jump_to_field : Inst → Bool
is_jump_to_field (Jmp (jump.Field f)) = true
is_jump_to_field _ = false

-- whether a note may stand on an instruction that is the word `at`
abbrev pub may_stand : NoteKind → ℕ → Inst → Bool
may_stand Enter at i = true
may_stand DelayIn at i = true
may_stand DelayOut at i = true
may_stand Leave at i = true
may_stand Own at i = is_access i
may_stand Return at i = is_jump_to_field i
may_stand Turns at i = goes_back at i

-- the note is on one of the words, and may stand there with its value
pub record Stands (words : List ℕ) (n : Note) : Type 0 where
  pub word : n.word < length words
  pub value : IsTrue (value_fits n.kind n.value)
  pub place : IsSomeAnd (decoded (slice_index words n.word)) (λ i. IsTrue (may_stand n.kind n.word i))

-- by word, then by kind
abbrev pub is_before : Note → Note → Bool
is_before m n = nat_lt m.word n.word || ((m.word == n.word) && nat_lt (kind_number m.kind) (kind_number n.kind))

-- each note stands before the next, so no word has two of one kind
abbrev pub AreOrdered : List Note → Type 0
AreOrdered [] = Unit {0}
AreOrdered (m ∷ []) = Unit {0}
AreOrdered (m ∷ n ∷ notes) = IsTrue (is_before m n) × AreOrdered (n ∷ notes)
