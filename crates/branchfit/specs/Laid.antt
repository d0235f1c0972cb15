-- The words of a program whose far branches are known.
use Rattle.std.specs.Prelude.{ℕ, zero, suc, ◌+◌, ◌-◌, ◌==◌, Bool, true, false, Option, Some, None, List, [], ◌∷◌, ◌++◌, map, filter}
use Rattle.std.specs.Prelude.{slice_get, slice_index_or}
use Rattle.isa.specs.declared.control.BranchOffset.{BranchOffset}
use Rattle.isa.specs.declared.control.Condition.{Condition}
use Rattle.isa.specs.declared.control.Condition.TheVariants.{Lt, Eq, Le, Gt, Ne, Ge, BitClear, BitSet}
use Rattle.isa.specs.declared.control.Jump.TheVariants as jump
use Rattle.isa.specs.declared.control.LoopBody.{LoopBody}
use Rattle.isa.specs.declared.inst.Inst.{Inst}
use Rattle.isa.specs.declared.inst.Inst.TheVariants as inst
use Rattle.isa.specs.declared.note.Note.{Note}
use Rattle.isa.specs.declared.note.NoteKind.{NoteKind}
use Rattle.isa.specs.declared.note.NoteKind.TheVariants.{Enter, DelayIn, DelayOut, Leave, Own, Return, Turns}
use Rattle.isa.specs.declared.program.Item.{Item}
use Rattle.isa.specs.declared.program.Item.TheVariants as item
use Rattle.isa.specs.declared.program.Line.{Line}
use Rattle.isa.specs.declared.program.Ref.{Ref}
use Rattle.isa.specs.declared.program.Target.{Target}
use Rattle.isa.specs.declared.program.Target.TheVariants as target
use Rattle.isa.specs.Decoded.{offset_at}
use Rattle.isa.specs.Fitted.{Fitted}
use Rattle.isa.specs.Note.{kind_number}
use Rattle.isa.specs.Row.{word_of}
use Rattle.branchfit.specs.declared.spot.Spot.{Spot}
use Rattle.branchfit.specs.Far.{number_in, width}
use Rattle.branchfit.specs.Ranges as Ranges
use Rattle.branchfit.specs.Ranges.{as_length}
use Rattle.branchfit.specs.Aims.{reach_of}

-- The instructions' places: where each goes, which are far, and the numbers of their first words.
pub record Layout : Type 0 where
  pub spots : List Spot
  pub far : List Bool
  pub numbers : List ℕ

abbrev pub number_at : Layout → ℕ → ℕ
number_at layout p = number_in layout.numbers p

abbrev pub is_far_at : Layout → ℕ → Bool
is_far_at layout p = slice_index_or layout.far p false

abbrev pub aim_in : Option Spot → Option ℕ
aim_in None = None
aim_in (Some s) = s.aim

abbrev pub number_aimed : List ℕ → Option ℕ → ℕ
number_aimed numbers None = 0
number_aimed numbers (Some q) = number_in numbers q

-- the number of the word that the instruction at a place goes to
abbrev pub there_at : Layout → ℕ → ℕ
there_at layout p = number_aimed layout.numbers (aim_in (slice_get layout.spots p))

-- ---- instructions

abbrev pub opposite : Condition → Condition
opposite Lt = Ge
opposite Ge = Lt
opposite Le = Gt
opposite Gt = Le
opposite Eq = Ne
opposite Ne = Eq
opposite BitClear = BitSet
opposite BitSet = BitClear

-- The offset from one word to another, where it is -512 to 511: its ten bits are those of the distance.
abbrev pub offset_to : ℕ → ℕ → BranchOffset
offset_to here there = offset_at (there + 1024 - here)

-- The body from behind a LOOP to another word, where it has 1 to 255 words.
abbrev pub body_to : LoopBody → ℕ → ℕ → LoopBody
body_to body here there = record {
  count = body.count;
  length = as_length (there - here - 1);
  once = body.once;
  at_most = body.at_most;
  some_word = Ranges.length_least (there - here - 1);
  short = Ranges.length_greatest (there - here - 1);
}

-- the words of an instruction whose first is the word `here`, and that goes to the word `there`
abbrev pub fitted : Bool → ℕ → ℕ → Inst → List Inst
fitted false here there (inst.Branch condition offset a b) = inst.Branch condition (offset_to here there) a b ∷ []
fitted true here there (inst.Branch condition offset a b) =
    inst.Branch (opposite condition) (offset_to 0 2) a b ∷ inst.Jmp (jump.Word there) ∷ []
fitted false here there (inst.Qba offset) = inst.Qba (offset_to here there) ∷ []
fitted true here there (inst.Qba offset) = inst.Jmp (jump.Word there) ∷ []
fitted far here there (inst.Jmp (jump.Word n)) = inst.Jmp (jump.Word there) ∷ []
fitted far here there (inst.Jal d (jump.Word n)) = inst.Jal d (jump.Word there) ∷ []
fitted far here there (inst.Loop body) = inst.Loop (body_to body here there) ∷ []
fitted far here there i = i ∷ []

-- A symbol's place is put in when the program is linked.
abbrev pub aimed : Layout → ℕ → Inst → Target → List Inst
aimed layout p i (target.Label l) = fitted (is_far_at layout p) (number_at layout p) (there_at layout p) i
aimed layout p i (target.Symbol s kind) = i ∷ []

-- the words that an item is
abbrev pub words_at : Layout → ℕ → Item → List ℕ
words_at layout p (item.Whole i) = word_of i ∷ []
words_at layout p (item.Aimed i t) = map word_of (aimed layout p i t)
words_at layout p _ = []

abbrev pub place_behind : ℕ → Item → ℕ
place_behind p (item.Whole i) = p + 1
place_behind p (item.Aimed i t) = p + 1
place_behind p _ = p

unfoldable pub words_from : Layout → ℕ → List Item → List ℕ
words_from layout p [] = []
words_from layout p (i ∷ items) = words_at layout p i ++ words_from layout (place_behind p i) items

-- ---- notes

-- Turns stands on the last word of its instruction, which goes back, every other note on the first.
abbrev pub word_noted : ℕ → ℕ → NoteKind → ℕ
word_noted here wide Enter = here
word_noted here wide DelayIn = here
word_noted here wide DelayOut = here
word_noted here wide Leave = here
word_noted here wide Own = here
word_noted here wide Return = here
word_noted here wide Turns = here + wide - 1

abbrev pub with_number : ℕ → ℕ → Note → Note
with_number here wide n = record { word = word_noted here wide n.kind; kind = n.kind; value = n.value }

abbrev pub of_kind : ℕ → List Note → List Note
of_kind k notes = filter (λ n. kind_number n.kind == k) notes

-- the notes of the first kinds, so many of them
unfoldable pub noted_to : ℕ → ℕ → ℕ → List Note → List Note
noted_to zero here wide notes = []
noted_to (suc kinds) here wide notes = noted_to kinds here wide notes ++ map (with_number here wide) (of_kind (suc kinds) notes)

-- the notes on an instruction of so many words, by kind
abbrev pub noted : ℕ → ℕ → List Note → List Note
noted here wide notes = noted_to 7 here wide notes

-- the notes whose word is still to come, behind an item
abbrev pub pending_behind : List Note → Item → List Note
pending_behind pending (item.Label l) = pending
pending_behind pending (item.Source n) = pending
pending_behind pending (item.Note kind value) = pending ++ record { word = 0; kind = kind; value = value } ∷ []
pending_behind pending (item.Whole i) = []
pending_behind pending (item.Aimed i t) = []

abbrev pub notes_at : Layout → ℕ → List Note → Item → List Note
notes_at layout p pending (item.Whole i) = noted (number_at layout p) 1 pending
notes_at layout p pending (item.Aimed i t) = noted (number_at layout p) (width (reach_of i) (is_far_at layout p)) pending
notes_at layout p pending _ = []

unfoldable pub notes_from : Layout → ℕ → List Note → List Item → List Note
notes_from layout p pending [] = []
notes_from layout p pending (i ∷ items) =
    notes_at layout p pending i ++ notes_from layout (place_behind p i) (pending_behind pending i) items

-- ---- symbols and lines

-- a symbol's place is put into the word
abbrev pub refs_aimed : ℕ → Target → List Ref
refs_aimed here (target.Label l) = []
refs_aimed here (target.Symbol s kind) = record { word = here; symbol = s; kind = kind } ∷ []

abbrev pub refs_at : Layout → ℕ → Item → List Ref
refs_at layout p (item.Aimed i t) = refs_aimed (number_at layout p) t
refs_at layout p _ = []

unfoldable pub refs_from : Layout → ℕ → List Item → List Ref
refs_from layout p [] = []
refs_from layout p (i ∷ items) = refs_at layout p i ++ refs_from layout (place_behind p i) items

-- a line of the source has the number of the next word
abbrev pub lines_at : Layout → ℕ → Item → List Line
lines_at layout p (item.Source n) = record { word = number_at layout p; line = n } ∷ []
lines_at layout p _ = []

unfoldable pub lines_from : Layout → ℕ → List Item → List Line
lines_from layout p [] = []
lines_from layout p (i ∷ items) = lines_at layout p i ++ lines_from layout (place_behind p i) items

-- ---- all of it

abbrev pub laid : Layout → List Item → Fitted
laid layout items = record {
  words = words_from layout 0 items;
  notes = notes_from layout 0 [] items;
  refs = refs_from layout 0 items;
  lines = lines_from layout 0 items;
}
