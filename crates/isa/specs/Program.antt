-- What it is for an assembly program to be whole, this project's own.
use Rattle.std.specs.Prelude.{◌≡◌, ℕ, ◌==◌, ◌&&◌, Bool, true, false, not, IsTrue, nat_eq, ℤ, List}
use Rattle.std.specs.Prelude.{[], ◌∷◌, ◌++◌, All, Contains, pos, negsuc}
use Rattle.std.specs.List.{list_any, IsDistinct}
use Rattle.isa.specs.declared.control.BranchOffset.{BranchOffset}
use Rattle.isa.specs.declared.control.Jump.TheVariants as jump
use Rattle.isa.specs.declared.inst.Inst.{Inst}
use Rattle.isa.specs.declared.inst.Inst.TheVariants.{Jmp, Jal, Ldi, Loop, Branch, Qba}
use Rattle.isa.specs.declared.note.NoteKind.{NoteKind}
use Rattle.isa.specs.declared.note.NoteKind.TheVariants.{Enter, DelayIn, DelayOut, Leave, Own, Return, Turns}
use Rattle.isa.specs.declared.program.Item.{Item}
use Rattle.isa.specs.declared.program.Item.TheVariants as item
use Rattle.isa.specs.declared.program.Relocation.{Relocation}
use Rattle.isa.specs.declared.program.Relocation.TheVariants.{Address, Low, High, Word}
use Rattle.isa.specs.declared.program.Target.{Target}
use Rattle.isa.specs.declared.program.Target.TheVariants as target
use Rattle.isa.specs.Note.{value_fits, is_access, is_jump_to_field}

-- ---- items

-- the labels, in order
abbrev pub labels : List Item → List ℕ
labels [] = []
labels (item.Label l ∷ items) = l ∷ labels items
labels (_ ∷ items) = labels items

-- the labels that instructions go to
abbrev pub used : List Item → List ℕ
used [] = []
used (item.Aimed i (target.Label l) ∷ items) = l ∷ used items
used (_ ∷ items) = used items

-- a jump to a number
abbrev pub is_numbered_jump : Inst → Bool
is_numbered_jump (Jmp (jump.Word n)) = true
is_numbered_jump (Jal d (jump.Word n)) = true
is_numbered_jump _ = false

-- an instruction that goes to a word
abbrev pub has_target : Inst → Bool
has_target (Loop body) = true
has_target (Branch condition offset a b) = true
has_target (Qba offset) = true
has_target i = is_numbered_jump i

-- an instruction that takes a symbol's place so
abbrev pub takes_symbol : Relocation → Inst → Bool
takes_symbol Address i = false
takes_symbol Low (Ldi d n) = true
takes_symbol Low _ = false
takes_symbol High (Ldi d n) = true
takes_symbol High _ = false
takes_symbol Word i = is_numbered_jump i

abbrev pub is_least_number : ℤ → Bool
is_least_number (pos n) = false
is_least_number (negsuc n) = n == 511

abbrev pub is_least_offset : BranchOffset → Bool
is_least_offset o = is_least_number o.words

-- the number in place of the target is the least that the type has
abbrev pub is_least : Inst → Bool
is_least (Loop body) = body.length == 1
is_least (Branch condition offset a b) = is_least_offset offset
is_least (Qba offset) = is_least_offset offset
is_least (Jmp (jump.Word n)) = n == 0
is_least (Jal d (jump.Word n)) = n == 0
is_least (Ldi d n) = n == 0
is_least _ = true

-- An instruction has a target exactly where the item gives one, and then one of its own kind.
abbrev pub is_formed : Item → Bool
is_formed (item.Label l) = true
is_formed (item.Note k v) = true
is_formed (item.Source n) = true
is_formed (item.Whole i) = not (has_target i)
is_formed (item.Aimed i (target.Label l)) = has_target i && is_least i
is_formed (item.Aimed i (target.Symbol s k)) = takes_symbol k i && is_least i

-- ---- loops and notes

-- behind each LOOP stands the label of its end
abbrev pub LoopsEndBehind : List Item → Type 0
LoopsEndBehind [] = Unit {0}
LoopsEndBehind (item.Aimed (Loop body) (target.Label l) ∷ items) = Contains (labels items) l × LoopsEndBehind items
LoopsEndBehind (_ ∷ items) = LoopsEndBehind items

-- a branch, or a JMP to a number
abbrev pub is_branch : Inst → Bool
is_branch (Branch condition offset a b) = true
is_branch (Qba offset) = true
is_branch (Jmp (jump.Word n)) = true
is_branch _ = false

-- Whether a note may stand on an instruction that has a target, `before` being the labels in front of it. Where a symbol's
-- target lies is judged when the program is linked.
abbrev pub may_aim : List ℕ → NoteKind → Inst → Target → Bool
may_aim before Enter i t = true
may_aim before DelayIn i t = true
may_aim before DelayOut i t = true
may_aim before Leave i t = true
may_aim before Own i t = false
may_aim before Return i t = false
may_aim before Turns i (target.Label l) = is_branch i && list_any (nat_eq l) before
may_aim before Turns i (target.Symbol s k) = is_branch i

-- whether a note may stand on an instruction without a target
abbrev pub may_rest : NoteKind → Inst → Bool
may_rest Enter i = true
may_rest DelayIn i = true
may_rest DelayOut i = true
may_rest Leave i = true
may_rest Own i = is_access i
may_rest Return i = is_jump_to_field i
may_rest Turns i = false

-- Each note has its word behind it and may stand there, and no word has two notes of one kind. `before` are the labels in
-- front of the items, and `kinds` the kinds of the notes whose word is still to come.
abbrev pub NotesStand : List ℕ → List NoteKind → List Item → Type 0
NotesStand before kinds [] = kinds ≡ []
NotesStand before kinds (item.Label l ∷ items) = NotesStand (l ∷ before) kinds items
NotesStand before kinds (item.Source n ∷ items) = NotesStand before kinds items
NotesStand before kinds (item.Note k v ∷ items) =
    IsTrue (value_fits k v) × ¬ Contains kinds k × NotesStand before (kinds ++ k ∷ []) items
NotesStand before kinds (item.Whole i ∷ items) = All (λ k. IsTrue (may_rest k i)) kinds × NotesStand before [] items
NotesStand before kinds (item.Aimed i t ∷ items) = All (λ k. IsTrue (may_aim before k i t)) kinds × NotesStand before [] items

-- ---- programs

pub record IsWhole (items : List Item) : Type 0 where
  pub formed : All (λ i. IsTrue (is_formed i)) items
  pub once : IsDistinct nat_eq (labels items)
  pub there : All (Contains (labels items)) (used items)
  pub loops : LoopsEndBehind items
  pub notes : NotesStand [] [] items
