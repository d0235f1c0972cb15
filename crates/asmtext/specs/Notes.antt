-- On which words notes may stand. A note belongs to the next word.
use Rattle.std.specs.Prelude.{ℕ, ◌+◌, ◌==◌, ◌&&◌, nat_le, Bool, true, false, List, [], ◌∷◌, ◌++◌, fold, Option, Some, None}
use Rattle.std.specs.List.{list_any}
use Rattle.isa.specs.declared.note.NoteKind.{NoteKind}
use Rattle.isa.specs.declared.note.NoteKind.TheVariants.{Enter, DelayIn, DelayOut, Leave, Own, Return, Turns}
use Rattle.isa.specs.Note.{kind_number}
use Rattle.asmword.specs.declared.mnemonic.Mnemonic.{Mnemonic}
use Rattle.asmword.specs.declared.mnemonic.Mnemonic.TheVariants.{Jmp, Branch, Qba, Lbbo, Lbco, Sbbo, Sbco}
use Rattle.asmline.specs.Said.{Saying, nothing, note, whole, aimed, Said}
use Rattle.asmtext.specs.Labels.{Lines}

-- ---- the notes whose word is still to come

abbrev pub kinds_said : List NoteKind → Saying → List NoteKind
kinds_said kinds nothing = kinds
kinds_said kinds (note kind value) = kinds ++ kind ∷ []
kinds_said kinds (whole form) = []
kinds_said kinds (aimed form name) = []

abbrev pub kinds_after : List NoteKind → Option Said → List NoteKind
kinds_after kinds None = kinds
kinds_after kinds (Some said) = kinds_said kinds said.saying

-- the kinds of the notes whose word is still to come, behind these lines
abbrev pub kinds_behind : Lines → List NoteKind
kinds_behind lines = fold kinds_after [] lines

abbrev pub has_kind : NoteKind → List NoteKind → Bool
has_kind kind kinds = list_any (λ k. kind_number k == kind_number kind) kinds

-- ---- words

abbrev pub is_access : Mnemonic → Bool
is_access Lbbo = true
is_access Lbco = true
is_access Sbbo = true
is_access Sbco = true
is_access _ = false

abbrev pub is_jump : Mnemonic → Bool
is_jump Jmp = true
is_jump _ = false

abbrev pub is_branch : Mnemonic → Bool
is_branch (Branch condition) = true
is_branch Qba = true
is_branch Jmp = true
is_branch _ = false

-- whether a note may stand on a word that goes to no label
abbrev pub may_rest : NoteKind → Mnemonic → Bool
may_rest Enter m = true
may_rest DelayIn m = true
may_rest DelayOut m = true
may_rest Leave m = true
may_rest Own m = is_access m
may_rest Return m = is_jump m
may_rest Turns m = false

-- and on one that goes to a label: `back` tells that the label isn't behind the word
abbrev pub may_aim : NoteKind → Mnemonic → Bool → Bool
may_aim Enter m back = true
may_aim DelayIn m back = true
may_aim DelayOut m back = true
may_aim Leave m back = true
may_aim Own m back = false
may_aim Return m back = false
may_aim Turns m back = is_branch m && back

-- A label at this place, where there is one, isn't behind the line with this number. One that stands nowhere is its word's own fault.
abbrev pub is_back : ℕ → Option ℕ → Bool
is_back number None = true
is_back number (Some place) = nat_le place number

-- whether a note may stand on the word of a line, and None where it has no word
abbrev pub may_stand_on : (List ℕ → Option ℕ) → NoteKind → ℕ → Saying → Option Bool
may_stand_on places kind number nothing = None
may_stand_on places kind number (note k v) = None
may_stand_on places kind number (whole form) = Some (may_rest kind form.mnemonic)
may_stand_on places kind number (aimed form name) = Some (may_aim kind form.mnemonic (is_back number (places name)))

abbrev pub may_stand_at : (List ℕ → Option ℕ) → NoteKind → ℕ → Option Said → Option Bool
may_stand_at places kind number None = None
may_stand_at places kind number (Some said) = may_stand_on places kind number said.saying

abbrev pub else_ : Option Bool → Bool → Bool
else_ None b = b
else_ (Some a) b = a

-- Whether a note may stand on the next word of the lines, of which the first has this number. Where there is no word, it may not.
abbrev pub may_stand : (List ℕ → Option ℕ) → NoteKind → ℕ → Lines → Bool
may_stand places kind number [] = false
may_stand places kind number (line ∷ lines) =
    else_ (may_stand_at places kind number line) (may_stand places kind (number + 1) lines)
