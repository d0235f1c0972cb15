-- Tests that a program is judged by. What they mean is said in `Program`: this is no more than the way there.
use Rattle.std.specs.Prelude.{◌≡◌, ℕ, ◌==◌, ◌&&◌, nat_eq, Bool, true, false, not, List, [], ◌∷◌, ◌++◌}
use Rattle.std.specs.List.{list_all, list_any}
use Rattle.isa.specs.declared.inst.Inst.TheVariants.{Loop}
use Rattle.isa.specs.declared.note.NoteKind.{NoteKind}
use Rattle.isa.specs.declared.program.Item.{Item}
use Rattle.isa.specs.declared.program.Item.TheVariants as item
use Rattle.isa.specs.declared.program.Target.TheVariants as target
use Rattle.isa.specs.Note.{kind_number, value_fits}
use Rattle.isa.specs.Program.{labels, is_formed, may_aim, may_rest}

-- ---- labels

abbrev pub has : List ℕ → ℕ → Bool
has labels l = list_any (nat_eq l) labels

abbrev pub HaveSame : List ℕ → List ℕ → Type 0
HaveSame these those = (l : ℕ) → has these l ≡ has those l

-- whether an item may stand in front of items with these labels
abbrev pub may_precede : List ℕ → Item → Bool
may_precede behind (item.Label l) = not (has behind l)
may_precede behind (item.Aimed (Loop body) (target.Label l)) = has behind l
may_precede behind _ = true

abbrev pub with_label : Item → List ℕ → List ℕ
with_label (item.Label l) labels = l ∷ labels
with_label _ labels = labels

unfoldable pub are_placed : List Item → Bool
are_placed [] = true
are_placed (i ∷ items) = may_precede (labels items) i && are_placed items

-- whether the label that the item goes to is one of all
abbrev pub is_there : List ℕ → Item → Bool
is_there all (item.Aimed i (target.Label l)) = has all l
is_there all _ = true

-- ---- notes

abbrev pub has_kind : List NoteKind → NoteKind → Bool
has_kind kinds k = list_any (λ m. kind_number m == kind_number k) kinds

-- whether an item may stand behind these labels, and behind notes of these kinds that are on the next word
abbrev pub may_follow : List ℕ → List NoteKind → Item → Bool
may_follow before kinds (item.Note k v) = value_fits k v && not (has_kind kinds k)
may_follow before kinds (item.Whole i) = list_all (λ k. may_rest k i) kinds
may_follow before kinds (item.Aimed i t) = list_all (λ k. may_aim before k i t) kinds
may_follow before kinds _ = true

abbrev pub kinds_behind : List NoteKind → Item → List NoteKind
kinds_behind kinds (item.Note k v) = kinds ++ k ∷ []
kinds_behind kinds (item.Whole i) = []
kinds_behind kinds (item.Aimed i t) = []
kinds_behind kinds _ = kinds

abbrev pub is_empty : List NoteKind → Bool
is_empty [] = true
is_empty (k ∷ kinds) = false

unfoldable pub notes_stand : List ℕ → List NoteKind → List Item → Bool
notes_stand before kinds [] = is_empty kinds
notes_stand before kinds (i ∷ items) = may_follow before kinds i && notes_stand (with_label i before) (kinds_behind kinds i) items

-- ---- programs

abbrev pub is_judged_whole : List Item → Bool
is_judged_whole items =
    list_all is_formed items && are_placed items && list_all (is_there (labels items)) items && notes_stand [] [] items
