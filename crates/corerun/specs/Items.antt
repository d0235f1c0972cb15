-- The items of an assembly program as a code: its instructions are the places.
use Rattle.std.specs.Prelude.{ℕ, suc, ◌==◌, if◌then◌else◌, List, [], ◌∷◌, ◌++◌, slice_get, Option, Some, None, option_map, option_and_then}
use Rattle.isa.specs.declared.inst.Inst.{Inst}
use Rattle.isa.specs.declared.note.Note.{Note}
use Rattle.isa.specs.declared.program.Item.{Item}
use Rattle.isa.specs.declared.program.Item.TheVariants as item
use Rattle.isa.specs.declared.program.Target.{Target}
use Rattle.isa.specs.declared.program.Target.TheVariants as target
use Rattle.corerun.specs.Code.{Code}

-- an instruction with what it aims at and its notes
pub record Placed : Type 0 where
  pub inst : Inst
  pub aim : Option Target
  pub notes : List Note

-- the instructions in their order; `pending` are the notes whose instruction is still to come
abbrev pub placed : List Note → List Item → List Placed
placed pending [] = []
placed pending (item.Label l ∷ items) = placed pending items
placed pending (item.Source n ∷ items) = placed pending items
placed pending (item.Note kind value ∷ items) = placed (pending ++ record { word = 0; kind = kind; value = value } ∷ []) items
placed pending (item.Whole i ∷ items) = record { inst = i; aim = None; notes = pending } ∷ placed [] items
placed pending (item.Aimed i t ∷ items) = record { inst = i; aim = Some t; notes = pending } ∷ placed [] items

-- how many instructions stand before a label
abbrev pub place_of_label : ℕ → List Item → Option ℕ
place_of_label l [] = None
place_of_label l (item.Label m ∷ items) = if m == l then Some 0 else place_of_label l items
place_of_label l (item.Source n ∷ items) = place_of_label l items
place_of_label l (item.Note kind value ∷ items) = place_of_label l items
place_of_label l (item.Whole i ∷ items) = option_map suc (place_of_label l items)
place_of_label l (item.Aimed i t ∷ items) = option_map suc (place_of_label l items)

-- the place that an instruction aims at; a symbol's is settled when the program is linked
abbrev pub place_aimed : List Item → Target → Option ℕ
place_aimed items (target.Label l) = place_of_label l items
place_aimed items (target.Symbol symbol kind) = None

abbrev pub notes_of_placed : Option Placed → List Note
notes_of_placed None = []
notes_of_placed (Some p) = p.notes

-- the items under a numbering of their instructions, in which a place is found by its number
abbrev pub code_of_items : List Item → (ℕ → ℕ) → (ℕ → ℕ) → Code
code_of_items items number place = record {
  inst = λ p. option_map (λ x. x.inst) (slice_get (placed [] items) p);
  notes = λ p. notes_of_placed (slice_get (placed [] items) p);
  number = number;
  target = λ p. option_and_then (λ x. option_and_then (place_aimed items) x.aim) (slice_get (placed [] items) p);
  place = place;
}
