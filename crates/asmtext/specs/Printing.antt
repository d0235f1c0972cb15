-- The text that is printed of a program: a line for each label, note and instruction, in their order.
use Rattle.std.specs.Prelude.{ℕ, nat_eq, List, [], ◌∷◌, ◌++◌, fold, position, if◌then◌else◌}
use Rattle.std.specs.List.{flat_map, list_any}
use Rattle.textline.specs.Lines.{text_of}
use Rattle.isa.specs.declared.program.Item.{Item}
use Rattle.isa.specs.declared.program.Item.TheVariants as item
use Rattle.isa.specs.declared.program.Target.{Target}
use Rattle.isa.specs.declared.program.Target.TheVariants as target
use Rattle.asmline.specs.declared.print.PrintedLine.TheVariants.{Label, Note}
use Rattle.asmline.specs.Printing.{line_text, word_text}
use Rattle.branchfit.specs.Fits.{named}
use Rattle.asmtext.specs.Labels.{number_at}

-- the label that a target is
abbrev pub labels_aimed : Target → List ℕ
labels_aimed (target.Label l) = l ∷ []
labels_aimed (target.Symbol s kind) = []

abbrev pub labels_told : Item → List ℕ
labels_told (item.Label l) = l ∷ []
labels_told (item.Note kind value) = []
labels_told (item.Source n) = []
labels_told (item.Whole i) = []
labels_told (item.Aimed i t) = labels_aimed t

-- a label behind others, where it isn't among them
abbrev pub with_label : List ℕ → ℕ → List ℕ
with_label labels l = if list_any (nat_eq l) labels then labels else labels ++ l ∷ []

-- each label once, by first appearance
abbrev pub labels_of : List Item → List ℕ
labels_of items = fold with_label [] (flat_map labels_told items)

-- its number: 1 and on, and the greatest number of 32 bits in place of a larger one
abbrev pub label_number : List ℕ → ℕ → ℕ
label_number labels l = named (number_at (position (nat_eq l) labels))

abbrev pub number_aimed : List ℕ → Target → ℕ
number_aimed labels (target.Label l) = label_number labels l
number_aimed labels (target.Symbol s kind) = 0

abbrev pub item_lines : List ℕ → Item → List (List ℕ)
item_lines labels (item.Label l) = line_text (Label (label_number labels l)) ∷ []
item_lines labels (item.Note kind value) = line_text (Note kind value) ∷ []
item_lines labels (item.Source n) = []
item_lines labels (item.Whole i) = word_text 0 i ∷ []
item_lines labels (item.Aimed i t) = word_text (number_aimed labels t) i ∷ []

abbrev pub program_text : List Item → List ℕ
program_text items = text_of (flat_map (item_lines (labels_of items)) items)
