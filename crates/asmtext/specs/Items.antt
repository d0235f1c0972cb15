-- The program that lines are.
use Rattle.std.specs.Prelude.{ℕ, List, [], ◌∷◌, ◌++◌, Option, Some, None, option_map, option_to_list}
use Rattle.std.specs.List.{flat_map}
use Rattle.isa.specs.declared.program.Item.{Item}
use Rattle.isa.specs.declared.program.Item.TheVariants as item
use Rattle.isa.specs.declared.program.Target.TheVariants as target
use Rattle.asmword.specs.Instructions.{made}
use Rattle.asmline.specs.Said.{Saying, nothing, note, whole, aimed, Said}
use Rattle.branchfit.specs.Fits.{named}
use Rattle.asmtext.specs.Labels.{Lines, names_of, number_in}

-- labels have their numbers by these names
abbrev pub label_item : List (List ℕ) → Option (List ℕ) → Option Item
label_item names None = None
label_item names (Some name) = Some (item.Label (number_in names name))

abbrev pub saying_item : List (List ℕ) → Saying → Option Item
saying_item names nothing = None
saying_item names (note kind value) = Some (item.Note kind (named value))
saying_item names (whole form) = option_map (λ i. item.Whole i) (made form.mnemonic form.operands)
saying_item names (aimed form name) =
    option_map (λ i. item.Aimed i (target.Label (number_in names name))) (made form.mnemonic form.operands)

-- the items of a line: its label, and its note or word
abbrev pub line_items : List (List ℕ) → Option Said → List Item
line_items names None = []
line_items names (Some said) = option_to_list (label_item names said.label) ++ option_to_list (saying_item names said.saying)

abbrev pub items_of : Lines → List Item
items_of lines = flat_map (line_items (names_of lines)) lines
