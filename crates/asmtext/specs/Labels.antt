-- The lines of a text, and the labels on them. A line that has no form says nothing: it has no word and no label.
use Rattle.std.specs.Prelude.{ℕ, suc, ◌+◌, Bool, false, if◌then◌else◌, List, [], ◌∷◌, ◌++◌, map, fold}
use Rattle.std.specs.Prelude.{Option, Some, None, option_map, option_to_list, position}
use Rattle.std.specs.List.{flat_map, list_any}
use Rattle.std.specs.Str.{bytes_eq}
use Rattle.textline.specs.Lines.{lines_of}
use Rattle.asmline.specs.Lines.{said_in}
use Rattle.asmline.specs.Said.{Saying, nothing, note, whole, aimed, Said}

-- what each line says, and nothing of one that has no form
abbrev pub Lines : Type 0
Lines = List (Option Said)

abbrev pub lines_said : List ℕ → Lines
lines_said text = map said_in (lines_of text)

-- ---- places

abbrev pub is_named : List ℕ → Option (List ℕ) → Bool
is_named name None = false
is_named name (Some other) = bytes_eq other name

-- the label stands on the line
abbrev pub stands_on : List ℕ → Option Said → Bool
stands_on name None = false
stands_on name (Some said) = is_named name said.label

-- the first line, from 0, on which a label stands
abbrev pub first_place : Lines → List ℕ → Option ℕ
first_place [] name = None
first_place (line ∷ lines) name = if stands_on name line then Some 0 else option_map suc (first_place lines name)

-- ---- numbers

-- the name that a word goes to
abbrev pub name_aimed : Saying → List (List ℕ)
name_aimed nothing = []
name_aimed (note kind value) = []
name_aimed (whole form) = []
name_aimed (aimed form name) = name ∷ []

-- the names that a line tells, in order
abbrev pub names_told : Option Said → List (List ℕ)
names_told None = []
names_told (Some said) = option_to_list said.label ++ name_aimed said.saying

-- a name behind others, where it isn't among them
abbrev pub with_name : List (List ℕ) → List ℕ → List (List ℕ)
with_name names name = if list_any (bytes_eq name) names then names else names ++ name ∷ []

-- each name once, by first appearance
abbrev pub names_of : Lines → List (List ℕ)
names_of lines = fold with_name [] (flat_map names_told lines)

abbrev pub number_at : Option ℕ → ℕ
number_at None = 0
number_at (Some place) = place + 1

-- a label's number: 1 and on, by first appearance
abbrev pub number_in : List (List ℕ) → List ℕ → ℕ
number_in names name = number_at (position (bytes_eq name) names)
