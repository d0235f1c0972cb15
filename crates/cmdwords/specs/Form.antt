-- The form of a mode's words, as data.
use Rattle.std.specs.Prelude.{ℕ, Bool, true, not, nat_lt, ◌&&◌, ◌==◌, List, map, length, IsTrue}
use Rattle.std.specs.List.{list_all, list_any}
use Rattle.cmdwords.specs.declared.place.Place.{Place}
use Rattle.cmdwords.specs.declared.place.Place.TheVariants as place
use Rattle.cmdwords.specs.declared.form.Form.{Form as FormValue}

abbrev pub Text : Type 0
Text = List ℕ

-- the mode's name, its places in their order, and the names of its options
pub record Form : Type 0 where
  pub mode : Text
  pub places : List Place
  pub options : List Text

abbrev pub form_of : FormValue → Form
form_of f = record {
  mode = f.mode.now;
  places = f.places.now;
  options = map (λ name. name.now) f.options.now;
}

-- A name isn't empty and has no `=` (61), at which a word `--NAME=VALUE` is cut.
abbrev pub is_name : Text → Bool
is_name name = not (length name == 0) && not (list_any (λ c. c == 61) name)

abbrev pub HasNames : Form → Type 0
HasNames form = IsTrue (list_all is_name form.options)

-- A number at a place is below 2 to the 32.
abbrev pub is_range : Place → Bool
is_range place.File = true
is_range (place.Number least most) = nat_lt most 4294967296

abbrev pub HasRanges : Form → Type 0
HasRanges form = IsTrue (list_all is_range form.places)
