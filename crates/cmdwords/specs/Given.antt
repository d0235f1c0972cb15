-- What a reader's answer says.
use Rattle.std.specs.Prelude.{◌≡◌, List, map, Option, option_map, MatchOption, String, Vec}
use Rattle.std.specs.declared.alloc.Global.{Global}
use Rattle.std.specs.String.{string_bytes}
use Rattle.cmdwords.specs.Form.{Text}
use Rattle.cmdwords.specs.Asks.{Asked, Fill, Said, file, number, word_of}
use Rattle.cmdwords.specs.declared.place.Place.{Place}
use Rattle.cmdwords.specs.declared.value.Value.{Value}
use Rattle.cmdwords.specs.declared.value.Value.TheVariants as value
use Rattle.cmdwords.specs.declared.reader.Given.{Given}

abbrev pub texts : List (String Global) → List Text
texts words = map string_bytes words

abbrev pub said : Value → Said
said (value.File name) = file name.now
said (value.Number n) = number n

abbrev pub asked : Given → Asked
asked given = record {
  values = map said given.values.items;
  options = map (option_map (λ v. v.now)) given.options.items;
}

-- the values that the words say at the places, where there are any
abbrev pub Fills : List Place → List Text → Option (Vec Value Global) → Type 0
Fills places words o = MatchOption o ((vs : List Said) → Fill places vs → map word_of vs ≡ words → ⊥)
    (λ values. Fill places (map said values.items) × (map word_of (map said values.items) ≡ words))
