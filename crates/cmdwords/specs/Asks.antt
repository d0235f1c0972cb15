-- What a command's words ask for.
use Rattle.std.specs.Prelude.{◌≡◌, ℕ, ◌≤◌, List, [], ◌∷◌, map, Option}
use Rattle.std.specs.Fmt.{decimal}
use Rattle.cmdwords.specs.Form.{Form, Text}
use Rattle.cmdwords.specs.Piece.{ArePieces, Piece, place_words, value_of, written}
use Rattle.cmdwords.specs.declared.place.Place.{Place}
use Rattle.cmdwords.specs.declared.place.Place.TheVariants as place

-- what a word says at its place
pub data Said : Type 0 where
  file : Text → Said
  number : ℕ → Said

-- A number is in decimal, without sign or leading zeros.
abbrev pub word_of : Said → Text
word_of (file name) = name
word_of (number n) = decimal n

abbrev pub MayStand : Place → Said → Type 0
MayStand place.File (file name) = Unit {0}
MayStand (place.Number least most) (number n) = (least ≤ n) × (n ≤ most)
MayStand _ _ = ⊥

-- one at each place
abbrev pub Fill : List Place → List Said → Type 0
Fill [] [] = Unit {0}
Fill (at ∷ places) (said ∷ values) = MayStand at said × Fill places values
Fill _ _ = ⊥

-- what stands at the places, and the values of the options in the form's order
pub record Asked : Type 0 where
  pub values : List Said
  pub options : List (Option Text)

-- the words have the form, and ask for this
pub record Asks (form : Form) (words : List Text) (asked : Asked) : Type 0 where
  pub pieces : List Piece
  pub behind : Option (List Text)
  pub text : words ≡ form.mode ∷ written pieces behind
  pub stand : ArePieces form.options pieces
  pub places : place_words pieces behind ≡ map word_of asked.values
  pub fill : Fill form.places asked.values
  pub options : asked.options ≡ map (λ name. value_of name pieces) form.options
