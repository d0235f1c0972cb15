-- Pieces of a command's words: place words, and options with their values.
use Rattle.std.specs.Prelude.{◌≡◌, ◌≢◌, IsTrue, List, [], ◌∷◌, ◌++◌, Option, Some, None, if◌then◌else◌}
use Rattle.std.specs.List.{list_any}
use Rattle.std.specs.Str.{bytes_eq}
use Rattle.cmdwords.specs.Form.{Text}

-- An option and its value are two words, `--NAME VALUE`, or one, `--NAME=VALUE`.
pub data Way : Type 0 where
  apart : Way
  joined : Way

pub data Piece : Type 0 where
  place : Text → Piece
  option : Way → Text → Text → Piece

-- 45 is `-`, and 61 is `=`.
abbrev pub option_words : Way → Text → Text → List Text
option_words apart name value = (45 ∷ 45 ∷ name) ∷ value ∷ []
option_words joined name value = (45 ∷ 45 ∷ (name ++ 61 ∷ value)) ∷ []

abbrev pub piece_words : Piece → List Text
piece_words (place word) = word ∷ []
piece_words (option way name value) = option_words way name value

-- The word `--` ends options: those behind it are place words.
abbrev pub end_words : Option (List Text) → List Text
end_words None = []
end_words (Some behind) = (45 ∷ 45 ∷ []) ∷ behind

-- the words that are written by the pieces, and by what stands behind `--`
abbrev pub written : List Piece → Option (List Text) → List Text
written [] behind = end_words behind
written (piece ∷ pieces) behind = piece_words piece ++ written pieces behind

-- ---- what they say

abbrev pub words_behind : Option (List Text) → List Text
words_behind None = []
words_behind (Some behind) = behind

abbrev pub with_place_word : Piece → List Text → List Text
with_place_word (place word) words = word ∷ words
with_place_word (option way name value) words = words

abbrev pub place_words : List Piece → Option (List Text) → List Text
place_words [] behind = words_behind behind
place_words (piece ∷ pieces) behind = with_place_word piece (place_words pieces behind)

-- the value that the option of this name is given
abbrev pub value_in : Text → Piece → Option Text → Option Text
value_in name (place word) others = others
value_in name (option way other value) others = if bytes_eq other name then Some value else others

abbrev pub value_of : Text → List Piece → Option Text
value_of name [] = None
value_of name (piece ∷ pieces) = value_in name piece (value_of name pieces)

-- ---- which may stand

-- A word that begins with `-` is no place word before `--`, unless it is `-` alone.
abbrev pub IsPlain : Text → Type 0
IsPlain [] = Unit {0}
IsPlain (c ∷ []) = Unit {0}
IsPlain (c ∷ d ∷ rest) = c ≢ 45

abbrev pub IsNonempty : Text → Type 0
IsNonempty [] = ⊥
IsNonempty (c ∷ rest) = Unit {0}

abbrev pub IsValue : Way → Text → Type 0
IsValue apart value = IsNonempty value × IsPlain value
IsValue joined value = IsNonempty value

-- the options have these names
abbrev pub IsPiece : List Text → Piece → Type 0
IsPiece names (place word) = IsPlain word
IsPiece names (option way name value) = IsTrue (list_any (λ other. bytes_eq other name) names) × IsValue way value

-- no option of the pieces is that of the piece
abbrev pub IsNew : Piece → List Piece → Type 0
IsNew (place word) pieces = Unit {0}
IsNew (option way name value) pieces = value_of name pieces ≡ None

-- each piece may stand, and each option is given at most once
abbrev pub ArePieces : List Text → List Piece → Type 0
ArePieces names [] = Unit {0}
ArePieces names (piece ∷ pieces) = IsPiece names piece × IsNew piece pieces × ArePieces names pieces
