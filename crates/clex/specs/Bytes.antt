-- Classes of bytes, in ASCII.
use Rattle.std.specs.Prelude.{◌≡◌, ℕ, Bool, true, false, not, ◌==◌, ◌||◌, ◌&&◌, List, [], ◌∷◌}
use Rattle.std.specs.Char.{is_ascii_alphanumeric}
use Rattle.std.specs.Int.{is_in_range}

-- a letter, a digit or `_`
abbrev pub is_word_byte : ℕ → Bool
is_word_byte b = is_ascii_alphanumeric b || b == 95

-- space, tab, line end, form feed or carriage return
abbrev pub is_blank : ℕ → Bool
is_blank b = b == 32 || b == 9 || b == 10 || b == 12 || b == 13

-- no line end
abbrev pub is_within_line : ℕ → Bool
is_within_line b = not (b == 10)

-- may stand between the quotes of a string literal
abbrev pub is_literal_byte : ℕ → Bool
is_literal_byte b = is_in_range 32 126 b && not (b == 34)

-- stands for itself between the quotes of a character constant
abbrev pub is_plain_character : ℕ → Bool
is_plain_character b = is_in_range 32 126 b && not (b == 39) && not (b == 92)

-- the text ends, or its next byte doesn't pass
abbrev pub StopsAt : (ℕ → Bool) → List ℕ → Type 0
StopsAt passes [] = Unit {0}
StopsAt passes (b ∷ left) = passes b ≡ false

-- the text's next byte passes
abbrev pub BeginsWith : (ℕ → Bool) → List ℕ → Type 0
BeginsWith passes [] = ⊥
BeginsWith passes (b ∷ left) = passes b ≡ true
