-- Blanks, and the parts of a text between them and between commas and dots.
use Rattle.std.specs.Prelude.{ℕ, ◌==◌, ◌||◌, ◌&&◌, Bool, if◌then◌else◌, List, [], ◌∷◌, length}
use Rattle.std.specs.List.{slice_split}

-- space and tab
unfoldable pub is_blank : ℕ → Bool
is_blank b = b == 32 || b == 9

-- without the blanks before it
unfoldable pub behind_blanks : List ℕ → List ℕ
behind_blanks [] = []
behind_blanks (b ∷ text) = if is_blank b then behind_blanks text else b ∷ text

-- without the blanks behind it
unfoldable pub before_blanks : List ℕ → List ℕ
before_blanks [] = []
before_blanks (b ∷ text) = if is_blank b && length (before_blanks text) == 0 then [] else b ∷ before_blanks text

abbrev pub trimmed : List ℕ → List ℕ
trimmed text = before_blanks (behind_blanks text)

-- the first word, up to a blank, and what stands behind it
unfoldable pub first_word : List ℕ → List ℕ
first_word [] = []
first_word (b ∷ text) = if is_blank b then [] else b ∷ first_word text

unfoldable pub behind_word : List ℕ → List ℕ
behind_word [] = []
behind_word (b ∷ text) = if is_blank b then b ∷ text else behind_word text

-- the parts of a text between bytes of this value
abbrev pub parts_of : ℕ → List ℕ → List (List ℕ)
parts_of byte text = slice_split (λ b. b == byte) text

-- the operands behind a mnemonic, with blanks around them: none where there are blanks alone
unfoldable pub operand_parts : List ℕ → List (List ℕ)
operand_parts text = if length (behind_blanks text) == 0 then [] else parts_of 44 text
