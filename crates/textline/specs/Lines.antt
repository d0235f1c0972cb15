-- A text as lines, and a line as fields.
use Rattle.std.specs.Prelude.{◌≡◌, ◌≢◌, ℕ, ◌==◌, ◌⊎◌, if◌then◌else◌, List, [], ◌∷◌, ◌++◌}
use Rattle.std.specs.List.{AllByRecursion, slice_split, join_with_byte, onto_first, flat_map}

-- no byte of the text is this one
abbrev pub Lacks : ℕ → List ℕ → Type 0
Lacks byte text = AllByRecursion (λ b. b ≢ byte) text

-- Lines as a text, where each has its end.
abbrev pub text_of : List (List ℕ) → List ℕ
text_of lines = flat_map (λ line. line ++ 10 ∷ []) lines

-- The lines of a text, without their ends. The last may lack its end; a text with no bytes has no line.
abbrev pub lines_of : List ℕ → List (List ℕ)
lines_of [] = []
lines_of (b ∷ text) = if b == 10 then [] ∷ lines_of text else onto_first b (lines_of text)

-- Fields as a line, with a space between each and the next.
abbrev pub line_of : List (List ℕ) → List ℕ
line_of fields = join_with_byte 32 fields

-- The fields of a line, which single spaces separate. A line with no bytes has one field, an empty one.
abbrev pub fields_of : List ℕ → List (List ℕ)
fields_of line = slice_split (λ b. b == 32) line

-- what a reader of a text has before it: the number of the next line, from 1, and the bytes from there on
pub record Ahead : Type 0 where
  pub number : ℕ
  pub text : List ℕ

-- A line without its end is taken from the front of a text: behind it stood its end and the rest, or it was all that was left.
pub record TakesLine (text line rest : List ℕ) : Type 0 where
  pub lacks : Lacks 10 line
  pub cut : (text ≡ line ++ 10 ∷ rest) ⊎ ((text ≡ line) × (rest ≡ []))
