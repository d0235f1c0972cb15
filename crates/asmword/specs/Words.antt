-- What an operand's text says, by the operand's kind.
use Rattle.std.specs.Prelude.{ℕ, ◌==◌, ◌&&◌, ◌||◌, not, nat_lt, Bool, false, if◌then◌else◌, List, [], ◌∷◌}
use Rattle.std.specs.Prelude.{Option, Some, None, option_map, option_and_then, find}
use Rattle.std.specs.Char.{is_ascii_alphanumeric, is_ascii_digit}
use Rattle.std.specs.List.{list_all}
use Rattle.std.specs.Str.{bytes_eq}
use Rattle.isa.specs.declared.field.Part.{Part}
use Rattle.isa.specs.declared.field.Part.TheVariants.{B0, B1, B2, B3, W0, W1, W2, All}
use Rattle.asmword.specs.declared.form.Word.{Word}
use Rattle.asmword.specs.declared.form.Word.TheVariants as word
use Rattle.asmword.specs.declared.kinds.Kind.{Kind}
use Rattle.asmword.specs.declared.kinds.Kind.TheVariants.{Field, Value, Number, Register, First, Constant, Label, Jump}
use Rattle.asmword.specs.Blanks.{behind_blanks, parts_of}
use Rattle.asmword.specs.Numbers.{number_in, numbered}
use Rattle.asmword.specs.Texts.{part_name}

-- ---- names of labels

abbrev pub is_name_byte : ℕ → Bool
is_name_byte b = is_ascii_alphanumeric b || b == 95

abbrev pub begins_name : List ℕ → Bool
begins_name [] = false
begins_name (b ∷ word) = not (is_ascii_digit b)

abbrev pub is_below : ℕ → Option ℕ → Bool
is_below most None = false
is_below most (Some n) = nat_lt n most

-- letters, digits and _, with no digit first, and none of R0 to R31
unfoldable pub is_name : List ℕ → Bool
is_name word = list_all is_name_byte word && begins_name word && not (is_below 32 (numbered 82 word))

-- ---- fields

unfoldable pub part_in : List ℕ → Option Part
part_in word = find (λ part. bytes_eq word (part_name part)) (B0 ∷ B1 ∷ B2 ∷ B3 ∷ W0 ∷ W1 ∷ W2 ∷ [])

abbrev pub field_from : List (List ℕ) → Option Word
field_from (register ∷ []) = option_map (λ n. word.Field n All) (numbered 82 register)
field_from (register ∷ part ∷ []) =
    option_and_then (λ n. option_map (λ part. word.Field n part) (part_in part)) (numbered 82 register)
field_from _ = None

-- a register, or with a part of it behind a dot
unfoldable pub field_in : List ℕ → Option Word
field_in text = field_from (parts_of 46 text)

-- a byte of a register: byte 0 is the register's own name too
unfoldable pub first_of : Word → Option Word
first_of (word.Field n All) = Some (word.Field n All)
first_of (word.Field n B0) = Some (word.Field n All)
first_of (word.Field n B1) = Some (word.Field n B1)
first_of (word.Field n B2) = Some (word.Field n B2)
first_of (word.Field n B3) = Some (word.Field n B3)
first_of _ = None

-- without an & before it
unfoldable pub behind_ampersand : List ℕ → List ℕ
behind_ampersand [] = []
behind_ampersand (b ∷ text) = if b == 38 then behind_blanks text else b ∷ text

-- ---- operands

abbrev pub else_ : {A : Type 0} → Option A → Option A → Option A
else_ None o = o
else_ (Some x) o = Some x

abbrev pub number_word : List ℕ → Option Word
number_word text = option_map (λ n. word.Number n) (number_in text)

unfoldable pub word_in : Kind → List ℕ → Option Word
word_in Field text = field_in text
word_in Value text = else_ (field_in text) (number_word text)
word_in Number text = number_word text
word_in Register text = option_map (λ n. word.Field n All) (numbered 82 text)
word_in First text = option_and_then first_of (field_in (behind_ampersand text))
word_in Constant text = option_map (λ n. word.Constant n) (numbered 67 text)
word_in Label text = if is_name text then Some word.Label else None
word_in Jump text = if is_name text then Some word.Label else field_in text
