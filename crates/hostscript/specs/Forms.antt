-- The forms of a script's lines, whatever their numbers are worth.
use Rattle.std.specs.Prelude.{ℕ, Bool, true, false, ◌&&◌, ◌||◌, ◌==◌, if◌then◌else◌, is_some, List, [], ◌∷◌, codes}
use Rattle.std.specs.List.{list_all}
use Rattle.std.specs.Str.{bytes_eq}
use Rattle.textline.specs.Numbers.{is_decimal, hex_in}
use Rattle.textline.specs.Lines.{fields_of}

-- Empty lines and lines that begin with '#' say nothing.
abbrev pub is_skipped : List ℕ → Bool
is_skipped [] = true
is_skipped (b ∷ line) = b == 35

-- what an operand is: a decimal number, or just so many hexadecimal digits
pub data Operand : Type 0 where
  number : Operand
  digits : ℕ → Operand

abbrev pub is_operand : Operand → List ℕ → Bool
is_operand number word = is_decimal word
is_operand (digits count) word = is_some (hex_in count word)

abbrev pub are_operands : List Operand → List (List ℕ) → Bool
are_operands [] [] = true
are_operands (operand ∷ operands) (word ∷ words) = is_operand operand word && are_operands operands words
are_operands _ _ = false

-- the operands behind each action's word
abbrev pub has_operands : List ℕ → List (List ℕ) → Bool
has_operands word words =
    if bytes_eq word (codes "poke") then are_operands (digits 8 ∷ number ∷ digits 8 ∷ []) words
    else (if bytes_eq word (codes "pins") then are_operands (number ∷ digits 4 ∷ []) words
    else (if bytes_eq word (codes "event") then are_operands (number ∷ []) words
    else (if bytes_eq word (codes "start") then are_operands (number ∷ []) words else false)))

-- a cycle, an action's word, and its operands
abbrev pub has_act_form : List (List ℕ) → Bool
has_act_form (cycle ∷ word ∷ words) = is_decimal cycle && has_operands word words
has_act_form _ = false

-- the word arb, a core, and one number or more
abbrev pub has_arb_form : List (List ℕ) → Bool
has_arb_form (word ∷ core ∷ first ∷ others) = bytes_eq word (codes "arb") && list_all is_decimal (core ∷ first ∷ others)
has_arb_form _ = false

abbrev pub has_form : List ℕ → Bool
has_form line = is_skipped line || has_act_form (fields_of line) || has_arb_form (fields_of line)
