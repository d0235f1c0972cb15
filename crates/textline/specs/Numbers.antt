-- How numbers stand in a text, and what is read of a word.
use Rattle.std.specs.Prelude.{ℕ, zero, suc, Bool, false, ◌&&◌, ◌||◌, not, ◌==◌, nat_le, nat_lt, slice_index, if◌then◌else◌}
use Rattle.std.specs.Prelude.{◌-◌, ◌/◌, ◌%◌, ◌^◌, min, List, [], ◌∷◌, ◌++◌, length, Option, Some, None}
use Rattle.std.specs.Char.{is_ascii_digit}
use Rattle.std.specs.List.{list_all}
use Rattle.std.specs.Str.Parse.{digits_value}
use Rattle.std.specs.Fmt.{digit_glyph}

-- the last so many hexadecimal digits of n, in lower case, the highest first
unfoldable pub hex_digits : ℕ → ℕ → List ℕ
hex_digits zero n = []
hex_digits (suc count) n = hex_digits count (n / 16) ++ digit_glyph false (n % 16) ∷ []

-- a number below 2 ^ 32 in eight digits, leading zeros among them
abbrev pub hex8 : ℕ → List ℕ
hex8 n = hex_digits 8 n

-- a number below 2 ^ 16 in four
abbrev pub hex4 : ℕ → List ℕ
hex4 n = hex_digits 4 n

-- one decimal digit or more, and no zero before another
abbrev pub is_decimal : List ℕ → Bool
is_decimal word = list_all is_ascii_digit word && nat_lt 0 (length word) && not (nat_lt 1 (length word) && slice_index word 0 == 48)

-- the number that a word spells in decimal digits, or 2 ^ 64 - 1 where it is larger
abbrev pub decimal_in : List ℕ → Option ℕ
decimal_in word = if is_decimal word then Some (min (digits_value 10 word) (2 ^ 64 - 1)) else None

-- 0 to 9, a to f
abbrev pub is_hex_digit : ℕ → Bool
is_hex_digit c = is_ascii_digit c || nat_le 97 c && nat_le c 102

-- the number that a word of just so many hexadecimal digits spells
abbrev pub hex_in : ℕ → List ℕ → Option ℕ
hex_in count word = if length word == count && list_all is_hex_digit word then Some (digits_value 16 word) else None
