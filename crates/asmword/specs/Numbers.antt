-- Numbers of assembly text, and what has a number: registers and constants. 2 ^ 32 stands for each number that is greater.
use Rattle.std.specs.Prelude.{ℕ, ◌==◌, ◌&&◌, ◌^◌, nat_lt, if◌then◌else◌, min, List, [], ◌∷◌, length, drop, slice_index}
use Rattle.std.specs.Prelude.{Option, Some, None, option_map}
use Rattle.std.specs.Char.{is_ascii_hexdigit, to_ascii_uppercase}
use Rattle.std.specs.List.{list_all}
use Rattle.std.specs.Str.Parse.{digits_value}
use Rattle.textline.specs.Numbers.{decimal_in}

abbrev pub whole : ℕ → ℕ
whole n = min n (2 ^ 32)

-- some hexadecimal digits of either case
unfoldable pub hex_in : List ℕ → Option ℕ
hex_in digits = if nat_lt 0 (length digits) && list_all is_ascii_hexdigit digits then Some (whole (digits_value 16 digits)) else None

-- decimal digits, or hexadecimal ones behind 0x
unfoldable pub number_in : List ℕ → Option ℕ
number_in word =
    if nat_lt 1 (length word) && slice_index word 0 == 48 && slice_index word 1 == 120 then hex_in (drop 2 word)
    else option_map whole (decimal_in word)

-- the decimal digits behind a letter of either case
unfoldable pub numbered : ℕ → List ℕ → Option ℕ
numbered letter [] = None
numbered letter (b ∷ digits) = if to_ascii_uppercase b == letter then option_map whole (decimal_in digits) else None
