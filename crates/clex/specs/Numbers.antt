-- Integer constants (C99 6.4.4.1), without the suffix `ll`.
use Rattle.std.specs.Prelude.{◌≡◌, ℕ, ◌≤◌, Bool, true, false, ◌==◌, ◌||◌, ◌&&◌, if◌then◌else◌, List, [], ◌∷◌, ◌++◌, Option, Some, None}
use Rattle.std.specs.Str.Parse.{IsNumeral, digits_value}

-- The radix and where its digits begin: 16 behind `0x` or `0X`, else 8 where a 0 is first, else 10.
abbrev pub radix_of : List ℕ → ℕ × List ℕ
radix_of [] = (10, [])
radix_of (a ∷ []) = if a == 48 then (8, a ∷ []) else (10, a ∷ [])
radix_of (a ∷ b ∷ rest) =
    if a == 48 && (b == 120 || b == 88) then (16, rest)
    else (if a == 48 then (8, a ∷ b ∷ rest) else (10, a ∷ b ∷ rest))

abbrev pub is_u : ℕ → Bool
is_u b = b == 117 || b == 85

abbrev pub is_l : ℕ → Bool
is_l b = b == 108 || b == 76

-- whether a suffix says `unsigned`; none of a text that is no suffix
abbrev pub suffix_of : List ℕ → Option Bool
suffix_of [] = Some false
suffix_of (a ∷ []) = if is_u a then Some true else (if is_l a then Some false else None)
suffix_of (a ∷ b ∷ []) = if (is_u a && is_l b) || (is_l a && is_u b) then Some true else None
suffix_of (a ∷ b ∷ c ∷ rest) = None

abbrev pub most : ℕ
most = 4294967295

-- digits in the radix, and a suffix
pub record IsInteger (radix : ℕ) (text : List ℕ) (value : ℕ) (is_unsigned : Bool) : Type 0 where
  pub digits : List ℕ
  pub suffix : List ℕ
  pub parts : text ≡ digits ++ suffix
  pub numeral : IsNumeral radix digits
  pub value_is : value ≡ digits_value radix digits
  pub in_range : value ≤ most
  pub suffix_is : suffix_of suffix ≡ Some is_unsigned

abbrev pub IsConstant : List ℕ → ℕ → Bool → Type 0
IsConstant spelling value is_unsigned = IsInteger (radix_of spelling).0 (radix_of spelling).1 value is_unsigned
