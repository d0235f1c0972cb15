-- How each token is written.
use Rattle.std.specs.Prelude.{◌≡◌, ℕ, ◌+◌, ◌*◌, ◌<◌, Bool, true, false, ◌==◌, if◌then◌else◌, List, []}
use Rattle.std.specs.Prelude.{◌∷◌, ◌++◌, length, Option, Some, None, IsTrue, ◌⊎◌}
use Rattle.std.specs.List.{list_all}
use Rattle.std.specs.Char.{digit_value, is_ascii_digit}
use Rattle.csyn.specs.Keyword.{keyword_of}
use Rattle.csyn.specs.declared.punctuator.Punctuator.{Punctuator}
use Rattle.csyn.specs.Punctuator.{punctuator_of}
use Rattle.csyn.specs.declared.token.TokenKind.{TokenKind}
use Rattle.csyn.specs.declared.token.TokenKind.TheVariants as token
use Rattle.clex.specs.Bytes.{is_word_byte, is_literal_byte, is_plain_character, StopsAt}
use Rattle.clex.specs.Numbers.{IsConstant}

-- a run of letters, digits and `_` that begins with this byte
pub record IsRun (first : ℕ) (bytes : List ℕ) : Type 0 where
  pub others : List ℕ
  pub parts : bytes ≡ first ∷ others
  pub each : IsTrue (list_all is_word_byte bytes)

-- no digit is first, and it is no keyword
pub record IsIdentifier (bytes : List ℕ) : Type 0 where
  pub first : ℕ
  pub run : IsRun first bytes
  pub no_digit : is_ascii_digit first ≡ false
  pub no_keyword : keyword_of bytes ≡ None

-- a digit is first, and all of it is an integer constant
pub record IsNumber (bytes : List ℕ) (value : ℕ) (is_unsigned : Bool) : Type 0 where
  pub first : ℕ
  pub run : IsRun first bytes
  pub digit : is_ascii_digit first ≡ true
  pub constant : IsConstant bytes value is_unsigned

-- the value of an escape sequence of one byte (C99 6.4.4.4)
abbrev pub escape : ℕ → Option ℕ
escape e =
    if e == 110 then Some 10 else (if e == 116 then Some 9 else (if e == 114 then Some 13 else (if e == 48 then Some 0
    else (if e == 92 then Some 92 else (if e == 39 then Some 39 else (if e == 34 then Some 34 else None))))))

-- a character constant and its value
pub data IsCharacter (bytes : List ℕ) (value : ℕ) : Type 0 where
  -- a byte that stands for itself
  plain : bytes ≡ 39 ∷ value ∷ 39 ∷ [] → IsTrue (is_plain_character value) → IsCharacter bytes value
  escaped : (e : ℕ) → bytes ≡ 39 ∷ 92 ∷ e ∷ 39 ∷ [] → escape e ≡ Some value → IsCharacter bytes value
  -- `\x` and two hexadecimal digits
  hexadecimal : (high low : ℕ) → bytes ≡ 39 ∷ 92 ∷ 120 ∷ high ∷ low ∷ 39 ∷ [] → digit_value high < 16 → digit_value low < 16
      → value ≡ 16 * digit_value high + digit_value low → IsCharacter bytes value

-- The bytes are how the token is written. A type name of `<stdint.h>` is read as an identifier here.
abbrev pub Writes : TokenKind → List ℕ → Type 0
Writes (token.Identifier name) bytes = (bytes ≡ name) × IsIdentifier name
Writes (token.Number n) bytes = (bytes ≡ n.spelling) × IsNumber n.spelling n.value n.is_unsigned
Writes (token.Character c) bytes = (bytes ≡ c.spelling) × IsCharacter c.spelling c.value
Writes (token.Literal text) bytes = (bytes ≡ 34 ∷ text ++ 34 ∷ []) × IsTrue (list_all is_literal_byte text)
Writes (token.Keyword k) bytes = keyword_of bytes ≡ Some k
Writes (token.Punctuator p) bytes = punctuator_of bytes ≡ Some p
Writes (token.Standard _) bytes = ⊥
Writes token.End bytes = ⊥

-- `//` or `/*`
abbrev pub OpensComment : List ℕ → Type 0
OpensComment bytes = (bytes ≡ 47 ∷ 47 ∷ []) ⊎ (bytes ≡ 47 ∷ 42 ∷ [])

-- a punctuator, or the opening of a comment
abbrev pub IsOperator : List ℕ → Type 0
IsOperator bytes = ((p : Punctuator) × (punctuator_of bytes ≡ Some p)) ⊎ OpensComment bytes

-- no longer front of the text is one
abbrev pub IsLongestOperator : List ℕ → List ℕ → Type 0
IsLongestOperator bytes left = (longer rest : List ℕ) → longer ++ rest ≡ bytes ++ left → length bytes < length longer
    → IsOperator longer → ⊥

-- A token is the longest that may stand there. An identifier, a keyword and a number take all letters, digits and `_`; a
-- punctuator is the longest, and begins no comment; what has quotes ends with its second one.
abbrev pub IsLongest : TokenKind → List ℕ → List ℕ → Type 0
IsLongest (token.Identifier _) bytes left = StopsAt is_word_byte left
IsLongest (token.Number _) bytes left = StopsAt is_word_byte left
IsLongest (token.Character _) bytes left = Unit {0}
IsLongest (token.Literal _) bytes left = Unit {0}
IsLongest (token.Keyword _) bytes left = StopsAt is_word_byte left
IsLongest (token.Punctuator _) bytes left = IsLongestOperator bytes left
IsLongest (token.Standard _) bytes left = ⊥
IsLongest token.End bytes left = ⊥
