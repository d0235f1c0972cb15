-- Reading the next piece from the left: a token, or none at white space, and what is left; or why there is neither.
use Rattle.std.specs.Prelude.{ℕ, ◌+◌, ◌*◌, Bool, ◌==◌, ◌&&◌, nat_eq, nat_lt, nat_le, ◌-◌, if◌then◌else◌, List, [], ◌∷◌}
use Rattle.std.specs.Prelude.{length, take, drop, Option, Some, None, Result, Ok, Err, option_and_then}
use Rattle.std.specs.List.{prefix_len, starts_with}
use Rattle.std.specs.Option.{option_map}
use Rattle.std.specs.Str.Parse.{digits_value}
use Rattle.std.specs.Char.{digit_value, is_digit, is_ascii_digit}
use Rattle.csyn.specs.declared.keyword.Keyword.{Keyword}
use Rattle.csyn.specs.declared.punctuator.Punctuator.{Punctuator}
use Rattle.csyn.specs.Punctuator.{punctuators}
use Rattle.csyn.specs.declared.cause.Cause.{Cause}
use Rattle.csyn.specs.declared.cause.Cause.TheVariants.{L1, L2, L3, L4}
use Rattle.csyn.specs.declared.token.TokenKind.{TokenKind}
use Rattle.csyn.specs.declared.token.TokenKind.TheVariants as token
use Rattle.clex.specs.Bytes.{is_word_byte, is_blank, is_within_line, is_literal_byte, is_plain_character}
use Rattle.clex.specs.Numbers.{radix_of, suffix_of, most}
pub use Rattle.csyn.specs.Keyword.{keyword_of}
use Rattle.clex.specs.Spelling.{escape}

abbrev pub Front : Type 0
Front = Result (Option TokenKind × List ℕ) Cause

-- a value that fits 32 bits, and its signedness
abbrev pub in_range : ℕ → Bool → Option (ℕ × Bool)
in_range value is_unsigned = if nat_le value most then Some (value, is_unsigned) else None

unfoldable pub integer_of : ℕ → List ℕ → Option (ℕ × Bool)
integer_of radix text =
    let n = prefix_len (λ b. is_digit b radix) text in
    if n == 0 then None else option_and_then (in_range (digits_value radix (take n text))) (suffix_of (drop n text))

unfoldable pub number_of : List ℕ → Option (ℕ × Bool)
number_of spelling = integer_of (radix_of spelling).0 (radix_of spelling).1

-- a run of letters, digits and `_` that has a digit first, and what is left
abbrev pub number_token : List ℕ → List ℕ → Option (ℕ × Bool) → Front
number_token word left None = Err L4
number_token word left (Some n) = Ok (Some (token.Number (record { spelling = word; value = n.0; is_unsigned = n.1 })), left)

abbrev pub name_token : List ℕ → List ℕ → Option Keyword → Front
name_token word left None = Ok (Some (token.Identifier word), left)
name_token word left (Some k) = Ok (Some (token.Keyword k), left)

unfoldable pub word_at : ℕ → List ℕ → Front
word_at first text =
    let n = prefix_len is_word_byte text in
    if is_ascii_digit first then number_token (take n text) (drop n text) (number_of (take n text))
    else name_token (take n text) (drop n text) (keyword_of (take n text))

-- the closing quote of a character constant, behind its value
abbrev pub closed_at : ℕ → List ℕ → Option (ℕ × List ℕ)
closed_at value [] = None
closed_at value (b ∷ left) = if b == 39 then Some (value, left) else None

abbrev pub hexadecimal_at : List ℕ → Option (ℕ × List ℕ)
hexadecimal_at (high ∷ low ∷ behind) =
    if nat_lt (digit_value high) 16 && nat_lt (digit_value low) 16 then closed_at (16 * digit_value high + digit_value low) behind else None
hexadecimal_at _ = None

abbrev pub escape_at : List ℕ → Option (ℕ × List ℕ)
escape_at [] = None
escape_at (e ∷ behind) = if e == 120 then hexadecimal_at behind else option_and_then (λ value. closed_at value behind) (escape e)

-- the value of a character constant and what is left, behind its opening quote
unfoldable pub character_at : List ℕ → Option (ℕ × List ℕ)
character_at [] = None
character_at (b ∷ behind) = if b == 92 then escape_at behind else (if is_plain_character b then closed_at b behind else None)

-- the text is that of the token with what is left
abbrev pub character_token : List ℕ → Option (ℕ × List ℕ) → Front
character_token text None = Err L3
character_token text (Some c) = Ok (Some (token.Character (record { spelling = take (length text - length c.1) text; value = c.0 })), c.1)

-- the bytes of a string literal and what is left, behind its opening quote
abbrev pub literal_token : List ℕ → List ℕ → Front
literal_token bytes [] = Err L3
literal_token bytes (b ∷ left) = if b == 34 then Ok (Some (token.Literal bytes), left) else Err L3

unfoldable pub literal_at : List ℕ → Front
literal_at behind = let n = prefix_len is_literal_byte behind in literal_token (take n behind) (drop n behind)

-- what is left behind the first `*/`
abbrev pub after_comment : List ℕ → Option (List ℕ)
after_comment [] = None
after_comment (a ∷ []) = None
after_comment (a ∷ b ∷ behind) = if a == 42 && b == 47 then Some behind else after_comment (b ∷ behind)

abbrev pub comment_end : Option (List ℕ) → Front
comment_end None = Err L2
comment_end (Some left) = Ok (None, left)

-- the first entry whose spelling is a front of the text; the table has the longer spellings first
abbrev pub front_in : List (List ℕ × Punctuator) → List ℕ → Option (List ℕ × Punctuator)
front_in [] text = None
front_in (entry ∷ entries) text = if starts_with nat_eq text entry.0 then Some entry else front_in entries text

-- its length and the punctuator
abbrev pub operator_token : List ℕ → Option (ℕ × Punctuator) → Front
operator_token text None = Err L1
operator_token text (Some e) = Ok (Some (token.Punctuator e.1), drop e.0 text)

unfoldable pub operator_at : List ℕ → Front
operator_at text = operator_token text (option_map (λ e. (length e.0, e.1)) (front_in punctuators text))

-- behind `/`
unfoldable pub slash_at : List ℕ → Front
slash_at [] = operator_at (47 ∷ [])
slash_at (b ∷ behind) =
    if b == 47 then Ok (None, drop (prefix_len is_within_line behind) behind)
    else (if b == 42 then comment_end (after_comment behind) else operator_at (47 ∷ b ∷ behind))

-- behind a backslash
abbrev pub backslash_at : List ℕ → Front
backslash_at [] = Err L1
backslash_at (b ∷ left) = if b == 10 then Ok (None, left) else Err L1

unfoldable pub piece_at : List ℕ → Front
piece_at [] = Err L1
piece_at (b ∷ behind) =
    if is_word_byte b then word_at b (b ∷ behind)
    else (if is_blank b then Ok (None, behind)
    else (if b == 39 then character_token (b ∷ behind) (character_at behind)
    else (if b == 34 then literal_at behind
    else (if b == 47 then slash_at behind
    else (if b == 92 then backslash_at behind
    else operator_at (b ∷ behind))))))
