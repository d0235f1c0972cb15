-- Whole texts: their tokens with their places, or the first fault.
use Rattle.std.specs.Prelude.{◌≡◌, ℕ, Bool, true, false, ◌||◌, List, [], ◌∷◌, ◌++◌, Option, Some, None, Result, Ok, Err}
use Rattle.std.specs.Str.{bytes_eq}
use Rattle.csyn.specs.declared.token.Token.{Token}
use Rattle.csyn.specs.declared.token.TokenKind.{TokenKind}
use Rattle.csyn.specs.declared.token.TokenKind.TheVariants.{End}
use Rattle.csyn.specs.declared.span.Span.{Span}
use Rattle.csyn.specs.declared.cause.Cause.{Cause}
use Rattle.csyn.specs.declared.fault.SourceFault.{SourceFault}
use Rattle.csyn.specs.declared.fault.SourceFault.TheVariants.{Broken, Memory}
use Rattle.clex.specs.declared.place.Place.{Place}
use Rattle.clex.specs.Span.{after_bytes}
use Rattle.clex.specs.Pieces.{Piece, Stands, Breaks}

abbrev pub start : Place
start = record { span = record { line = 1; column = 1 }; is_first = true }

-- Behind a piece, is there still no token on the line? A line ends at a line end that is white space by itself: not behind a
-- backslash, and not in a comment.
abbrev pub is_first_after : Bool → Option TokenKind → List ℕ → Bool
is_first_after is_first None bytes = is_first || bytes_eq bytes (10 ∷ [])
is_first_after is_first (Some _) bytes = false

abbrev pub after_piece : Place → Piece → Place
after_piece place piece = record {
  span = after_bytes place.span piece.bytes;
  is_first =
      is_first_after place.is_first piece.kind piece.bytes;
}

abbrev pub token_of : Place → TokenKind → Token
token_of place kind = record { kind = kind; span = place.span; is_first_of_line = place.is_first }

-- white space makes no token
abbrev pub with_token : Place → Option TokenKind → List Token → List Token
with_token place None tokens = tokens
with_token place (Some kind) tokens = token_of place kind ∷ tokens

-- the tokens of pieces that begin at a place
abbrev pub tokens_from : Place → List Piece → List Token
tokens_from place [] = []
tokens_from place (piece ∷ pieces) = with_token place piece.kind (tokens_from (after_piece place piece) pieces)

abbrev pub place_after : Place → List Piece → Place
place_after place [] = place
place_after place (piece ∷ pieces) = place_after (after_piece place piece) pieces

-- The pieces stand one behind the other at the front of the text, and left is what is behind them.
abbrev pub IsCut : List Piece → List ℕ → List ℕ → Type 0
IsCut [] text left = text ≡ left
IsCut (piece ∷ pieces) text left = (behind : List ℕ) × (text ≡ piece.bytes ++ behind) × Stands piece behind × IsCut pieces behind left

-- the text is these tokens, white space aside, and the end
abbrev pub Spells : List Token → List ℕ → Type 0
Spells tokens text = (pieces : List Piece) × IsCut pieces text []
    × (tokens ≡ tokens_from start pieces ++ token_of (place_after start pieces) End ∷ [])

-- white space and tokens come as far as this place, where neither stands
abbrev pub IsFault : List ℕ → Span → Cause → Type 0
IsFault text span cause = (pieces : List Piece) × (left : List ℕ) × IsCut pieces text left
    × (span ≡ (place_after start pieces).span) × Breaks cause left

-- want of memory may always be answered; else it is the text's first fault
abbrev pub IsFaultOf : List ℕ → SourceFault → Type 0
IsFaultOf text (Broken span cause) = IsFault text span cause
IsFaultOf text Memory = Unit {0}

-- The result, seen by view, is this one, or memory is wanting.
abbrev pub Answers : {A B : Type 0} → (A → B) → Result A SourceFault → Result B SourceFault → Type 0
Answers view (Ok x) wanted = wanted ≡ Ok (view x)
Answers view (Err Memory) wanted = Unit {0}
Answers view (Err (Broken span cause)) wanted = wanted ≡ Err (Broken span cause)
