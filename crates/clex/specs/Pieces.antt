-- What a text is made of: white space and tokens, and where neither stands.
use Rattle.std.specs.Prelude.{◌≡◌, ℕ, Bool, ◌==◌, ◌||◌, List, [], ◌∷◌, ◌++◌, Option, Some, None, IsTrue}
use Rattle.std.specs.List.{list_all}
use Rattle.std.specs.Char.{is_ascii_digit}
use Rattle.csyn.specs.declared.token.TokenKind.{TokenKind}
use Rattle.csyn.specs.declared.cause.Cause.{Cause}
use Rattle.csyn.specs.declared.cause.Cause.TheVariants as cause
use Rattle.clex.specs.Bytes.{is_blank, is_within_line, StopsAt, BeginsWith}
use Rattle.clex.specs.Spelling.{Writes, IsLongest}

-- no `*/` but at the end of them
abbrev pub ClosesOnce : List ℕ → Type 0
ClosesOnce body = (front back : List ℕ) → body ++ 42 ∷ [] ≡ front ++ 42 ∷ 47 ∷ back → ⊥

-- the bytes are one white space, and left is what the text has behind it
pub data IsWhite (bytes left : List ℕ) : Type 0 where
  blank : (b : ℕ) → bytes ≡ b ∷ [] → IsTrue (is_blank b) → IsWhite bytes left
  -- a backslash before a line end
  joined : bytes ≡ 92 ∷ 10 ∷ [] → IsWhite bytes left
  -- from `//` up to the line end, which is no part of it
  line_comment : (body : List ℕ) → bytes ≡ 47 ∷ 47 ∷ body → IsTrue (list_all is_within_line body) → StopsAt is_within_line left
      → IsWhite bytes left
  -- from `/*` to the first `*/` behind it
  block_comment : (body : List ℕ) → bytes ≡ 47 ∷ 42 ∷ body ++ 42 ∷ 47 ∷ [] → ClosesOnce body → IsWhite bytes left

-- a token, or white space where there is none, and its bytes
pub record Piece : Type 0 where
  pub kind : Option TokenKind
  pub bytes : List ℕ

abbrev pub IsPiece : Option TokenKind → List ℕ → List ℕ → Type 0
IsPiece None bytes left = IsWhite bytes left
IsPiece (Some kind) bytes left = Writes kind bytes × IsLongest kind bytes left

-- the piece stands at the front of a text, before what is left
abbrev pub Stands : Piece → List ℕ → Type 0
Stands piece left = IsPiece piece.kind piece.bytes left

-- the byte is the first of no token
abbrev pub BeginsNoToken : List ℕ → Type 0
BeginsNoToken [] = ⊥
BeginsNoToken (b ∷ _) = (kind : TokenKind) (others : List ℕ) → Writes kind (b ∷ others) → ⊥

abbrev pub is_quote : ℕ → Bool
is_quote b = b == 39 || b == 34

-- what is wrong where neither white space nor a token stands
abbrev pub Tells : Cause → List ℕ → Type 0
Tells cause.L1 text = BeginsNoToken text
Tells cause.L2 text = (behind : List ℕ) × (text ≡ 47 ∷ 42 ∷ behind)
Tells cause.L3 text = BeginsWith is_quote text
Tells cause.L4 text = BeginsWith is_ascii_digit text
Tells _ text = ⊥

-- the text goes on with no white space and no token, and why
pub record Breaks (cause : Cause) (text : List ℕ) : Type 0 where
  pub nothing : (piece : Piece) (left : List ℕ) → text ≡ piece.bytes ++ left → Stands piece left → ⊥
  pub tells : Tells cause text
