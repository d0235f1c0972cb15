-- What a reading says of a text.
use Rattle.std.proofs.Common.{◌≡◌, ℕ, ◌<◌, List, ◌++◌, length, Option, Ok, Err}
use Rattle.csyn.specs.declared.token.TokenKind.{TokenKind}
use Rattle.clex.specs.Pieces.{IsPiece, Tells}
use Rattle.clex.specs.Reading.{Front}

-- a piece stands at the front, and has a byte at least
pub record IsFront (text : List ℕ) (kind : Option TokenKind) (left : List ℕ) : Type 0 where
  pub bytes : List ℕ
  pub parts : text ≡ bytes ++ left
  pub some : 0 < length bytes
  pub is : IsPiece kind bytes left

abbrev pub IsSound : List ℕ → Front → Type 0
IsSound text (Ok found) = IsFront text found.0 found.1
IsSound text (Err cause) = Tells cause text
