-- Each text has a list of tokens or a first fault.
use Rattle.std.proofs.Common.{◌≡◌, ◌⊎◌, inl, inr, ℕ, zero, suc, ◌<◌, List, [], ◌∷◌, length, Option, Result, Ok, Err, refl, arith}
use Rattle.csyn.specs.declared.token.Token.{Token}
use Rattle.csyn.specs.declared.token.TokenKind.{TokenKind}
use Rattle.csyn.specs.declared.span.Span.{Span}
use Rattle.csyn.specs.declared.cause.Cause.{Cause}
use Rattle.clex.specs.declared.place.Place.{Place}
use Rattle.clex.specs.Reading.{piece_at}
use Rattle.clex.specs.Text.{start, Spells, IsFault}
use Rattle.clex.proofs.Loop.{SoFar, begins, shorter, goes_on, stops_at, ends}

abbrev TokensOrFault : List ℕ → Type 0
TokensOrFault text = ((tokens : List Token) × Spells tokens text) ⊎ ((span : Span) × (cause : Cause) × IsFault text span cause)

-- by what stands at the front of what is left
by-piece : (text rest : List ℕ) (place : Place) (tokens : List Token) → SoFar text rest place tokens → 0 < length rest
    → (read : Result (Option TokenKind × List ℕ) Cause) → piece_at rest ≡ read
    → ((left : List ℕ) (next : Place) (more : List Token) → SoFar text left next more → length left < length rest → TokensOrFault text)
    → TokensOrFault text
by-piece text rest place tokens so-far some (Ok (kind, left)) read go-on =
    go-on left _ _ (goes_on text rest left place tokens kind so-far some read) (shorter rest kind left some read)
by-piece text rest place tokens so-far some (Err cause) read go-on =
    inr (place.span, cause, stops_at text rest place tokens cause so-far some read)

from : (n : ℕ) (text rest : List ℕ) (place : Place) (tokens : List Token) → SoFar text rest place tokens → length rest < n
    → TokensOrFault text
from zero text rest place tokens so-far less = absurd (omega (arith, less))
from (suc n) text [] place tokens so-far less = inl (_, ends text [] place tokens so-far refl)
from (suc n) text (b ∷ behind) place tokens so-far less =
    by-piece text (b ∷ behind) place tokens so-far (omega arith) (piece_at (b ∷ behind)) refl (λ left next more so-far-left shorter.
    from n text left next more so-far-left (omega (arith, shorter, less)))

pub tokens-or-fault : (text : List ℕ) → TokensOrFault text
tokens-or-fault text = from (suc (length text)) text text start [] (begins text) (omega arith)
