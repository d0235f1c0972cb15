-- What the loop over a text has read so far, and what one more piece makes of it.
use Rattle.std.proofs.Common.{◌≡◌, ℕ, ◌-◌, ◌<◌, List, [], ◌∷◌, ◌++◌, length, take, Option, Some}
use Rattle.std.proofs.Common.{None, Ok, Err, refl, sym, ap, ◌∙◌, subst, arith}
use Rattle.std.proofs.lemmas.List.{take_at, length-append, nil_from_length}
use Rattle.csyn.specs.declared.token.Token.{Token}
use Rattle.csyn.specs.declared.token.TokenKind.{TokenKind}
use Rattle.csyn.specs.declared.token.TokenKind.TheVariants.{End}
use Rattle.csyn.specs.declared.cause.Cause.{Cause}
use Rattle.clex.specs.declared.place.Place.{Place}
use Rattle.clex.specs.Pieces.{Piece, Stands, Breaks}
use Rattle.clex.specs.Reading.{piece_at}
use Rattle.clex.specs.Text.{start, after_piece, token_of, with_token, tokens_from, place_after, IsCut, Spells, IsFault, IsFaultOf}
use Rattle.clex.specs.Given.{Fails, fault_at}
use Rattle.clex.specs.declared.fault.PieceFault.{PieceFault}
use Rattle.clex.specs.declared.fault.PieceFault.TheVariants.{Broken, Memory}
use Rattle.clex.proofs.Sound.{IsFront, IsSound}
use Rattle.clex.proofs.Dispatch.{piece_again, piece_sound}

-- ---- one piece more

cut_push : (pieces : List Piece) (text left after : List ℕ) (piece : Piece) → IsCut pieces text left → left ≡ piece.bytes ++ after
    → Stands piece after → IsCut (pieces ++ piece ∷ []) text after
cut_push [] text left after piece cut parts stands = (after, cut ∙ parts, stands, refl)
cut_push (first ∷ pieces) text left after piece cut parts stands =
    (cut.0, cut.1, cut.2, cut_push pieces cut.0 left after piece cut.3 parts stands)

with_token-append : (place : Place) (kind : Option TokenKind) (ts us : List Token)
    → with_token place kind (ts ++ us) ≡ with_token place kind ts ++ us
with_token-append place None ts us = refl
with_token-append place (Some kind) ts us = refl

tokens_push : (place : Place) (pieces : List Piece) (piece : Piece)
    → tokens_from place (pieces ++ piece ∷ []) ≡ tokens_from place pieces ++ with_token (place_after place pieces) piece.kind []
tokens_push place [] piece = refl
tokens_push place (first ∷ pieces) piece =
    ap (with_token place first.kind) (tokens_push (after_piece place first) pieces piece)
    ∙ with_token-append place first.kind (tokens_from (after_piece place first) pieces) _

place_push : (place : Place) (pieces : List Piece) (piece : Piece)
    → place_after place (pieces ++ piece ∷ []) ≡ after_piece (place_after place pieces) piece
place_push place [] piece = refl
place_push place (first ∷ pieces) piece = place_push (after_piece place first) pieces piece

-- ---- the loop

pub record SoFar (text rest : List ℕ) (place : Place) (tokens : List Token) : Type 0 where
  pub pieces : List Piece
  pub cut : IsCut pieces text rest
  pub place_is : place ≡ place_after start pieces
  pub tokens_are : tokens ≡ tokens_from start pieces

pub begins : (text : List ℕ) → SoFar text text start []
begins text = record { pieces = []; cut = refl; place_is = refl; tokens_are = refl }

pub front_of : (text : List ℕ) (kind : Option TokenKind) (left : List ℕ) → 0 < length text → piece_at text ≡ Ok (kind, left)
    → IsFront text kind left
front_of [] kind left some read = absurd (omega arith)
front_of (b ∷ behind) kind left some read = subst (IsSound (b ∷ behind)) read (piece_sound b behind)

pub shorter : (text : List ℕ) (kind : Option TokenKind) (left : List ℕ) → 0 < length text → piece_at text ≡ Ok (kind, left)
    → length left < length text
shorter text kind left some read =
    let front = front_of text kind left some read in
    omega (arith, ap length front.parts, length-append front.bytes left, front.some)

pub goes_on : (text rest left : List ℕ) (place : Place) (tokens : List Token) (kind : Option TokenKind)
    → SoFar text rest place tokens → 0 < length rest → piece_at rest ≡ Ok (kind, left)
    → SoFar text left (after_piece place (record { kind = kind; bytes = take (length rest - length left) rest }))
    (tokens ++ with_token place kind [])
goes_on text rest left place tokens kind so_far some read =
    let front = front_of rest kind left some read in
    let long : length front.bytes ≡ length rest - length left = omega (arith, ap length front.parts, length-append front.bytes left) in
    let taken : front.bytes ≡ take (length rest - length left) rest =
    sym (ap (take (length rest - length left)) front.parts ∙ take_at front.bytes left (length rest - length left) long)
    in
    let piece : Piece = record { kind = kind; bytes = front.bytes } in
    let next : SoFar text left (after_piece place piece) (tokens ++ with_token place kind []) = record {
      pieces = so_far.pieces ++ piece ∷ [];
      cut = cut_push so_far.pieces text rest left piece so_far.cut front.parts front.is;
      place_is = ap (λ (p : Place). after_piece p piece) so_far.place_is ∙ sym (place_push start so_far.pieces piece);
      tokens_are = (λ i. so_far.tokens_are i ++ with_token (so_far.place_is i) kind []) ∙ sym (tokens_push start so_far.pieces piece);
    } in
    subst (λ (b : List ℕ). SoFar text left (after_piece place (record { kind = kind; bytes = b }))
    (tokens ++ with_token place kind [])) taken next

pub stops_at : (text rest : List ℕ) (place : Place) (tokens : List Token) (cause : Cause) → SoFar text rest place tokens
    → 0 < length rest → piece_at rest ≡ Err cause → IsFault text place.span cause
stops_at text [] place tokens cause so_far some read = absurd (omega arith)
stops_at text (b ∷ behind) place tokens cause so_far some read =
    let breaks : Breaks cause (b ∷ behind) = record {
      nothing = λ piece left parts stands.
          let again : piece_at (b ∷ behind) ≡ Ok (piece.kind, left) =
          ap piece_at parts ∙ piece_again piece.kind piece.bytes left stands in cc;
      tells = subst (IsSound (b ∷ behind)) read (piece_sound b behind);
    } in
    (so_far.pieces, b ∷ behind, so_far.cut, ap (λ (p : Place). p.span) so_far.place_is, breaks)

pub stops : (text rest : List ℕ) (place : Place) (tokens : List Token) (fault : PieceFault) → SoFar text rest place tokens
    → 0 < length rest → Fails fault (piece_at rest) → IsFaultOf text (fault_at fault place.span)
stops text rest place tokens (Broken cause) so_far some read = stops_at text rest place tokens cause so_far some read
stops text rest place tokens Memory so_far some read = tt

pub ends : (text rest : List ℕ) (place : Place) (tokens : List Token) → SoFar text rest place tokens → length rest ≡ 0
    → Spells (tokens ++ token_of place End ∷ []) text
ends text rest place tokens so_far none = (
  so_far.pieces,
  subst (IsCut so_far.pieces text) (nil_from_length rest none) so_far.cut,
  λ i. so_far.tokens_are i ++ token_of (so_far.place_is i) End ∷ [],
)
