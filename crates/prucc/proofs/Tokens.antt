-- The end of a source: its last token is the end token, and no other is.
use Rattle.std.proofs.Common.{◌≡◌, ◌≢◌, ℕ, Bool, true, false, List, [], ◌∷◌, Option, Some, None, refl}
use Rattle.std.specs.Prelude.{All, if◌then◌else◌, codes, ◌||◌}
use Rattle.std.specs.Str.{bytes_eq}
use Rattle.std.proofs.lemmas.List.Elements.{All-nil, All-cons}
use Rattle.csyn.specs.declared.specifiers.StandardInteger.TheVariants as standard
use Rattle.csyn.specs.declared.token.Token.{Token}
use Rattle.csyn.specs.declared.token.TokenKind.{TokenKind}
use Rattle.csyn.specs.declared.token.TokenKind.TheVariants as token
use Rattle.clex.specs.declared.place.Place.{Place}
use Rattle.clex.specs.Spelling.{Writes}
use Rattle.clex.specs.Pieces.{Piece, Stands}
use Rattle.clex.specs.Text.{start, after_piece, token_of, tokens_from, place_after, IsCut, Spells}
use Rattle.cpre.specs.Line as line
use Rattle.cgrammar.specs.declared.kind.Kind.TheVariants as kind
use Rattle.cgrammar.specs.Kind.{name_kind, token_kind, kind_of}
use Rattle.creader.specs.Source.{EndsOnce}

-- ---- the tokens of a text

no_end : (k : TokenKind) (bytes : List ℕ) → Writes k bytes → line.is_end k ≡ false
no_end (token.Identifier name) bytes h = refl
no_end (token.Number n) bytes h = refl
no_end (token.Character c) bytes h = refl
no_end (token.Literal text) bytes h = refl
no_end (token.Keyword k) bytes h = refl
no_end (token.Punctuator p) bytes h = refl
no_end (token.Standard _) bytes h = refl
no_end token.End bytes h = absurd h

piece_no_end : (place : Place) (kind : Option TokenKind) (bytes behind : List ℕ) (pieces : List Piece)
    → Stands (record { kind = kind; bytes = bytes }) behind
    → ((next : Place) → line.NoEnd (tokens_from next pieces))
    → line.NoEnd (tokens_from place (record { kind = kind; bytes = bytes } ∷ pieces))
piece_no_end place None bytes behind pieces stands rest = rest (after_piece place (record { kind = None; bytes = bytes }))
piece_no_end place (Some k) bytes behind pieces stands rest =
    (no_end k bytes stands.0, rest (after_piece place (record { kind = Some k; bytes = bytes })))

none_ends : (place : Place) (pieces : List Piece) (text left : List ℕ) → IsCut pieces text left → line.NoEnd (tokens_from place pieces)
none_ends place [] text left h = tt
none_ends place (piece ∷ pieces) text left h = piece_no_end place piece.kind piece.bytes h.0 pieces h.2
    (λ next. none_ends next pieces h.0 left h.3)

pub written_ends : (tokens : List Token) (text : List ℕ) → Spells tokens text → line.EndsOnce tokens
written_ends tokens text h = (tokens_from start h.0, token_of (place_after start h.0) token.End, h.2, refl, none_ends start h.0 text [] h.1)

-- ---- an end token for the preprocessor is one for the grammar

choice_no_end : (b c : Bool) → (if b then kind.RegisterName else (if c then kind.LocationName else kind.Name)) ≢ kind.End
choice_no_end true c e = cc
choice_no_end false true e = cc
choice_no_end false false e = cc

name_no_end : (name : List ℕ) → name_kind name ≢ kind.End
unfolding name_kind
name_no_end name = choice_no_end (bytes_eq name (codes "__R30") || bytes_eq name (codes "__R31")) (bytes_eq name (codes "location"))

end_kind : (k : TokenKind) → line.is_end k ≡ true → token_kind k ≡ kind.End
end_kind (token.Identifier _) e = absurd cc
end_kind (token.Number _) e = absurd cc
end_kind (token.Character _) e = absurd cc
end_kind (token.Literal _) e = absurd cc
end_kind (token.Keyword _) e = absurd cc
end_kind (token.Punctuator _) e = absurd cc
end_kind (token.Standard _) e = absurd cc
end_kind token.End e = refl

other_kind : (k : TokenKind) → line.is_end k ≡ false → token_kind k ≢ kind.End
other_kind (token.Identifier name) e is = name_no_end name is
other_kind (token.Number _) e is = cc
other_kind (token.Character _) e is = cc
other_kind (token.Literal _) e is = cc
other_kind (token.Keyword _) e is = cc
other_kind (token.Punctuator _) e is = cc
other_kind (token.Standard standard.Int8) e is = cc
other_kind (token.Standard standard.Uint8) e is = cc
other_kind (token.Standard standard.Int16) e is = cc
other_kind (token.Standard standard.Uint16) e is = cc
other_kind (token.Standard standard.Int32) e is = cc
other_kind (token.Standard standard.Uint32) e is = cc
other_kind token.End e is = cc

abbrev IsBefore : Token → Type 0
IsBefore token = kind_of token ≢ kind.End

others : (body : List Token) → line.NoEnd body → All IsBefore body
others [] h = All-nil IsBefore
others (t ∷ body) h = All-cons IsBefore t body (other_kind t.kind h.0) (others body h.1)

pub ends_once : (tokens : List Token) → line.EndsOnce tokens → EndsOnce tokens
ends_once tokens h = (h.0, h.1, h.2, end_kind h.1.kind h.3, others h.0 h.4)
