-- A token of each kind.
use Rattle.std.proofs.Common.{◌≡◌, false, List, [], map, codes, refl}
use Rattle.csyn.specs.declared.token.Token.{Token}
use Rattle.csyn.specs.declared.token.TokenKind.{TokenKind}
use Rattle.csyn.specs.declared.token.TokenKind.TheVariants as token
use Rattle.csyn.specs.declared.specifiers.StandardInteger.TheVariants as standard
use Rattle.cgrammar.specs.declared.kind.Kind.{Kind}
use Rattle.cgrammar.specs.declared.kind.Kind.TheVariants as kind
use Rattle.cgrammar.specs.Kind.{kind_of, name_kind}

token_at : TokenKind → Token
token_at k = record { kind = k; span = record { line = 1; column = 1 }; is_first_of_line = false }

pub sample : Kind → Token
sample kind.Name = token_at (token.Identifier (codes "x"))
sample kind.RegisterName = token_at (token.Identifier (codes "__R30"))
sample kind.LocationName = token_at (token.Identifier (codes "location"))
sample kind.Number = token_at (token.Number (record { spelling = codes "0"; value = 0; is_unsigned = false }))
sample kind.Character = token_at (token.Character (record { spelling = codes "'0'"; value = 48 }))
sample kind.Literal = token_at (token.Literal [])
sample kind.Standard = token_at (token.Standard standard.Int8)
sample kind.Uint32 = token_at (token.Standard standard.Uint32)
sample (kind.Keyword k) = token_at (token.Keyword k)
sample (kind.Punctuator m) = token_at (token.Punctuator m)
sample kind.End = token_at token.End

pub kind-sample : (k : Kind) → kind_of (sample k) ≡ k
unfolding sample token_at name_kind
kind-sample kind.Name = refl
kind-sample _ = refl

-- a token of each of these kinds
abbrev pub samples : List Kind → List Token
samples kinds = map sample kinds
