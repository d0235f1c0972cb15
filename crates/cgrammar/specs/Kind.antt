-- What a token is for the grammar.
use Rattle.std.specs.Prelude.{ℕ, List, ◌||◌, if◌then◌else◌, codes}
use Rattle.std.specs.Str.{bytes_eq}
use Rattle.csyn.specs.declared.token.Token.{Token}
use Rattle.csyn.specs.declared.token.TokenKind.{TokenKind}
use Rattle.csyn.specs.declared.token.TokenKind.TheVariants as token
use Rattle.csyn.specs.declared.specifiers.StandardInteger.{StandardInteger}
use Rattle.csyn.specs.declared.specifiers.StandardInteger.TheVariants as standard
use Rattle.cgrammar.specs.declared.kind.Kind.{Kind}
use Rattle.cgrammar.specs.declared.kind.Kind.TheVariants as kind

-- three names are told apart
unfoldable pub name_kind : List ℕ → Kind
name_kind name = if bytes_eq name (codes "__R30") || bytes_eq name (codes "__R31") then kind.RegisterName
    else (if bytes_eq name (codes "location") then kind.LocationName else kind.Name)

abbrev pub standard_kind : StandardInteger → Kind
standard_kind standard.Uint32 = kind.Uint32
standard_kind _ = kind.Standard

abbrev pub token_kind : TokenKind → Kind
token_kind (token.Identifier name) = name_kind name
token_kind (token.Number _) = kind.Number
token_kind (token.Character _) = kind.Character
token_kind (token.Literal _) = kind.Literal
token_kind (token.Standard name) = standard_kind name
token_kind (token.Keyword keyword) = kind.Keyword keyword
token_kind (token.Punctuator punctuator) = kind.Punctuator punctuator
token_kind token.End = kind.End

abbrev pub kind_of : Token → Kind
kind_of token = token_kind token.kind
