-- A source as lines of directives and the tokens between them.
use Rattle.std.specs.Prelude.{◌≡◌, Bool, true, false, not, ◌&&◌, if◌then◌else◌, List, [], ◌∷◌, ◌++◌}
use Rattle.std.specs.List.{take_while}
use Rattle.csyn.specs.declared.punctuator.Punctuator.{Punctuator}
use Rattle.csyn.specs.declared.punctuator.Punctuator.TheVariants.{Hash}
use Rattle.csyn.specs.declared.span.Span.{Span}
use Rattle.csyn.specs.declared.token.Token.{Token}
use Rattle.csyn.specs.declared.token.TokenKind.{TokenKind}
use Rattle.csyn.specs.declared.token.TokenKind.TheVariants as token

abbrev pub is_hash_sign : Punctuator → Bool
is_hash_sign Hash = true
is_hash_sign _ = false

abbrev pub is_hash : TokenKind → Bool
is_hash (token.Punctuator p) = is_hash_sign p
is_hash _ = false

abbrev pub is_end : TokenKind → Bool
is_end token.End = true
is_end _ = false

-- A directive begins with a `#` that is the first token of its line.
abbrev pub begins : Token → Bool
begins t = t.is_first_of_line && is_hash t.kind

-- It stands on the line of the token before it.
abbrev pub goes_on : Token → Bool
goes_on t = not t.is_first_of_line && not (is_end t.kind)

pub data Item : Type 0 where
  -- a directive: the place of its `#`, and the tokens behind that on its line
  Line : Span → List Token → Item
  -- a token outside of directives
  Plain : Token → Item
  -- the end token
  End : Token → Item

-- The items of a source, or of what is left of it, where the first tokens may belong to the line of a directive before them. The
-- end token ends it.
abbrev pub items : Bool → List Token → List Item
items is_within [] = []
items is_within (t ∷ ts) =
    if is_within && goes_on t then items true ts
    else (if is_end t.kind then End t ∷ []
    else (if begins t then Line t.span (take_while goes_on ts) ∷ items true ts
    else Plain t ∷ items false ts))

-- ---- the end of a source

-- none of the tokens is an end token
abbrev pub NoEnd : List Token → Type 0
NoEnd [] = Unit {0}
NoEnd (t ∷ ts) = (is_end t.kind ≡ false) × NoEnd ts

-- the last token is the end token, and no other is
abbrev pub EndsOnce : List Token → Type 0
EndsOnce tokens = (body : List Token) × (end : Token) × (tokens ≡ body ++ end ∷ []) × (is_end end.kind ≡ true) × NoEnd body
