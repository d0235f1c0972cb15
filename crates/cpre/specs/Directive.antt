-- Directives: their words, and the form of their lines.
use Rattle.std.specs.Prelude.{ℕ, ◌+◌, ◌==◌, Bool, true, false, ◌&&◌, if◌then◌else◌, List, [], ◌∷◌, length, Option, Some, None, map, codes}
use Rattle.std.specs.Str.{bytes_eq}
use Rattle.std.specs.Cmp.Lexicographic.{pointwise}
use denote.Enum.Bare.{sameb}
use Rattle.csyn.specs.contracts.specifiers.StandardInteger as integer_type
use Rattle.csyn.specs.contracts.keyword.Keyword as keyword_type
use Rattle.csyn.specs.contracts.punctuator.Punctuator as punctuator_type
use Rattle.csyn.specs.declared.specifiers.StandardInteger.{StandardInteger}
use Rattle.csyn.specs.declared.keyword.Keyword.{Keyword}
use Rattle.csyn.specs.declared.keyword.Keyword.TheVariants.{Else}
use Rattle.csyn.specs.declared.punctuator.Punctuator.{Punctuator}
use Rattle.csyn.specs.declared.punctuator.Punctuator.TheVariants.{LeftParenthesis, Less, Dot, Greater}
use Rattle.csyn.specs.declared.span.Span.{Span}
use Rattle.csyn.specs.declared.token.Token.{Token}
use Rattle.csyn.specs.declared.token.TokenKind.{TokenKind}
use Rattle.csyn.specs.declared.token.TokenKind.TheVariants as token
use Rattle.csyn.specs.Table.{spelled}
use Rattle.cpre.specs.declared.directive.Directive.{Directive}
use Rattle.cpre.specs.declared.directive.Directive.TheVariants as directive
use Rattle.cpre.specs.declared.table.TheConstants.{DIRECTIVES}

-- ---- words

-- the directive that is named so
unfoldable pub directive_named : List ℕ → Option Directive
directive_named = spelled (map (λ e. (e.0.now, e.1)) DIRECTIVES)

-- `else` is a keyword
abbrev pub directive_of_keyword : Keyword → Option Directive
directive_of_keyword Else = Some directive.Else
directive_of_keyword _ = None

abbrev pub directive_of_kind : TokenKind → Option Directive
directive_of_kind (token.Identifier name) = directive_named name
directive_of_kind (token.Keyword keyword) = directive_of_keyword keyword
directive_of_kind _ = None

-- which directive a line is, by the token behind its `#`
abbrev pub directive_of : List Token → Option Directive
directive_of [] = None
directive_of (word ∷ line) = directive_of_kind word.kind

-- ---- names

abbrev pub name_of : TokenKind → Option (List ℕ)
name_of (token.Identifier name) = Some name
name_of _ = None

-- the name that stands alone
abbrev pub name_alone : List Token → Option (List ℕ)
name_alone [] = None
name_alone (t ∷ []) = name_of t.kind
name_alone (t ∷ u ∷ line) = None

-- ---- definitions

abbrev pub is_parenthesis : Punctuator → Bool
is_parenthesis LeftParenthesis = true
is_parenthesis _ = false

abbrev pub is_left_parenthesis : TokenKind → Bool
is_left_parenthesis (token.Punctuator p) = is_parenthesis p
is_left_parenthesis _ = false

-- a `(` that touches the name which begins at the place
abbrev pub opens_parameters : Span → List ℕ → Token → Bool
opens_parameters place name t = is_left_parenthesis t.kind && (t.span.line == place.line) && (t.span.column == place.column + length name)

-- A `(` directly behind the name makes a macro with parameters.
abbrev pub without_parameters : Span → List ℕ → List Token → Option (List ℕ × List Token)
without_parameters place name [] = Some (name, [])
without_parameters place name (t ∷ tokens) = if opens_parameters place name t then None else Some (name, t ∷ tokens)

abbrev pub defined_as : Span → List Token → Option (List ℕ) → Option (List ℕ × List Token)
defined_as place tokens None = None
defined_as place tokens (Some name) = without_parameters place name tokens

-- behind `define`: the name, and the tokens that it is replaced by
abbrev pub definition : List Token → Option (List ℕ × List Token)
definition [] = None
definition (t ∷ tokens) = defined_as t.span tokens (name_of t.kind)

-- ---- headers

abbrev pub is_less_sign : Punctuator → Bool
is_less_sign Less = true
is_less_sign _ = false

abbrev pub is_less : TokenKind → Bool
is_less (token.Punctuator p) = is_less_sign p
is_less _ = false

abbrev pub is_dot_sign : Punctuator → Bool
is_dot_sign Dot = true
is_dot_sign _ = false

abbrev pub is_dot : TokenKind → Bool
is_dot (token.Punctuator p) = is_dot_sign p
is_dot _ = false

abbrev pub is_greater_sign : Punctuator → Bool
is_greater_sign Greater = true
is_greater_sign _ = false

abbrev pub is_greater : TokenKind → Bool
is_greater (token.Punctuator p) = is_greater_sign p
is_greater _ = false

abbrev pub is_name : List ℕ → TokenKind → Bool
is_name name (token.Identifier text) = bytes_eq text name
is_name name _ = false

-- `<stdint.h>`
abbrev pub is_stdint : List Token → Bool
is_stdint (less ∷ stdint ∷ dot ∷ h ∷ greater ∷ []) =
    is_less less.kind && is_name (codes "stdint") stdint.kind && is_dot dot.kind && is_name (codes "h") h.kind && is_greater greater.kind
is_stdint _ = false

-- ---- the same tokens

-- `==` on keywords, on punctuators, on type names
abbrev pub same_keyword : Keyword → Keyword → Bool
same_keyword = sameb keyword_type.the_type

abbrev pub same_punctuator : Punctuator → Punctuator → Bool
same_punctuator = sameb punctuator_type.the_type

abbrev pub same_integer : StandardInteger → StandardInteger → Bool
same_integer = sameb integer_type.the_type

-- two tokens have one spelling
abbrev pub is_spelled_alike : TokenKind → TokenKind → Bool
is_spelled_alike (token.Identifier a) (token.Identifier b) = bytes_eq a b
is_spelled_alike (token.Number a) (token.Number b) = bytes_eq a.spelling b.spelling
is_spelled_alike (token.Character a) (token.Character b) = bytes_eq a.spelling b.spelling
is_spelled_alike (token.Literal a) (token.Literal b) = bytes_eq a b
is_spelled_alike (token.Keyword a) (token.Keyword b) = same_keyword a b
is_spelled_alike (token.Punctuator a) (token.Punctuator b) = same_punctuator a b
is_spelled_alike (token.Standard a) (token.Standard b) = same_integer a b
is_spelled_alike token.End token.End = true
is_spelled_alike _ _ = false

abbrev pub are_same : List Token → List Token → Bool
are_same = pointwise (λ a b. is_spelled_alike a.kind b.kind)
