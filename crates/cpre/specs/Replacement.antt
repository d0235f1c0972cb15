-- What the names of macros are replaced by.
use Rattle.std.specs.Prelude.{ℕ, zero, suc, not, List, [], ◌∷◌, length, map, filter, flat_map, Option, option_and_then}
use Rattle.std.specs.Map.{lookup}
use Rattle.std.specs.Option.{option_map, option_map_or}
use Rattle.std.specs.Str.{bytes_eq}
use Rattle.csyn.specs.declared.span.Span.{Span}
use Rattle.csyn.specs.declared.token.Token.{Token}
use Rattle.csyn.specs.declared.token.TokenKind.{TokenKind}
use Rattle.cpre.specs.Directive.{name_of}

-- names, each with the tokens that it is replaced by
abbrev pub Macros : Type 0
Macros = List (List ℕ × List Token)

abbrev pub definition_of : Macros → List ℕ → Option (List Token)
definition_of macros name = lookup (bytes_eq name) macros

-- the macro that a token names: its name and its tokens
abbrev pub macro_of : Macros → TokenKind → Option (List ℕ × List Token)
macro_of macros kind = option_and_then (λ name. option_map (λ tokens. (name, tokens)) (definition_of macros name)) (name_of kind)

abbrev pub without : List ℕ → Macros → Macros
without name macros = filter (λ m. not (bytes_eq name m.0)) macros

-- the token at another place
abbrev pub at : Span → Token → Token
at span t = record { kind = t.kind; span = span; is_first_of_line = t.is_first_of_line }

-- A name is replaced by its macro's tokens, at its own place, and these by what they are replaced by where all macros but that
-- one may be. So there is a macro less at each depth, and no deeper one than there are macros.
unfoldable pub replaced : ℕ → Macros → Token → List Token
replaced zero macros t = t ∷ []
replaced (suc depth) macros t = option_map_or (λ m. flat_map (replaced depth (without m.0 macros)) (map (at t.span) m.1))
    (macro_of macros t.kind) (t ∷ [])

abbrev pub expanded : Macros → Token → List Token
expanded macros t = replaced (length macros) macros t
