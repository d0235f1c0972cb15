-- The type names of <stdint.h>.
use Rattle.std.specs.Prelude.{ℕ, Bool, if◌then◌else◌, List, Option, Some, None, map}
use Rattle.csyn.specs.declared.specifiers.StandardInteger.{StandardInteger}
use Rattle.csyn.specs.declared.token.Token.{Token}
use Rattle.csyn.specs.declared.token.TokenKind.{TokenKind}
use Rattle.csyn.specs.declared.token.TokenKind.TheVariants as token
use Rattle.csyn.specs.Table.{spelled}
use Rattle.cpre.specs.declared.table.TheConstants.{STANDARD_INTEGERS}

-- the type that is named so
unfoldable pub standard_named : List ℕ → Option StandardInteger
standard_named = spelled (map (λ e. (e.0.now, e.1)) STANDARD_INTEGERS)

abbrev pub type_or_name : List ℕ → Option StandardInteger → TokenKind
type_or_name name None = token.Identifier name
type_or_name name (Some integer) = token.Standard integer

-- Behind the include the six names are type names, elsewhere identifiers.
abbrev pub typed_name : Bool → List ℕ → TokenKind
typed_name is_included name = if is_included then type_or_name name (standard_named name) else token.Identifier name

abbrev pub typed_kind : Bool → TokenKind → TokenKind
typed_kind is_included (token.Identifier name) = typed_name is_included name
typed_kind is_included kind = kind

abbrev pub typed : Bool → Token → Token
typed is_included t = record { kind = typed_kind is_included t.kind; span = t.span; is_first_of_line = t.is_first_of_line }
