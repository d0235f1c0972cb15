-- What may stand at the place of a token.
use Rattle.std.specs.Prelude.{ℕ, Bool, true, false, ◌||◌, nat_eq}
use Rattle.csyn.specs.declared.keyword.Keyword.{Keyword}
use Rattle.csyn.specs.declared.keyword.Keyword.TheVariants as keyword
use Rattle.csyn.specs.declared.punctuator.Punctuator.{Punctuator}
use Rattle.csyn.specs.declared.punctuator.Punctuator.TheVariants as punctuator
use Rattle.cgrammar.specs.declared.kind.Kind.{Kind}
use Rattle.cgrammar.specs.declared.kind.Kind.TheVariants as kind
use Rattle.cgrammar.specs.declared.terminal.Terminal.{Terminal}
use Rattle.cgrammar.specs.declared.terminal.Terminal.TheVariants as terminal

-- keywords and punctuators are told apart by their numbers
unfoldable pub keyword_number : Keyword → ℕ
keyword_number keyword.Attribute = 0
keyword_number keyword.Auto = 1
keyword_number keyword.Boolean = 2
keyword_number keyword.Break = 3
keyword_number keyword.Case = 4
keyword_number keyword.Char = 5
keyword_number keyword.Complex = 6
keyword_number keyword.Const = 7
keyword_number keyword.Continue = 8
keyword_number keyword.Default = 9
keyword_number keyword.Do = 10
keyword_number keyword.Double = 11
keyword_number keyword.Else = 12
keyword_number keyword.Enum = 13
keyword_number keyword.Extern = 14
keyword_number keyword.Float = 15
keyword_number keyword.For = 16
keyword_number keyword.Goto = 17
keyword_number keyword.If = 18
keyword_number keyword.Imaginary = 19
keyword_number keyword.Inline = 20
keyword_number keyword.Int = 21
keyword_number keyword.Long = 22
keyword_number keyword.Region = 23
keyword_number keyword.Register = 24
keyword_number keyword.Restrict = 25
keyword_number keyword.Return = 26
keyword_number keyword.Short = 27
keyword_number keyword.Signed = 28
keyword_number keyword.Sizeof = 29
keyword_number keyword.Static = 30
keyword_number keyword.Struct = 31
keyword_number keyword.Switch = 32
keyword_number keyword.Typedef = 33
keyword_number keyword.Union = 34
keyword_number keyword.Unsigned = 35
keyword_number keyword.Void = 36
keyword_number keyword.Volatile = 37
keyword_number keyword.While = 38

unfoldable pub punctuator_number : Punctuator → ℕ
punctuator_number punctuator.ShiftLeftAssign = 0
punctuator_number punctuator.ShiftRightAssign = 1
punctuator_number punctuator.Arrow = 2
punctuator_number punctuator.Increment = 3
punctuator_number punctuator.Decrement = 4
punctuator_number punctuator.ShiftLeft = 5
punctuator_number punctuator.ShiftRight = 6
punctuator_number punctuator.LessEqual = 7
punctuator_number punctuator.GreaterEqual = 8
punctuator_number punctuator.Equal = 9
punctuator_number punctuator.NotEqual = 10
punctuator_number punctuator.LogicalAnd = 11
punctuator_number punctuator.LogicalOr = 12
punctuator_number punctuator.MultiplyAssign = 13
punctuator_number punctuator.DivideAssign = 14
punctuator_number punctuator.RemainderAssign = 15
punctuator_number punctuator.AddAssign = 16
punctuator_number punctuator.SubtractAssign = 17
punctuator_number punctuator.AndAssign = 18
punctuator_number punctuator.XorAssign = 19
punctuator_number punctuator.OrAssign = 20
punctuator_number punctuator.LeftBracket = 21
punctuator_number punctuator.RightBracket = 22
punctuator_number punctuator.LeftParenthesis = 23
punctuator_number punctuator.RightParenthesis = 24
punctuator_number punctuator.LeftBrace = 25
punctuator_number punctuator.RightBrace = 26
punctuator_number punctuator.Dot = 27
punctuator_number punctuator.Ampersand = 28
punctuator_number punctuator.Star = 29
punctuator_number punctuator.Plus = 30
punctuator_number punctuator.Minus = 31
punctuator_number punctuator.Tilde = 32
punctuator_number punctuator.Exclamation = 33
punctuator_number punctuator.Slash = 34
punctuator_number punctuator.Percent = 35
punctuator_number punctuator.Less = 36
punctuator_number punctuator.Greater = 37
punctuator_number punctuator.Caret = 38
punctuator_number punctuator.Bar = 39
punctuator_number punctuator.Question = 40
punctuator_number punctuator.Colon = 41
punctuator_number punctuator.Semicolon = 42
punctuator_number punctuator.Assign = 43
punctuator_number punctuator.Comma = 44
punctuator_number punctuator.Hash = 45

abbrev pub is_keyword : Keyword → Kind → Bool
is_keyword wanted (kind.Keyword keyword) = nat_eq (keyword_number wanted) (keyword_number keyword)
is_keyword wanted _ = false

abbrev pub is_punctuator : Punctuator → Kind → Bool
is_punctuator wanted (kind.Punctuator punctuator) = nat_eq (punctuator_number wanted) (punctuator_number punctuator)
is_punctuator wanted _ = false

abbrev pub is_name : Kind → Bool
is_name kind.Name = true
is_name kind.RegisterName = true
is_name kind.LocationName = true
is_name _ = false

abbrev pub is_register : Kind → Bool
is_register kind.RegisterName = true
is_register _ = false

abbrev pub is_location : Kind → Bool
is_location kind.LocationName = true
is_location _ = false

abbrev pub is_number : Kind → Bool
is_number kind.Number = true
is_number _ = false

abbrev pub is_character : Kind → Bool
is_character kind.Character = true
is_character _ = false

abbrev pub is_literal : Kind → Bool
is_literal kind.Literal = true
is_literal _ = false

abbrev pub is_standard : Kind → Bool
is_standard kind.Standard = true
is_standard kind.Uint32 = true
is_standard _ = false

abbrev pub is_uint32 : Kind → Bool
is_uint32 kind.Uint32 = true
is_uint32 _ = false

abbrev pub is_end : Kind → Bool
is_end kind.End = true
is_end _ = false

abbrev pub is_sign : Kind → Bool
is_sign kind = is_keyword keyword.Signed kind || is_keyword keyword.Unsigned kind

abbrev pub is_length : Kind → Bool
is_length kind = is_keyword keyword.Short kind || is_keyword keyword.Long kind

abbrev pub is_qualifier : Kind → Bool
is_qualifier kind = is_keyword keyword.Const kind || is_keyword keyword.Volatile kind

abbrev pub is_specifier : Kind → Bool
is_specifier kind = is_qualifier kind || (is_keyword keyword.Static kind || is_keyword keyword.Inline kind)

abbrev pub is_prefix : Kind → Bool
is_prefix kind = is_punctuator punctuator.Plus kind || (is_punctuator punctuator.Minus kind || (is_punctuator punctuator.Exclamation kind
    || (is_punctuator punctuator.Tilde kind || (is_punctuator punctuator.Star kind || is_punctuator punctuator.Ampersand kind))))

unfoldable pub accepts : Terminal → Kind → Bool
accepts terminal.Name kind = is_name kind
accepts terminal.RegisterName kind = is_register kind
accepts terminal.LocationName kind = is_location kind
accepts terminal.Number kind = is_number kind
accepts terminal.Character kind = is_character kind
accepts terminal.Literal kind = is_literal kind
accepts terminal.Standard kind = is_standard kind
accepts terminal.Uint32 kind = is_uint32 kind
accepts terminal.Sign kind = is_sign kind
accepts terminal.Length kind = is_length kind
accepts terminal.Specifier kind = is_specifier kind
accepts terminal.Qualifier kind = is_qualifier kind
accepts terminal.Prefix kind = is_prefix kind
accepts (terminal.Keyword wanted) kind = is_keyword wanted kind
accepts (terminal.Punctuator wanted) kind = is_punctuator wanted kind
accepts terminal.End kind = is_end kind
accepts terminal.Any kind = true
