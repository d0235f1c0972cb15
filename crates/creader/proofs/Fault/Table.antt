-- For each part a short text that it may be, and before which tokens that text ends it.
use Rattle.std.proofs.Common.{ℕ, List, [], ◌∷◌}
use Rattle.csyn.specs.declared.keyword.Keyword.{Keyword}
use Rattle.csyn.specs.declared.keyword.Keyword.TheVariants as keyword
use Rattle.csyn.specs.declared.punctuator.Punctuator.{Punctuator}
use Rattle.csyn.specs.declared.punctuator.Punctuator.TheVariants as punctuator
use Rattle.cgrammar.specs.declared.kind.Kind.{Kind}
use Rattle.cgrammar.specs.declared.kind.Kind.TheVariants as kind
use Rattle.cgrammar.specs.declared.production.Level.{Level}
use Rattle.cgrammar.specs.declared.production.Level.TheVariants as chain
use Rattle.cgrammar.specs.declared.terminal.Terminal.{Terminal}
use Rattle.cgrammar.specs.declared.terminal.Terminal.TheVariants as terminal
use Rattle.creader.specs.declared.part.Part.{Part}
use Rattle.creader.specs.declared.part.Part.TheVariants as part
use Rattle.creader.proofs.Complete.Reading.{Follow, only, all_but, extenders}

abbrev word : Keyword → Kind
word k = kind.Keyword k

abbrev sign : Punctuator → Kind
sign mark = kind.Punctuator mark

-- `x`, `x )`, `void`, `void x`, `void x ;`, `;`
abbrev name_kinds : List Kind
name_kinds = kind.Name ∷ []

abbrev closed_name : List Kind
closed_name = kind.Name ∷ sign punctuator.RightParenthesis ∷ []

abbrev void_kinds : List Kind
void_kinds = word keyword.Void ∷ []

abbrev void_name : List Kind
void_name = word keyword.Void ∷ kind.Name ∷ []

abbrev void_object : List Kind
void_object = word keyword.Void ∷ kind.Name ∷ sign punctuator.Semicolon ∷ []

abbrev semicolon : List Kind
semicolon = sign punctuator.Semicolon ∷ []

unfoldable pub short : Part → List Kind
short part.Expression = name_kinds
short part.Assignment = name_kinds
short part.AssignmentParenthesis = closed_name
short part.Conditional = name_kinds
short (part.Chain _) = name_kinds
short part.Operand = name_kinds
short part.OperandParenthesis = closed_name
short part.Unary = name_kinds
short part.SizeofOperand = name_kinds
short part.SizeofParenthesis = closed_name
short part.TypeName = void_kinds
short part.«Type» = void_kinds
short part.Base = void_kinds
short part.Declarator = name_kinds
short part.StructMember = void_object
short part.Init = name_kinds
short part.InitDeclarator = name_kinds
short part.Object = void_object
short part.Statement = semicolon
short part.ForFirst = semicolon
short part.Label = word keyword.Default ∷ sign punctuator.Colon ∷ []
short part.Unit = void_object
short part.AfterVolatile = void_object
short part.RegisterType = word keyword.Unsigned ∷ word keyword.Int ∷ []
short part.AfterTag = kind.Name ∷ semicolon
short part.ExternalRest = semicolon
short part.FunctionEnd = semicolon
short part.Parameter = void_name
short part.ParameterTail = name_kinds
short part.ParameterAfterStar = name_kinds
short part.ParameterLength = sign punctuator.RightBracket ∷ []
short _ = []

unfoldable pub level_number : Level → ℕ
level_number chain.Or = 3
level_number chain.And = 4
level_number chain.BitOr = 5
level_number chain.BitXor = 6
level_number chain.BitAnd = 7
level_number chain.Equality = 8
level_number chain.Relation = 9
level_number chain.Shift = 10
level_number chain.Sum = 11
level_number chain.Product = 12

abbrev mark : Punctuator → Terminal
mark m = terminal.Punctuator m

abbrev integer_words : List Terminal
integer_words = terminal.Sign ∷ terminal.Length ∷ terminal.Keyword keyword.Char ∷ terminal.Keyword keyword.Int ∷ []

abbrev only_parenthesis : Follow
only_parenthesis = only (mark punctuator.RightParenthesis ∷ [])

abbrev only_brace : Follow
only_brace = only (mark punctuator.RightBrace ∷ [])

abbrev only_semicolon : Follow
only_semicolon = only (mark punctuator.Semicolon ∷ [])

abbrev only_declared : Follow
only_declared = only (mark punctuator.Comma ∷ mark punctuator.Semicolon ∷ [])

abbrev only_parameter : Follow
only_parameter = only (mark punctuator.Comma ∷ mark punctuator.RightParenthesis ∷ [])

abbrev no_star : Follow
no_star = all_but (mark punctuator.Star ∷ terminal.Qualifier ∷ [])

abbrev no_bracket : Follow
no_bracket = all_but (mark punctuator.LeftBracket ∷ [])

abbrev no_else : Follow
no_else = all_but (terminal.Keyword keyword.Else ∷ [])

-- The tokens need not be all before which the part may end, but of those that follow a part some are among them.
unfoldable pub ends_before : Part → Follow
ends_before part.Expression = all_but (extenders 0)
ends_before part.CommaTail = all_but (extenders 0)
ends_before part.Assignment = all_but (extenders 1)
ends_before part.AssignmentTail = all_but (extenders 1)
ends_before part.AssignmentParenthesis = all_but (extenders 1)
ends_before part.Conditional = all_but (extenders 2)
ends_before part.ConditionalTail = all_but (extenders 2)
ends_before (part.Chain l) = all_but (extenders (level_number l))
ends_before (part.ChainTail l) = all_but (extenders (level_number l))
ends_before part.Operand = all_but (extenders 13)
ends_before part.OperandParenthesis = all_but (extenders 13)
ends_before part.Unary = all_but (extenders 13)
ends_before part.SizeofOperand = all_but (extenders 13)
ends_before part.SizeofParenthesis = all_but (extenders 13)
ends_before part.AfterName = all_but (extenders 13)
ends_before part.NameTail = all_but (extenders 13)
ends_before part.PostfixTail = all_but (extenders 13)
ends_before part.Arguments = only_parenthesis
ends_before part.MoreArguments = only_parenthesis
ends_before part.OptionalExpression = only (mark punctuator.Semicolon ∷ mark punctuator.RightParenthesis ∷ [])
ends_before part.TypeName = only_parenthesis
ends_before part.«Type» = all_but (terminal.Qualifier ∷ integer_words)
ends_before part.Base = all_but integer_words
ends_before (part.Words _) = all_but integer_words
ends_before part.Qualifiers = all_but (terminal.Qualifier ∷ [])
ends_before part.Pointers = no_star
ends_before part.StarsTail = no_star
ends_before part.AfterStar = no_star
ends_before part.PointersTail = no_star
ends_before part.AfterNextStar = no_star
ends_before part.Lengths = no_bracket
ends_before part.Declarator = no_bracket
ends_before part.MoreDeclarators = only_semicolon
ends_before part.MoreMembers = only_brace
ends_before part.Location = all_but (terminal.Keyword keyword.Attribute ∷ [])
ends_before part.Initial = only_declared
ends_before part.Init = only (mark punctuator.Comma ∷ mark punctuator.Semicolon ∷ mark punctuator.RightBrace ∷ [])
ends_before part.MoreInits = only_brace
ends_before part.AfterInitComma = only_brace
ends_before part.InitDeclarator = only_declared
ends_before part.MoreInitDeclarators = only_semicolon
ends_before part.Statement = no_else
ends_before part.OptionalElse = no_else
ends_before part.SwitchItems = only_brace
ends_before part.MoreSwitchItems = only_brace
ends_before part.Items = only_brace
ends_before part.Units = only (terminal.End ∷ [])
ends_before part.Parameters = only_parenthesis
ends_before part.AfterVoid = only_parenthesis
ends_before part.Parameter = only_parameter
ends_before part.ParameterTail = only_parameter
ends_before part.ParameterAfterStar = only_parameter
ends_before part.ParameterEnd = only_parameter
ends_before part.ParameterLength = only_parameter
ends_before part.MoreParameters = only_parenthesis
ends_before _ = all_but []

-- a kind of token that may stand where the terminal is wanted
unfoldable pub pick : Terminal → Kind
pick terminal.Name = kind.Name
pick terminal.RegisterName = kind.RegisterName
pick terminal.LocationName = kind.LocationName
pick terminal.Number = kind.Number
pick terminal.Character = kind.Character
pick terminal.Literal = kind.Literal
pick terminal.Standard = kind.Standard
pick terminal.Uint32 = kind.Uint32
pick terminal.Sign = word keyword.Unsigned
pick terminal.Length = word keyword.Short
pick terminal.Specifier = word keyword.Static
pick terminal.Qualifier = word keyword.Const
pick terminal.Prefix = sign punctuator.Minus
pick (terminal.Keyword k) = word k
pick (terminal.Punctuator m) = sign m
pick terminal.End = kind.End
pick terminal.Any = kind.Name
