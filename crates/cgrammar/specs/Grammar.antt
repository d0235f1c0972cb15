-- The productions of the grammar (C99 6.5 to 6.9, in this project's subset): of which class each is, and what stands on its right
-- side.
use Rattle.std.specs.Prelude.{ℕ, ◌+◌, Bool, true, false, ◌||◌, nat_eq, nat_le, List, [], ◌∷◌}
use Rattle.csyn.specs.declared.keyword.Keyword.{Keyword}
use Rattle.csyn.specs.declared.keyword.Keyword.TheVariants as keyword
use Rattle.csyn.specs.declared.punctuator.Punctuator.{Punctuator}
use Rattle.csyn.specs.declared.punctuator.Punctuator.TheVariants as punctuator
use Rattle.csyn.specs.declared.operator.BinaryOperator.{BinaryOperator}
use Rattle.csyn.specs.declared.operator.BinaryOperator.TheVariants as operator
use Rattle.csyn.specs.declared.operator.ComparisonOperator.{ComparisonOperator}
use Rattle.csyn.specs.declared.operator.ComparisonOperator.TheVariants as comparison
use Rattle.csyn.specs.declared.operator.LogicalOperator.{LogicalOperator}
use Rattle.csyn.specs.declared.operator.LogicalOperator.TheVariants as logical
use Rattle.cgrammar.specs.declared.terminal.Terminal.{Terminal}
use Rattle.cgrammar.specs.declared.terminal.Terminal.TheVariants as terminal
use Rattle.cgrammar.specs.declared.production.Word.{Word}
use Rattle.cgrammar.specs.declared.production.Word.TheVariants as kind
use Rattle.cgrammar.specs.declared.production.Words.{Words}
use Rattle.cgrammar.specs.declared.production.Words.TheVariants as every
use Rattle.cgrammar.specs.declared.production.Production.{Production}
use Rattle.cgrammar.specs.declared.production.Production.TheVariants as make

-- What a part of a source may be. An expression has a level: 0 comma, 1 assignment, 2 conditional, 3 to 12 operators between two
-- operands, 13 cast, 14 prefix, 15 postfix and primary.
pub data Class : Type 0 where
  level : ℕ → Class
  -- an expression of level 15 that is no bare name
  callee : Class
  -- the words of an integer type
  words : Words → Class
  -- pointers without qualifiers, and pointers with some
  stars : Class
  qualified : Class
  -- the others
  identifier : Class
  arguments : Class
  more_arguments : Class
  optional_expression : Class
  type_name : Class
  type : Class
  base : Class
  integer : Class
  qualifiers : Class
  pointers : Class
  lengths : Class
  declarator : Class
  more_declarators : Class
  member : Class
  more_members : Class
  location : Class
  initial : Class
  init : Class
  more_inits : Class
  after_init_comma : Class
  init_declarator : Class
  more_init_declarators : Class
  object : Class
  statement : Class
  optional_else : Class
  for_first : Class
  region_name : Class
  items : Class
  label : Class
  -- what stands in the braces of a switch, and what stands there behind a label
  switch_items : Class
  more_switch_items : Class
  units : Class
  unit : Class
  register_type : Class
  external_rest : Class
  function_end : Class
  parameters : Class
  parameter : Class
  more_parameters : Class
  source : Class
  -- one qualifier or more
  some_qualifiers : Class
  -- of no part
  nothing : Class

-- what may stand at a place of a right side
pub data Piece : Type 0 where
  token : Terminal → Piece
  part : Class → Piece

abbrev pub word : Keyword → Piece
word keyword = token (terminal.Keyword keyword)

abbrev pub sign : Punctuator → Piece
sign punctuator = token (terminal.Punctuator punctuator)

unfoldable pub words_number : Words → ℕ
words_number every.Sign = 0
words_number every.Char = 1
words_number every.Length = 2
words_number every.Int = 3
words_number every.SignChar = 4
words_number every.SignLength = 5
words_number every.SignInt = 6
words_number every.LengthInt = 7
words_number every.SignLengthInt = 8

-- classes are told apart by their numbers
unfoldable pub class_number : Class → ℕ
class_number (level n) = 100 + n
class_number callee = 0
class_number (words w) = 80 + words_number w
class_number stars = 1
class_number qualified = 2
class_number identifier = 3
class_number arguments = 4
class_number more_arguments = 5
class_number optional_expression = 6
class_number type_name = 7
class_number type = 8
class_number base = 9
class_number integer = 10
class_number qualifiers = 11
class_number pointers = 12
class_number lengths = 13
class_number declarator = 14
class_number more_declarators = 15
class_number member = 16
class_number more_members = 17
class_number location = 18
class_number initial = 19
class_number init = 20
class_number more_inits = 21
class_number after_init_comma = 22
class_number init_declarator = 23
class_number more_init_declarators = 24
class_number object = 25
class_number statement = 26
class_number optional_else = 27
class_number for_first = 28
class_number region_name = 29
class_number items = 30
class_number units = 31
class_number unit = 32
class_number register_type = 33
class_number external_rest = 34
class_number function_end = 35
class_number parameters = 36
class_number parameter = 37
class_number more_parameters = 38
class_number source = 39
class_number nothing = 40
class_number some_qualifiers = 41
class_number label = 42
class_number switch_items = 43
class_number more_switch_items = 44

-- a tighter expression stands where a looser one may, but not the other way round
unfoldable pub is_wider : Class → Class → Bool
is_wider (level m) (level n) = nat_le n m
is_wider callee (level n) = nat_le n 15
is_wider (words _) integer = true
is_wider some_qualifiers qualifiers = true
is_wider stars pointers = true
is_wider qualified pointers = true
is_wider _ _ = false

-- what is of the first class may stand where the second is wanted
unfoldable pub under : Class → Class → Bool
under class wanted = nat_eq (class_number class) (class_number wanted) || is_wider class wanted

-- C99 6.5.5 to 6.5.7, 6.5.10 to 6.5.12
unfoldable pub operator_level : BinaryOperator → ℕ
operator_level operator.Multiply = 12
operator_level operator.Divide = 12
operator_level operator.Remainder = 12
operator_level operator.Add = 11
operator_level operator.Subtract = 11
operator_level operator.ShiftLeft = 10
operator_level operator.ShiftRight = 10
operator_level operator.BitAnd = 7
operator_level operator.BitXor = 6
operator_level operator.BitOr = 5

-- C99 6.5.8 and 6.5.9
unfoldable pub comparison_level : ComparisonOperator → ℕ
comparison_level comparison.Less = 9
comparison_level comparison.Greater = 9
comparison_level comparison.LessEqual = 9
comparison_level comparison.GreaterEqual = 9
comparison_level comparison.Equal = 8
comparison_level comparison.NotEqual = 8

-- C99 6.5.13 and 6.5.14
unfoldable pub logical_level : LogicalOperator → ℕ
logical_level logical.And = 4
logical_level logical.Or = 3

unfoldable pub operator_token : BinaryOperator → Terminal
operator_token operator.Multiply = terminal.Punctuator punctuator.Star
operator_token operator.Divide = terminal.Punctuator punctuator.Slash
operator_token operator.Remainder = terminal.Punctuator punctuator.Percent
operator_token operator.Add = terminal.Punctuator punctuator.Plus
operator_token operator.Subtract = terminal.Punctuator punctuator.Minus
operator_token operator.ShiftLeft = terminal.Punctuator punctuator.ShiftLeft
operator_token operator.ShiftRight = terminal.Punctuator punctuator.ShiftRight
operator_token operator.BitAnd = terminal.Punctuator punctuator.Ampersand
operator_token operator.BitXor = terminal.Punctuator punctuator.Caret
operator_token operator.BitOr = terminal.Punctuator punctuator.Bar

unfoldable pub comparison_token : ComparisonOperator → Terminal
comparison_token comparison.Less = terminal.Punctuator punctuator.Less
comparison_token comparison.Greater = terminal.Punctuator punctuator.Greater
comparison_token comparison.LessEqual = terminal.Punctuator punctuator.LessEqual
comparison_token comparison.GreaterEqual = terminal.Punctuator punctuator.GreaterEqual
comparison_token comparison.Equal = terminal.Punctuator punctuator.Equal
comparison_token comparison.NotEqual = terminal.Punctuator punctuator.NotEqual

unfoldable pub logical_token : LogicalOperator → Terminal
logical_token logical.And = terminal.Punctuator punctuator.LogicalAnd
logical_token logical.Or = terminal.Punctuator punctuator.LogicalOr

-- of an assignment that does an operator on the way (C99 6.5.16.2)
unfoldable pub assignment_token : BinaryOperator → Terminal
assignment_token operator.Multiply = terminal.Punctuator punctuator.MultiplyAssign
assignment_token operator.Divide = terminal.Punctuator punctuator.DivideAssign
assignment_token operator.Remainder = terminal.Punctuator punctuator.RemainderAssign
assignment_token operator.Add = terminal.Punctuator punctuator.AddAssign
assignment_token operator.Subtract = terminal.Punctuator punctuator.SubtractAssign
assignment_token operator.ShiftLeft = terminal.Punctuator punctuator.ShiftLeftAssign
assignment_token operator.ShiftRight = terminal.Punctuator punctuator.ShiftRightAssign
assignment_token operator.BitAnd = terminal.Punctuator punctuator.AndAssign
assignment_token operator.BitXor = terminal.Punctuator punctuator.XorAssign
assignment_token operator.BitOr = terminal.Punctuator punctuator.OrAssign

unfoldable pub word_token : Word → Terminal
word_token kind.Sign = terminal.Sign
word_token kind.Char = terminal.Keyword keyword.Char
word_token kind.Length = terminal.Length
word_token kind.Int = terminal.Keyword keyword.Int

unfoldable pub alone : Word → Words
alone kind.Sign = every.Sign
alone kind.Char = every.Char
alone kind.Length = every.Length
alone kind.Int = every.Int

-- the words without the last one of them, where it can be the last of several
unfoldable pub before : Words → Word → Class
before every.SignChar kind.Char = words every.Sign
before every.SignLength kind.Length = words every.Sign
before every.SignInt kind.Int = words every.Sign
before every.SignChar kind.Sign = words every.Char
before every.SignLength kind.Sign = words every.Length
before every.LengthInt kind.Int = words every.Length
before every.SignInt kind.Sign = words every.Int
before every.LengthInt kind.Length = words every.Int
before every.SignLengthInt kind.Int = words every.SignLength
before every.SignLengthInt kind.Length = words every.SignInt
before every.SignLengthInt kind.Sign = words every.LengthInt
before _ _ = nothing

-- the words with the last one of them, where it can be the last of several
unfoldable pub joined : Words → Word → Class
joined every.SignChar kind.Char = words every.SignChar
joined every.SignLength kind.Length = words every.SignLength
joined every.SignInt kind.Int = words every.SignInt
joined every.SignChar kind.Sign = words every.SignChar
joined every.SignLength kind.Sign = words every.SignLength
joined every.LengthInt kind.Int = words every.LengthInt
joined every.SignInt kind.Sign = words every.SignInt
joined every.LengthInt kind.Length = words every.LengthInt
joined every.SignLengthInt kind.Int = words every.SignLengthInt
joined every.SignLengthInt kind.Length = words every.SignLengthInt
joined every.SignLengthInt kind.Sign = words every.SignLengthInt
joined _ _ = nothing

-- of which class a production makes a part
unfoldable pub home : Production → Class
home make.Identifier = identifier
home make.Name = level 15
home make.Number = callee
home make.Character = callee
home make.Parenthesised = callee
home make.Index = callee
home make.CallFunction = callee
home make.Call = callee
home make.Member = callee
home make.Arrow = callee
home make.PostIncrement = callee
home make.PostDecrement = callee
home make.PreIncrement = level 14
home make.PreDecrement = level 14
home make.Prefix = level 14
home make.SizeofExpression = level 14
home make.SizeofType = level 14
home make.Cast = level 13
home (make.Binary o) = level (operator_level o)
home (make.Comparison o) = level (comparison_level o)
home (make.Logical o) = level (logical_level o)
home make.Conditional = level 2
home make.Assign = level 1
home (make.AssignWith _) = level 1
home make.Comma = level 0
home make.NoArguments = arguments
home make.SomeArguments = arguments
home make.EndArguments = more_arguments
home make.NextArgument = more_arguments
home make.NoExpression = optional_expression
home make.SomeExpression = optional_expression
home make.TypeName = type_name
home make.Specified = type
home make.Based = type
home make.NoQualifiers = qualifiers
home make.Qualified = some_qualifiers
home make.VoidBase = base
home make.StructBase = base
home make.StandardBase = base
home make.IntegerBase = base
home (make.FirstWord w) = words (alone w)
home (make.NextWord all w) = joined all w
home make.NoPointers = stars
home make.Star = stars
home make.QualifiedPointer = qualified
home make.NextPointer = qualified
home make.NoLengths = lengths
home make.Length = lengths
home make.Declarator = declarator
home make.EndDeclarators = more_declarators
home make.NextDeclarator = more_declarators
home make.StructMember = member
home make.EndMembers = more_members
home make.NextMember = more_members
home make.NoLocation = location
home make.Location = location
home make.NoInitial = initial
home make.Initial = initial
home make.InitialExpression = init
home make.Braced = init
home make.EndInits = more_inits
home make.CommaInits = more_inits
home make.TrailingComma = after_init_comma
home make.NextInit = after_init_comma
home make.InitDeclarator = init_declarator
home make.EndInitDeclarators = more_init_declarators
home make.NextInitDeclarator = more_init_declarators
home make.LocalObject = object
home make.Block = statement
home make.ExpressionStatement = statement
home make.If = statement
home make.NoElse = optional_else
home make.Else = optional_else
home make.While = statement
home make.Do = statement
home make.ForObject = for_first
home make.ForExpression = for_first
home make.For = statement
home make.Switch = statement
home make.NoSwitchItems = switch_items
home make.FirstLabel = switch_items
home make.EndSwitchItems = more_switch_items
home make.NextLabel = more_switch_items
home make.NextSwitchStatement = more_switch_items
home make.CaseLabel = label
home make.DefaultLabel = label
home make.Break = statement
home make.Continue = statement
home make.Return = statement
home make.RegionName = region_name
home make.Region = statement
home make.EndItems = items
home make.NextObject = items
home make.NextStatement = items
home make.StructUnit = unit
home make.RegisterUnit = unit
home make.UnsignedInt = register_type
home make.RegisterUint32 = register_type
home make.External = unit
home make.ObjectRest = external_rest
home make.FunctionRest = external_rest
home make.PrototypeEnd = function_end
home make.FunctionBody = function_end
home make.NoParameters = parameters
home make.VoidParameters = parameters
home make.SomeParameters = parameters
home make.Parameter = parameter
home make.ArrayParameter = parameter
home make.EndParameters = more_parameters
home make.NextParameter = more_parameters
home make.EndUnits = units
home make.NextUnit = units
home make.Source = source

-- the right side of each production
unfoldable pub template : Production → List Piece
template make.Identifier = token terminal.Name ∷ []
template make.Name = part identifier ∷ []
template make.Number = token terminal.Number ∷ []
template make.Character = token terminal.Character ∷ []
template make.Parenthesised = sign punctuator.LeftParenthesis ∷ part (level 0) ∷ sign punctuator.RightParenthesis ∷ []
template make.Index = part (level 15) ∷ sign punctuator.LeftBracket ∷ part (level 0) ∷ sign punctuator.RightBracket ∷ []
template make.CallFunction = part identifier ∷ sign punctuator.LeftParenthesis ∷ part arguments ∷ sign punctuator.RightParenthesis ∷ []
template make.Call = part callee ∷ sign punctuator.LeftParenthesis ∷ part arguments ∷ sign punctuator.RightParenthesis ∷ []
template make.Member = part (level 15) ∷ sign punctuator.Dot ∷ part identifier ∷ []
template make.Arrow = part (level 15) ∷ sign punctuator.Arrow ∷ part identifier ∷ []
template make.PostIncrement = part (level 15) ∷ sign punctuator.Increment ∷ []
template make.PostDecrement = part (level 15) ∷ sign punctuator.Decrement ∷ []
template make.PreIncrement = sign punctuator.Increment ∷ part (level 14) ∷ []
template make.PreDecrement = sign punctuator.Decrement ∷ part (level 14) ∷ []
template make.Prefix = token terminal.Prefix ∷ part (level 13) ∷ []
template make.SizeofExpression = word keyword.Sizeof ∷ part (level 14) ∷ []
template make.SizeofType = word keyword.Sizeof ∷ sign punctuator.LeftParenthesis ∷ part type_name ∷ sign punctuator.RightParenthesis ∷ []
template make.Cast = sign punctuator.LeftParenthesis ∷ part type_name ∷ sign punctuator.RightParenthesis ∷ part (level 13) ∷ []
template (make.Binary o) = part (level (operator_level o)) ∷ token (operator_token o) ∷ part (level (operator_level o + 1)) ∷ []
template (make.Comparison o) = part (level (comparison_level o)) ∷ token (comparison_token o) ∷ part (level (comparison_level o + 1)) ∷ []
template (make.Logical o) = part (level (logical_level o)) ∷ token (logical_token o) ∷ part (level (logical_level o + 1)) ∷ []
template make.Conditional = part (level 3) ∷ sign punctuator.Question ∷ part (level 0) ∷ sign punctuator.Colon ∷ part (level 2) ∷ []
template make.Assign = part (level 14) ∷ sign punctuator.Assign ∷ part (level 1) ∷ []
template (make.AssignWith o) = part (level 14) ∷ token (assignment_token o) ∷ part (level 1) ∷ []
template make.Comma = part (level 0) ∷ sign punctuator.Comma ∷ part (level 1) ∷ []
template make.NoArguments = []
template make.SomeArguments = part (level 1) ∷ part more_arguments ∷ []
template make.EndArguments = []
template make.NextArgument = sign punctuator.Comma ∷ part (level 1) ∷ part more_arguments ∷ []
template make.NoExpression = []
template make.SomeExpression = part (level 0) ∷ []
template make.TypeName = part type ∷ part pointers ∷ []
template make.Specified = token terminal.Specifier ∷ part type ∷ []
template make.Based = part base ∷ part qualifiers ∷ []
template make.NoQualifiers = []
template make.Qualified = token terminal.Qualifier ∷ part qualifiers ∷ []
template make.VoidBase = word keyword.Void ∷ []
template make.StructBase = word keyword.Struct ∷ part identifier ∷ []
template make.StandardBase = token terminal.Standard ∷ []
template make.IntegerBase = part integer ∷ []
template (make.FirstWord w) = token (word_token w) ∷ []
template (make.NextWord all w) = part (before all w) ∷ token (word_token w) ∷ []
template make.NoPointers = []
template make.Star = part stars ∷ sign punctuator.Star ∷ []
template make.QualifiedPointer = part pointers ∷ sign punctuator.Star ∷ part some_qualifiers ∷ []
template make.NextPointer = part qualified ∷ sign punctuator.Star ∷ []
template make.NoLengths = []
template make.Length = sign punctuator.LeftBracket ∷ part (level 0) ∷ sign punctuator.RightBracket ∷ part lengths ∷ []
template make.Declarator = part pointers ∷ part identifier ∷ part lengths ∷ []
template make.EndDeclarators = []
template make.NextDeclarator = sign punctuator.Comma ∷ part declarator ∷ part more_declarators ∷ []
template make.StructMember = part type ∷ part declarator ∷ part more_declarators ∷ sign punctuator.Semicolon ∷ []
template make.EndMembers = []
template make.NextMember = part member ∷ part more_members ∷ []
template make.NoLocation = []
template make.Location = word keyword.Attribute ∷ sign punctuator.LeftParenthesis ∷ sign punctuator.LeftParenthesis
    ∷ token terminal.LocationName ∷ sign punctuator.LeftParenthesis ∷ part (level 0) ∷ sign punctuator.RightParenthesis
    ∷ sign punctuator.RightParenthesis ∷ sign punctuator.RightParenthesis ∷ []
template make.NoInitial = []
template make.Initial = sign punctuator.Assign ∷ part init ∷ []
template make.InitialExpression = part (level 1) ∷ []
template make.Braced = sign punctuator.LeftBrace ∷ part init ∷ part more_inits ∷ sign punctuator.RightBrace ∷ []
template make.EndInits = []
template make.CommaInits = sign punctuator.Comma ∷ part after_init_comma ∷ []
template make.TrailingComma = []
template make.NextInit = part init ∷ part more_inits ∷ []
template make.InitDeclarator = part declarator ∷ part location ∷ part initial ∷ []
template make.EndInitDeclarators = []
template make.NextInitDeclarator = sign punctuator.Comma ∷ part init_declarator ∷ part more_init_declarators ∷ []
template make.LocalObject = part type ∷ part init_declarator ∷ part more_init_declarators ∷ sign punctuator.Semicolon ∷ []
template make.Block = sign punctuator.LeftBrace ∷ part items ∷ sign punctuator.RightBrace ∷ []
template make.ExpressionStatement = part optional_expression ∷ sign punctuator.Semicolon ∷ []
template make.If = word keyword.If ∷ sign punctuator.LeftParenthesis ∷ part (level 0) ∷ sign punctuator.RightParenthesis
    ∷ part statement ∷ part optional_else ∷ []
template make.NoElse = []
template make.Else = word keyword.Else ∷ part statement ∷ []
template make.While = word keyword.While ∷ sign punctuator.LeftParenthesis ∷ part (level 0) ∷ sign punctuator.RightParenthesis
    ∷ part statement ∷ []
template make.Do = word keyword.Do ∷ part statement ∷ word keyword.While ∷ sign punctuator.LeftParenthesis ∷ part (level 0)
    ∷ sign punctuator.RightParenthesis ∷ sign punctuator.Semicolon ∷ []
template make.ForObject = part object ∷ []
template make.ForExpression = part optional_expression ∷ sign punctuator.Semicolon ∷ []
template make.For = word keyword.For ∷ sign punctuator.LeftParenthesis ∷ part for_first ∷ part optional_expression
    ∷ sign punctuator.Semicolon ∷ part optional_expression ∷ sign punctuator.RightParenthesis ∷ part statement ∷ []
template make.Switch = word keyword.Switch ∷ sign punctuator.LeftParenthesis ∷ part (level 0) ∷ sign punctuator.RightParenthesis
    ∷ sign punctuator.LeftBrace ∷ part switch_items ∷ sign punctuator.RightBrace ∷ []
template make.NoSwitchItems = []
template make.FirstLabel = part label ∷ part more_switch_items ∷ []
template make.EndSwitchItems = []
template make.NextLabel = part label ∷ part more_switch_items ∷ []
template make.NextSwitchStatement = part statement ∷ part more_switch_items ∷ []
template make.CaseLabel = word keyword.Case ∷ part (level 0) ∷ sign punctuator.Colon ∷ []
template make.DefaultLabel = word keyword.Default ∷ sign punctuator.Colon ∷ []
template make.Break = word keyword.Break ∷ sign punctuator.Semicolon ∷ []
template make.Continue = word keyword.Continue ∷ sign punctuator.Semicolon ∷ []
template make.Return = word keyword.Return ∷ part optional_expression ∷ sign punctuator.Semicolon ∷ []
template make.RegionName = token terminal.Literal ∷ []
template make.Region = word keyword.Region ∷ sign punctuator.LeftParenthesis ∷ part region_name ∷ sign punctuator.RightParenthesis
    ∷ sign punctuator.LeftBrace ∷ part items ∷ sign punctuator.RightBrace ∷ []
template make.EndItems = []
template make.NextObject = part object ∷ part items ∷ []
template make.NextStatement = part statement ∷ part items ∷ []
template make.StructUnit = word keyword.Struct ∷ part identifier ∷ sign punctuator.LeftBrace ∷ part member ∷ part more_members
    ∷ sign punctuator.RightBrace ∷ sign punctuator.Semicolon ∷ []
template make.RegisterUnit = word keyword.Volatile ∷ word keyword.Register ∷ part register_type ∷ token terminal.RegisterName
    ∷ sign punctuator.Semicolon ∷ []
template make.UnsignedInt = word keyword.Unsigned ∷ word keyword.Int ∷ []
template make.RegisterUint32 = token terminal.Uint32 ∷ []
template make.External = part type ∷ part pointers ∷ part identifier ∷ part external_rest ∷ []
template make.ObjectRest = part lengths ∷ part location ∷ part initial ∷ part more_init_declarators ∷ sign punctuator.Semicolon ∷ []
template make.FunctionRest = sign punctuator.LeftParenthesis ∷ part parameters ∷ sign punctuator.RightParenthesis ∷ part function_end ∷ []
template make.PrototypeEnd = sign punctuator.Semicolon ∷ []
template make.FunctionBody = sign punctuator.LeftBrace ∷ part items ∷ sign punctuator.RightBrace ∷ []
template make.NoParameters = []
template make.VoidParameters = word keyword.Void ∷ []
template make.SomeParameters = part parameter ∷ part more_parameters ∷ []
template make.Parameter = part type ∷ part pointers ∷ part identifier ∷ part lengths ∷ []
template make.ArrayParameter = part type ∷ part stars ∷ part identifier ∷ sign punctuator.LeftBracket ∷ sign punctuator.RightBracket ∷ []
template make.EndParameters = []
template make.NextParameter = sign punctuator.Comma ∷ part parameter ∷ part more_parameters ∷ []
template make.EndUnits = []
template make.NextUnit = part unit ∷ part units ∷ []
template make.Source = part units ∷ token terminal.End ∷ []

-- The nodes of a tree are units, local objects, statements, labels, initialisers in braces and expressions. Parentheses are none, nor is
-- the name of a function that is called.
unfoldable pub own_nodes : Production → ℕ
own_nodes make.Identifier = 0
own_nodes make.Name = 1
own_nodes make.Number = 1
own_nodes make.Character = 1
own_nodes make.Parenthesised = 0
own_nodes make.Index = 1
own_nodes make.CallFunction = 1
own_nodes make.Call = 1
own_nodes make.Member = 1
own_nodes make.Arrow = 1
own_nodes make.PostIncrement = 1
own_nodes make.PostDecrement = 1
own_nodes make.PreIncrement = 1
own_nodes make.PreDecrement = 1
own_nodes make.Prefix = 1
own_nodes make.SizeofExpression = 1
own_nodes make.SizeofType = 1
own_nodes make.Cast = 1
own_nodes (make.Binary _) = 1
own_nodes (make.Comparison _) = 1
own_nodes (make.Logical _) = 1
own_nodes make.Conditional = 1
own_nodes make.Assign = 1
own_nodes (make.AssignWith _) = 1
own_nodes make.Comma = 1
own_nodes make.NoArguments = 0
own_nodes make.SomeArguments = 0
own_nodes make.EndArguments = 0
own_nodes make.NextArgument = 0
own_nodes make.NoExpression = 0
own_nodes make.SomeExpression = 0
own_nodes make.TypeName = 0
own_nodes make.Specified = 0
own_nodes make.Based = 0
own_nodes make.NoQualifiers = 0
own_nodes make.Qualified = 0
own_nodes make.VoidBase = 0
own_nodes make.StructBase = 0
own_nodes make.StandardBase = 0
own_nodes make.IntegerBase = 0
own_nodes (make.FirstWord _) = 0
own_nodes (make.NextWord _ _) = 0
own_nodes make.NoPointers = 0
own_nodes make.Star = 0
own_nodes make.QualifiedPointer = 0
own_nodes make.NextPointer = 0
own_nodes make.NoLengths = 0
own_nodes make.Length = 0
own_nodes make.Declarator = 0
own_nodes make.EndDeclarators = 0
own_nodes make.NextDeclarator = 0
own_nodes make.StructMember = 0
own_nodes make.EndMembers = 0
own_nodes make.NextMember = 0
own_nodes make.NoLocation = 0
own_nodes make.Location = 0
own_nodes make.NoInitial = 0
own_nodes make.Initial = 0
own_nodes make.InitialExpression = 0
own_nodes make.Braced = 1
own_nodes make.EndInits = 0
own_nodes make.CommaInits = 0
own_nodes make.TrailingComma = 0
own_nodes make.NextInit = 0
own_nodes make.InitDeclarator = 0
own_nodes make.EndInitDeclarators = 0
own_nodes make.NextInitDeclarator = 0
own_nodes make.LocalObject = 1
own_nodes make.Block = 1
own_nodes make.ExpressionStatement = 1
own_nodes make.If = 1
own_nodes make.NoElse = 0
own_nodes make.Else = 0
own_nodes make.While = 1
own_nodes make.Do = 1
own_nodes make.ForObject = 0
own_nodes make.ForExpression = 0
own_nodes make.For = 1
own_nodes make.Switch = 1
own_nodes make.NoSwitchItems = 0
own_nodes make.FirstLabel = 0
own_nodes make.EndSwitchItems = 0
own_nodes make.NextLabel = 0
own_nodes make.NextSwitchStatement = 0
own_nodes make.CaseLabel = 1
own_nodes make.DefaultLabel = 1
own_nodes make.Break = 1
own_nodes make.Continue = 1
own_nodes make.Return = 1
own_nodes make.RegionName = 0
own_nodes make.Region = 1
own_nodes make.EndItems = 0
own_nodes make.NextObject = 0
own_nodes make.NextStatement = 0
own_nodes make.StructUnit = 1
own_nodes make.RegisterUnit = 1
own_nodes make.UnsignedInt = 0
own_nodes make.RegisterUint32 = 0
own_nodes make.External = 1
own_nodes make.ObjectRest = 0
own_nodes make.FunctionRest = 0
own_nodes make.PrototypeEnd = 0
own_nodes make.FunctionBody = 0
own_nodes make.NoParameters = 0
own_nodes make.VoidParameters = 0
own_nodes make.SomeParameters = 0
own_nodes make.Parameter = 0
own_nodes make.ArrayParameter = 0
own_nodes make.EndParameters = 0
own_nodes make.NextParameter = 0
own_nodes make.EndUnits = 0
own_nodes make.NextUnit = 0
own_nodes make.Source = 0

abbrev pub is_node : Production → Bool
is_node production = nat_eq (own_nodes production) 1

-- how many of the pieces are parts, and no tokens
unfoldable pub parts_among : List Piece → ℕ
parts_among [] = 0
parts_among (token _ ∷ pieces) = parts_among pieces
parts_among (part _ ∷ pieces) = parts_among pieces + 1
