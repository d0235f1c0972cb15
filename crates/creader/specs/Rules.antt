-- The rules of the parts, as the code has them, and which is chosen.
use Rattle.std.specs.Prelude.{Bool, List, [], ◌∷◌, map, Option, Some, None, if◌then◌else◌, ◌||◌, false}
use Rattle.std.specs.Borrow.{Bor}
use Rattle.cgrammar.specs.declared.kind.Kind.{Kind}
use Rattle.cgrammar.specs.declared.terminal.Terminal.{Terminal}
use Rattle.creader.specs.declared.part.Part.{Part}
use Rattle.creader.specs.declared.part.Part.TheVariants as part
use Rattle.creader.specs.declared.part.Move.{Move}
use Rattle.creader.specs.declared.part.Symbol.{Symbol}
use Rattle.cgrammar.specs.declared.production.Level.{Level}
use Rattle.cgrammar.specs.declared.production.Level.TheVariants as level
use Rattle.cgrammar.specs.declared.production.Words.{Words}
use Rattle.cgrammar.specs.declared.production.Words.TheVariants as words
use Rattle.cgrammar.specs.Terminal.{accepts}
use Rattle.creader.specs.declared.table.expression.TheConstants.{EXPRESSION, COMMA_TAIL, ASSIGNMENT, ASSIGNMENT_TAIL}
use Rattle.creader.specs.declared.table.expression.TheConstants.{ASSIGNMENT_PARENTHESIS, CONDITIONAL, CONDITIONAL_TAIL, OPERAND}
use Rattle.creader.specs.declared.table.expression.TheConstants.{OPERAND_PARENTHESIS, UNARY, SIZEOF_OPERAND, SIZEOF_PARENTHESIS}
use Rattle.creader.specs.declared.table.expression.TheConstants.{AFTER_NAME, NAME_TAIL, POSTFIX_TAIL, ARGUMENTS, MORE_ARGUMENTS}
use Rattle.creader.specs.declared.table.expression.TheConstants.{OPTIONAL_EXPRESSION}
use Rattle.creader.specs.declared.table.chain.TheConstants.{CHAIN_OR, CHAIN_TAIL_OR, CHAIN_AND, CHAIN_TAIL_AND, CHAIN_BIT_OR}
use Rattle.creader.specs.declared.table.chain.TheConstants.{CHAIN_TAIL_BIT_OR, CHAIN_BIT_XOR, CHAIN_TAIL_BIT_XOR, CHAIN_BIT_AND}
use Rattle.creader.specs.declared.table.chain.TheConstants.{CHAIN_TAIL_BIT_AND, CHAIN_EQUALITY, CHAIN_TAIL_EQUALITY, CHAIN_RELATION}
use Rattle.creader.specs.declared.table.chain.TheConstants.{CHAIN_TAIL_RELATION, CHAIN_SHIFT, CHAIN_TAIL_SHIFT, CHAIN_SUM}
use Rattle.creader.specs.declared.table.chain.TheConstants.{CHAIN_TAIL_SUM, CHAIN_PRODUCT, CHAIN_TAIL_PRODUCT}
use Rattle.creader.specs.declared.table.types.TheConstants.{TYPE_NAME, TYPE, BASE, WORDS_SIGN, WORDS_CHAR, WORDS_LENGTH, WORDS_INT}
use Rattle.creader.specs.declared.table.types.TheConstants.{WORDS_SIGN_CHAR, WORDS_SIGN_LENGTH, WORDS_SIGN_INT, WORDS_LENGTH_INT}
use Rattle.creader.specs.declared.table.types.TheConstants.{WORDS_SIGN_LENGTH_INT, QUALIFIERS, POINTERS, STARS_TAIL, AFTER_STAR}
use Rattle.creader.specs.declared.table.types.TheConstants.{POINTERS_TAIL, AFTER_NEXT_STAR}
use Rattle.creader.specs.declared.table.declaration.TheConstants.{LENGTHS, DECLARATOR, MORE_DECLARATORS, STRUCT_MEMBER}
use Rattle.creader.specs.declared.table.declaration.TheConstants.{MORE_MEMBERS, LOCATION, INITIAL, INIT, MORE_INITS}
use Rattle.creader.specs.declared.table.declaration.TheConstants.{AFTER_INIT_COMMA, INIT_DECLARATOR, MORE_INIT_DECLARATORS, OBJECT}
use Rattle.creader.specs.declared.table.statement.TheConstants.{STATEMENT, OPTIONAL_ELSE, FOR_FIRST, SWITCH_ITEMS}
use Rattle.creader.specs.declared.table.statement.TheConstants.{LABEL, MORE_SWITCH_ITEMS, ITEMS}
use Rattle.creader.specs.declared.table.unit.TheConstants.{UNITS, UNIT, AFTER_VOLATILE, REGISTER_TYPE, AFTER_TAG, EXTERNAL_REST}
use Rattle.creader.specs.declared.table.unit.TheConstants.{FUNCTION_END, PARAMETERS, AFTER_VOID, PARAMETER, PARAMETER_TAIL}
use Rattle.creader.specs.declared.table.unit.TheConstants.{PARAMETER_AFTER_STAR, PARAMETER_END, PARAMETER_LENGTH, MORE_PARAMETERS}

-- for which tokens, what becomes of the token, and what the part is replaced by
pub record Rule : Type 0 where
  pub on : List Terminal
  pub move : Move
  pub symbols : List Symbol

-- a rule as a table of the code has it
abbrev pub rule_of : (record { now : List Terminal }) × Move × (record { now : List Symbol }) → Rule
rule_of entry = record { on = entry.0.now; move = entry.1; symbols = entry.2.now }

-- a rule as the code passes it, behind references
abbrev pub rule_at : Bor (List Terminal) × Move × Bor (List Symbol) → Rule
rule_at entry = record { on = entry.0.now; move = entry.1; symbols = entry.2.now }

-- the rules of each part
unfoldable pub chain_rules : Level → List Rule
chain_rules level.Or = map rule_of CHAIN_OR
chain_rules level.And = map rule_of CHAIN_AND
chain_rules level.BitOr = map rule_of CHAIN_BIT_OR
chain_rules level.BitXor = map rule_of CHAIN_BIT_XOR
chain_rules level.BitAnd = map rule_of CHAIN_BIT_AND
chain_rules level.Equality = map rule_of CHAIN_EQUALITY
chain_rules level.Relation = map rule_of CHAIN_RELATION
chain_rules level.Shift = map rule_of CHAIN_SHIFT
chain_rules level.Sum = map rule_of CHAIN_SUM
chain_rules level.Product = map rule_of CHAIN_PRODUCT

unfoldable pub chain_tail_rules : Level → List Rule
chain_tail_rules level.Or = map rule_of CHAIN_TAIL_OR
chain_tail_rules level.And = map rule_of CHAIN_TAIL_AND
chain_tail_rules level.BitOr = map rule_of CHAIN_TAIL_BIT_OR
chain_tail_rules level.BitXor = map rule_of CHAIN_TAIL_BIT_XOR
chain_tail_rules level.BitAnd = map rule_of CHAIN_TAIL_BIT_AND
chain_tail_rules level.Equality = map rule_of CHAIN_TAIL_EQUALITY
chain_tail_rules level.Relation = map rule_of CHAIN_TAIL_RELATION
chain_tail_rules level.Shift = map rule_of CHAIN_TAIL_SHIFT
chain_tail_rules level.Sum = map rule_of CHAIN_TAIL_SUM
chain_tail_rules level.Product = map rule_of CHAIN_TAIL_PRODUCT

unfoldable pub words_rules : Words → List Rule
words_rules words.Sign = map rule_of WORDS_SIGN
words_rules words.Char = map rule_of WORDS_CHAR
words_rules words.Length = map rule_of WORDS_LENGTH
words_rules words.Int = map rule_of WORDS_INT
words_rules words.SignChar = map rule_of WORDS_SIGN_CHAR
words_rules words.SignLength = map rule_of WORDS_SIGN_LENGTH
words_rules words.SignInt = map rule_of WORDS_SIGN_INT
words_rules words.LengthInt = map rule_of WORDS_LENGTH_INT
words_rules words.SignLengthInt = map rule_of WORDS_SIGN_LENGTH_INT

unfoldable pub rules : Part → List Rule
rules part.Expression = map rule_of EXPRESSION
rules part.CommaTail = map rule_of COMMA_TAIL
rules part.Assignment = map rule_of ASSIGNMENT
rules part.AssignmentTail = map rule_of ASSIGNMENT_TAIL
rules part.AssignmentParenthesis = map rule_of ASSIGNMENT_PARENTHESIS
rules part.Conditional = map rule_of CONDITIONAL
rules part.ConditionalTail = map rule_of CONDITIONAL_TAIL
rules part.Operand = map rule_of OPERAND
rules part.OperandParenthesis = map rule_of OPERAND_PARENTHESIS
rules part.Unary = map rule_of UNARY
rules part.SizeofOperand = map rule_of SIZEOF_OPERAND
rules part.SizeofParenthesis = map rule_of SIZEOF_PARENTHESIS
rules part.AfterName = map rule_of AFTER_NAME
rules part.NameTail = map rule_of NAME_TAIL
rules part.PostfixTail = map rule_of POSTFIX_TAIL
rules part.Arguments = map rule_of ARGUMENTS
rules part.MoreArguments = map rule_of MORE_ARGUMENTS
rules part.OptionalExpression = map rule_of OPTIONAL_EXPRESSION
rules part.TypeName = map rule_of TYPE_NAME
rules part.Type = map rule_of TYPE
rules part.Base = map rule_of BASE
rules part.Qualifiers = map rule_of QUALIFIERS
rules part.Pointers = map rule_of POINTERS
rules part.StarsTail = map rule_of STARS_TAIL
rules part.AfterStar = map rule_of AFTER_STAR
rules part.PointersTail = map rule_of POINTERS_TAIL
rules part.AfterNextStar = map rule_of AFTER_NEXT_STAR
rules part.Lengths = map rule_of LENGTHS
rules part.Declarator = map rule_of DECLARATOR
rules part.MoreDeclarators = map rule_of MORE_DECLARATORS
rules part.StructMember = map rule_of STRUCT_MEMBER
rules part.MoreMembers = map rule_of MORE_MEMBERS
rules part.Location = map rule_of LOCATION
rules part.Initial = map rule_of INITIAL
rules part.Init = map rule_of INIT
rules part.MoreInits = map rule_of MORE_INITS
rules part.AfterInitComma = map rule_of AFTER_INIT_COMMA
rules part.InitDeclarator = map rule_of INIT_DECLARATOR
rules part.MoreInitDeclarators = map rule_of MORE_INIT_DECLARATORS
rules part.Object = map rule_of OBJECT
rules part.Statement = map rule_of STATEMENT
rules part.OptionalElse = map rule_of OPTIONAL_ELSE
rules part.ForFirst = map rule_of FOR_FIRST
rules part.SwitchItems = map rule_of SWITCH_ITEMS
rules part.Label = map rule_of LABEL
rules part.MoreSwitchItems = map rule_of MORE_SWITCH_ITEMS
rules part.Items = map rule_of ITEMS
rules part.Units = map rule_of UNITS
rules part.Unit = map rule_of UNIT
rules part.AfterVolatile = map rule_of AFTER_VOLATILE
rules part.RegisterType = map rule_of REGISTER_TYPE
rules part.AfterTag = map rule_of AFTER_TAG
rules part.ExternalRest = map rule_of EXTERNAL_REST
rules part.FunctionEnd = map rule_of FUNCTION_END
rules part.Parameters = map rule_of PARAMETERS
rules part.AfterVoid = map rule_of AFTER_VOID
rules part.Parameter = map rule_of PARAMETER
rules part.ParameterTail = map rule_of PARAMETER_TAIL
rules part.ParameterAfterStar = map rule_of PARAMETER_AFTER_STAR
rules part.ParameterEnd = map rule_of PARAMETER_END
rules part.ParameterLength = map rule_of PARAMETER_LENGTH
rules part.MoreParameters = map rule_of MORE_PARAMETERS
rules (part.Chain l) = chain_rules l
rules (part.ChainTail l) = chain_tail_rules l
rules (part.Words w) = words_rules w

-- some of them accepts the token
unfoldable pub any_accepts : List Terminal → Kind → Bool
any_accepts [] kind = false
any_accepts (terminal ∷ terminals) kind = accepts terminal kind || any_accepts terminals kind

-- the first that accepts the token
unfoldable pub choose : List Rule → Kind → Option Rule
choose [] kind = None
choose (rule ∷ others) kind = if any_accepts rule.on kind then Some rule else choose others kind

-- the chosen rule behind references
abbrev pub chosen : Option (Bor (List Terminal) × Move × Bor (List Symbol)) → Option Rule
chosen None = None
chosen (Some entry) = Some (rule_at entry)
