-- What each part goes on with, and what it leaves in place of that: every rule keeps to it.
use Rattle.std.proofs.Common.{◌≡◌, ℕ, Bool, true, false, List, [], ◌∷◌, Option, Some, None, if◌then◌else◌, refl}
use Rattle.std.specs.List.{list_all}
use Rattle.csyn.specs.declared.keyword.Keyword.TheVariants as keyword
use Rattle.csyn.specs.declared.punctuator.Punctuator.TheVariants as punctuator
use Rattle.cgrammar.specs.declared.terminal.Terminal.{Terminal}
use Rattle.cgrammar.specs.declared.terminal.Terminal.TheVariants as terminal
use Rattle.cgrammar.specs.declared.production.Production.TheVariants as make
use Rattle.cgrammar.specs.declared.production.Level.{Level}
use Rattle.cgrammar.specs.declared.production.Level.TheVariants as chain
use Rattle.cgrammar.specs.declared.production.Words.TheVariants as every
use Rattle.creader.specs.declared.part.Part.{Part}
use Rattle.creader.specs.declared.part.Part.TheVariants as part
use Rattle.creader.specs.declared.part.Move.{Move}
use Rattle.creader.specs.declared.part.Move.TheVariants as move
use Rattle.creader.specs.declared.part.Symbol.{Symbol}
use Rattle.creader.specs.declared.part.Symbol.TheVariants as symbol
use Rattle.cgrammar.specs.Terminal.{accepts, keyword_number, punctuator_number}
use Rattle.cgrammar.specs.Grammar as class
use Rattle.cgrammar.specs.Grammar.{Class, Piece, word, sign, under, is_wider, class_number, words_number, operator_level}
use Rattle.cgrammar.specs.Grammar.{operator_token, comparison_level, comparison_token, logical_level, logical_token}
use Rattle.cgrammar.specs.Grammar.{assignment_token, word_token, alone, before, joined, home, template}
use Rattle.creader.specs.Rules.{Rule, rules, chain_rules, chain_tail_rules, words_rules}
use Rattle.creader.proofs.Sound.Kinds.{keywords, punctuators, plain_kinds, every_kind}
use Rattle.creader.proofs.Sound.Order.{covered, below}

-- the number of a level of operators
unfoldable pub chain_level : Level → ℕ
chain_level chain.Or = 3
chain_level chain.And = 4
chain_level chain.BitOr = 5
chain_level chain.BitXor = 6
chain_level chain.BitAnd = 7
chain_level chain.Equality = 8
chain_level chain.Relation = 9
chain_level chain.Shift = 10
chain_level chain.Sum = 11
chain_level chain.Product = 12

-- what stands before a part that goes on with it, the last first
unfoldable pub entry : Part → List Piece
entry part.CommaTail = class.part (class.level 0) ∷ []
entry part.AssignmentTail = class.part (class.level 14) ∷ []
entry part.AssignmentParenthesis = sign punctuator.LeftParenthesis ∷ []
entry part.ConditionalTail = class.part (class.level 3) ∷ []
entry (part.ChainTail l) = class.part (class.level (chain_level l)) ∷ []
entry part.OperandParenthesis = sign punctuator.LeftParenthesis ∷ []
entry part.SizeofOperand = word keyword.Sizeof ∷ []
entry part.SizeofParenthesis = sign punctuator.LeftParenthesis ∷ word keyword.Sizeof ∷ []
entry part.AfterName = class.part class.identifier ∷ []
entry part.NameTail = class.part (class.level 15) ∷ []
entry part.PostfixTail = class.part class.callee ∷ []
entry (part.Words w) = class.part (class.words w) ∷ []
entry part.StarsTail = class.part class.stars ∷ []
entry part.AfterStar = sign punctuator.Star ∷ class.part class.stars ∷ []
entry part.PointersTail = class.part class.qualified ∷ []
entry part.AfterNextStar = sign punctuator.Star ∷ class.part class.qualified ∷ []
entry part.AfterVolatile = word keyword.Volatile ∷ []
entry part.AfterTag = class.part class.identifier ∷ word keyword.Struct ∷ []
entry part.AfterVoid = word keyword.Void ∷ []
entry part.ParameterTail = class.part class.stars ∷ class.part class.«type» ∷ []
entry part.ParameterAfterStar = sign punctuator.Star ∷ class.part class.stars ∷ class.part class.«type» ∷ []
entry part.ParameterEnd = class.part class.identifier ∷ class.part class.stars ∷ class.part class.«type» ∷ []
entry part.ParameterLength = sign punctuator.LeftBracket ∷ class.part class.identifier ∷ class.part class.stars
    ∷ class.part class.«type» ∷ []
entry _ = []

-- of which class is what stands there afterwards
unfoldable pub exit : Part → Class
exit part.Expression = class.level 0
exit part.CommaTail = class.level 0
exit part.Assignment = class.level 1
exit part.AssignmentTail = class.level 1
exit part.AssignmentParenthesis = class.level 1
exit part.Conditional = class.level 2
exit part.ConditionalTail = class.level 2
exit (part.Chain l) = class.level (chain_level l)
exit (part.ChainTail l) = class.level (chain_level l)
exit part.Operand = class.level 13
exit part.OperandParenthesis = class.level 13
exit part.Unary = class.level 14
exit part.SizeofOperand = class.level 14
exit part.SizeofParenthesis = class.level 14
exit part.AfterName = class.level 15
exit part.NameTail = class.level 15
exit part.PostfixTail = class.callee
exit part.Arguments = class.arguments
exit part.MoreArguments = class.more_arguments
exit part.OptionalExpression = class.optional_expression
exit part.TypeName = class.type_name
exit part.Type = class.«type»
exit part.Base = class.base
exit (part.Words _) = class.integer
exit part.Qualifiers = class.qualifiers
exit part.Pointers = class.pointers
exit part.StarsTail = class.pointers
exit part.AfterStar = class.pointers
exit part.PointersTail = class.pointers
exit part.AfterNextStar = class.pointers
exit part.Lengths = class.lengths
exit part.Declarator = class.declarator
exit part.MoreDeclarators = class.more_declarators
exit part.StructMember = class.member
exit part.MoreMembers = class.more_members
exit part.Location = class.location
exit part.Initial = class.initial
exit part.Init = class.init
exit part.MoreInits = class.more_inits
exit part.AfterInitComma = class.after_init_comma
exit part.InitDeclarator = class.init_declarator
exit part.MoreInitDeclarators = class.more_init_declarators
exit part.Object = class.object
exit part.Statement = class.statement
exit part.OptionalElse = class.optional_else
exit part.ForFirst = class.for_first
exit part.SwitchItems = class.switch_items
exit part.Label = class.label
exit part.MoreSwitchItems = class.more_switch_items
exit part.Items = class.items
exit part.Units = class.units
exit part.Unit = class.unit
exit part.AfterVolatile = class.unit
exit part.RegisterType = class.register_type
exit part.AfterTag = class.unit
exit part.ExternalRest = class.external_rest
exit part.FunctionEnd = class.function_end
exit part.Parameters = class.parameters
exit part.AfterVoid = class.parameters
exit part.Parameter = class.parameter
exit part.ParameterTail = class.parameter
exit part.ParameterAfterStar = class.parameter
exit part.ParameterEnd = class.parameter
exit part.ParameterLength = class.parameter
exit part.MoreParameters = class.more_parameters

-- the sorts that are left when the wanted ones are taken off
unfoldable pub strip : List Piece → List Piece → Option (List Piece)
strip [] sorts = Some sorts
strip (wanted ∷ others) [] = None
strip (wanted ∷ others) (sort ∷ sorts) = if below sort wanted then strip others sorts else None

-- the first list backwards, and then the second
unfoldable pub turned : List Piece → List Piece → List Piece
turned [] others = others
turned (piece ∷ pieces) others = turned pieces (piece ∷ others)

-- the test of what is left, if it could be taken off
abbrev pub at_rest : Option (List Piece) → (List Piece → Bool) → Bool
at_rest None test = false
at_rest (Some sorts) test = test sorts

-- Over values of these sorts, the last first, the symbols leave one value of the class.
unfoldable pub types : Class → List Symbol → List Piece → Bool
types c [] (sort ∷ []) = below sort (class.part c)
types c [] _ = false
types c (symbol.Take t ∷ symbols) sorts = types c symbols (class.token t ∷ sorts)
types c (symbol.Read p ∷ symbols) sorts = at_rest (strip (entry p) sorts) (λ rest. types c symbols (class.part (exit p) ∷ rest))
types c (symbol.Reduce p ∷ symbols) sorts =
    at_rest (strip (turned (template p) []) sorts) (λ rest. types c symbols (class.part (home p) ∷ rest))

-- Symbols over what the part goes on with leave what the part leaves; where the token is taken, over the token too.
unfoldable pub move_keeps : Part → Move → List Terminal → List Symbol → Bool
move_keeps p move.Take on symbols = list_all (λ t. types (exit p) symbols (class.token t ∷ entry p)) on
move_keeps p move.Stay on symbols = types (exit p) symbols (entry p)

abbrev pub rule_keeps : Part → Rule → Bool
rule_keeps p rule = move_keeps p rule.move rule.on rule.symbols

-- all rules of a part do, which computes
unfoldable pub keeps : Part → Bool
unfolding rules chain_rules chain_tail_rules words_rules accepts keyword_number punctuator_number under is_wider class_number
    words_number operator_level operator_token comparison_level comparison_token logical_level logical_token assignment_token
    word_token alone before joined home template keywords punctuators plain_kinds every_kind covered below chain_level entry exit
    strip turned types move_keeps
keeps p = list_all (rule_keeps p) (rules p)

pub each-keeps : (p : Part) → keeps p ≡ true
unfolding keeps
each-keeps part.Expression = refl
each-keeps (part.Chain chain.Or) = refl
each-keeps (part.Chain _) = refl
each-keeps (part.ChainTail chain.Or) = refl
each-keeps (part.ChainTail _) = refl
each-keeps (part.Words every.Sign) = refl
each-keeps (part.Words _) = refl
each-keeps _ = refl

-- the symbols that read a source make one of no values
pub start-types : types class.source (symbol.Read part.Units ∷ symbol.Take terminal.End ∷ symbol.Reduce make.Source ∷ []) [] ≡ true
unfolding keeps
start-types = refl
