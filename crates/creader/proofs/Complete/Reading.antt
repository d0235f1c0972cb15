-- What it means that a class is read: by which symbols, before which tokens, and what is left of the symbols.
use Rattle.std.specs.Prelude.{◌≡◌, ℕ, Bool, true, false, not, ◌||◌, ◌&&◌, nat_le, nat_eq, List, [], ◌∷◌}
use Rattle.std.specs.Prelude.{◌++◌, length, Option, Some, None, if◌then◌else◌}
use Rattle.csyn.specs.declared.token.Token.{Token}
use Rattle.csyn.specs.declared.keyword.Keyword.{Keyword}
use Rattle.csyn.specs.declared.keyword.Keyword.TheVariants as keyword
use Rattle.csyn.specs.declared.punctuator.Punctuator.{Punctuator}
use Rattle.csyn.specs.declared.punctuator.Punctuator.TheVariants as punctuator
use Rattle.cgrammar.specs.declared.kind.Kind.{Kind}
use Rattle.cgrammar.specs.declared.production.Production.TheVariants as make
use Rattle.cgrammar.specs.declared.production.Level.TheVariants as chain
use Rattle.cgrammar.specs.declared.production.Level.{Level}
use Rattle.cgrammar.specs.declared.terminal.Terminal.{Terminal}
use Rattle.cgrammar.specs.declared.terminal.Terminal.TheVariants as terminal
use Rattle.creader.specs.declared.part.Part.TheVariants as part
use Rattle.creader.specs.declared.part.Symbol.{Symbol}
use Rattle.creader.specs.declared.part.Symbol.TheVariants as symbol
use Rattle.cgrammar.specs.Kind.{kind_of}
use Rattle.creader.specs.Rules.{any_accepts}
use Rattle.cgrammar.specs.Grammar as class
use Rattle.cgrammar.specs.Grammar.{Class, Piece, under, home}
use Rattle.cgrammar.specs.Text.{Written, IsProper, Stands, dangles, spell}
use Rattle.creader.specs.Machine.{at, Reaches}

-- the level of operators with this number, 3 to 12
unfoldable pub chain_of : ℕ → Option Level
chain_of n = if nat_eq n 3 then Some chain.Or else (if nat_eq n 4 then Some chain.And else (if nat_eq n 5 then Some chain.BitOr
    else (if nat_eq n 6 then Some chain.BitXor else (if nat_eq n 7 then Some chain.BitAnd else (if nat_eq n 8 then Some chain.Equality
    else (if nat_eq n 9 then Some chain.Relation else (if nat_eq n 10 then Some chain.Shift else (if nat_eq n 11 then Some chain.Sum
    else (if nat_eq n 12 then Some chain.Product else None)))))))))

unfoldable pub chain_part : Option Level → List Symbol
chain_part (Some level) = symbol.Read (part.Chain level) ∷ []
chain_part None = []

-- the symbols by which an expression of this level is read; 15 has none of its own
unfoldable pub level_reader : ℕ → List Symbol
level_reader n = if nat_eq n 0 then symbol.Read part.Expression ∷ [] else (if nat_eq n 1 then symbol.Read part.Assignment ∷ []
    else (if nat_eq n 2 then symbol.Read part.Conditional ∷ [] else (if nat_eq n 13 then symbol.Read part.Operand ∷ []
    else (if nat_eq n 14 then symbol.Read part.Unary ∷ [] else chain_part (chain_of n)))))

-- the symbols by which a class is read; none for those that are only read as a part of another
unfoldable pub reader : Class → List Symbol
reader (class.level n) = level_reader n
reader class.identifier = symbol.Take terminal.Name ∷ symbol.Reduce make.Identifier ∷ []
reader class.arguments = symbol.Read part.Arguments ∷ []
reader class.more_arguments = symbol.Read part.MoreArguments ∷ []
reader class.optional_expression = symbol.Read part.OptionalExpression ∷ []
reader class.type_name = symbol.Read part.TypeName ∷ []
reader class.«type» = symbol.Read part.Type ∷ []
reader class.base = symbol.Read part.Base ∷ []
reader class.qualifiers = symbol.Read part.Qualifiers ∷ []
reader class.some_qualifiers = symbol.Read part.Qualifiers ∷ []
reader class.pointers = symbol.Read part.Pointers ∷ []
reader class.lengths = symbol.Read part.Lengths ∷ []
reader class.declarator = symbol.Read part.Declarator ∷ []
reader class.more_declarators = symbol.Read part.MoreDeclarators ∷ []
reader class.member = symbol.Read part.StructMember ∷ []
reader class.more_members = symbol.Read part.MoreMembers ∷ []
reader class.location = symbol.Read part.Location ∷ []
reader class.initial = symbol.Read part.Initial ∷ []
reader class.init = symbol.Read part.Init ∷ []
reader class.more_inits = symbol.Read part.MoreInits ∷ []
reader class.after_init_comma = symbol.Read part.AfterInitComma ∷ []
reader class.init_declarator = symbol.Read part.InitDeclarator ∷ []
reader class.more_init_declarators = symbol.Read part.MoreInitDeclarators ∷ []
reader class.object = symbol.Read part.Object ∷ []
reader class.statement = symbol.Read part.Statement ∷ []
reader class.optional_else = symbol.Read part.OptionalElse ∷ []
reader class.for_first = symbol.Read part.ForFirst ∷ []
reader class.region_name = symbol.Take terminal.Literal ∷ symbol.Reduce make.RegionName ∷ []
reader class.label = symbol.Read part.Label ∷ []
reader class.switch_items = symbol.Read part.SwitchItems ∷ []
reader class.more_switch_items = symbol.Read part.MoreSwitchItems ∷ []
reader class.items = symbol.Read part.Items ∷ []
reader class.units = symbol.Read part.Units ∷ []
reader class.unit = symbol.Read part.Unit ∷ []
reader class.register_type = symbol.Read part.RegisterType ∷ []
reader class.external_rest = symbol.Read part.ExternalRest ∷ []
reader class.function_end = symbol.Read part.FunctionEnd ∷ []
reader class.parameters = symbol.Read part.Parameters ∷ []
reader class.parameter = symbol.Read part.Parameter ∷ []
reader class.more_parameters = symbol.Read part.MoreParameters ∷ []
reader class.source = symbol.Read part.Units ∷ symbol.Take terminal.End ∷ symbol.Reduce make.Source ∷ []
reader _ = []

abbrev sign : Punctuator → Terminal
sign mark = terminal.Punctuator mark

abbrev word : Keyword → Terminal
word k = terminal.Keyword k

-- the operators of at least this level
unfoldable pub operators_from : ℕ → List Terminal
operators_from n =
    (if nat_le n 12 then sign punctuator.Star ∷ sign punctuator.Slash ∷ sign punctuator.Percent ∷ [] else [])
    ++ (if nat_le n 11 then sign punctuator.Plus ∷ sign punctuator.Minus ∷ [] else [])
    ++ (if nat_le n 10 then sign punctuator.ShiftLeft ∷ sign punctuator.ShiftRight ∷ [] else [])
    ++ (if nat_le n 9 then sign punctuator.Less ∷ sign punctuator.Greater ∷ sign punctuator.LessEqual ∷ sign punctuator.GreaterEqual
    ∷ [] else [])
    ++ (if nat_le n 8 then sign punctuator.Equal ∷ sign punctuator.NotEqual ∷ [] else [])
    ++ (if nat_le n 7 then sign punctuator.Ampersand ∷ [] else [])
    ++ (if nat_le n 6 then sign punctuator.Caret ∷ [] else [])
    ++ (if nat_le n 5 then sign punctuator.Bar ∷ [] else [])
    ++ (if nat_le n 4 then sign punctuator.LogicalAnd ∷ [] else [])
    ++ (if nat_le n 3 then sign punctuator.LogicalOr ∷ [] else [])

abbrev assignments : List Terminal
assignments = sign punctuator.Assign ∷ sign punctuator.MultiplyAssign ∷ sign punctuator.DivideAssign ∷ sign punctuator.RemainderAssign
    ∷ sign punctuator.AddAssign ∷ sign punctuator.SubtractAssign ∷ sign punctuator.AndAssign ∷ sign punctuator.XorAssign
    ∷ sign punctuator.OrAssign ∷ sign punctuator.ShiftLeftAssign ∷ sign punctuator.ShiftRightAssign ∷ []

-- the tokens that would go on with an expression of this level
unfoldable pub extenders : ℕ → List Terminal
extenders n =
    (sign punctuator.LeftBracket ∷ sign punctuator.LeftParenthesis ∷ sign punctuator.Dot ∷ sign punctuator.Arrow
    ∷ sign punctuator.Increment ∷ sign punctuator.Decrement ∷ []) ++ operators_from n
    ++ (if nat_le n 2 then sign punctuator.Question ∷ [] else [])
    ++ (if nat_le n 1 then assignments else [])
    ++ (if nat_le n 0 then sign punctuator.Comma ∷ [] else [])

abbrev integer_words : List Terminal
integer_words = terminal.Sign ∷ terminal.Length ∷ word keyword.Char ∷ word keyword.Int ∷ []

-- before which tokens
pub data Follow : Type 0 where
  only : List Terminal → Follow
  all_but : List Terminal → Follow

unfoldable pub follow : Class → Follow
follow (class.level n) = all_but (extenders n)
follow class.arguments = only (sign punctuator.RightParenthesis ∷ [])
follow class.more_arguments = only (sign punctuator.RightParenthesis ∷ [])
follow class.optional_expression = only (sign punctuator.Semicolon ∷ sign punctuator.RightParenthesis ∷ [])
follow class.type_name = only (sign punctuator.RightParenthesis ∷ [])
follow class.«type» = all_but (terminal.Qualifier ∷ integer_words)
follow class.base = all_but integer_words
follow class.qualifiers = all_but (terminal.Qualifier ∷ [])
follow class.some_qualifiers = all_but (terminal.Qualifier ∷ [])
follow class.pointers = all_but (sign punctuator.Star ∷ terminal.Qualifier ∷ [])
follow class.lengths = all_but (sign punctuator.LeftBracket ∷ [])
follow class.declarator = all_but (sign punctuator.LeftBracket ∷ [])
follow class.more_declarators = only (sign punctuator.Semicolon ∷ [])
follow class.more_members = only (sign punctuator.RightBrace ∷ [])
follow class.location = all_but (word keyword.Attribute ∷ [])
follow class.initial = only (sign punctuator.Comma ∷ sign punctuator.Semicolon ∷ [])
follow class.init = only (sign punctuator.Comma ∷ sign punctuator.Semicolon ∷ sign punctuator.RightBrace ∷ [])
follow class.more_inits = only (sign punctuator.RightBrace ∷ [])
follow class.after_init_comma = only (sign punctuator.RightBrace ∷ [])
follow class.init_declarator = only (sign punctuator.Comma ∷ sign punctuator.Semicolon ∷ [])
follow class.more_init_declarators = only (sign punctuator.Semicolon ∷ [])
follow class.statement = all_but (word keyword.Else ∷ [])
follow class.optional_else = all_but (word keyword.Else ∷ [])
follow class.switch_items = only (sign punctuator.RightBrace ∷ [])
follow class.more_switch_items = only (sign punctuator.RightBrace ∷ [])
follow class.items = only (sign punctuator.RightBrace ∷ [])
follow class.units = only (terminal.End ∷ [])
follow class.parameters = only (sign punctuator.RightParenthesis ∷ [])
follow class.parameter = only (sign punctuator.Comma ∷ sign punctuator.RightParenthesis ∷ [])
follow class.more_parameters = only (sign punctuator.RightParenthesis ∷ [])
follow _ = all_but []

unfoldable pub allows : Follow → Kind → Bool
allows (only terminals) kind = any_accepts terminals kind
allows (all_but terminals) kind = not (any_accepts terminals kind)

-- a statement that has its else may stand before another
unfoldable pub is_statement : Class → Bool
is_statement class.statement = true
is_statement class.optional_else = true
is_statement _ = false

abbrev pub MayFollow : Class → Written → Kind → Type 0
MayFollow c written kind = ((is_statement c && not (dangles written)) || allows (follow c) kind) ≡ true

-- It is read as one of the class, before any token that may follow.
pub record Reads (c : Class) (written : Written) : Type 0 where
  pub reads : (symbols : List Symbol) (values : List Written) (next : Token) (tokens : List Token) → MayFollow c written (kind_of next)
      → Reaches (at (reader c ++ symbols) values (spell written ++ next ∷ tokens)) (at symbols (written ∷ values) (next ∷ tokens))

-- the classes that have symbols of their own by which they are read
unfoldable pub has_reader : Class → Bool
has_reader c = not (nat_eq (length (reader c)) 0)

-- what the main law says
abbrev pub Complete : Type 0
Complete = (written : Written) → IsProper written → (c : Class) → Stands (class.part c) written → has_reader c ≡ true → Reads c written
