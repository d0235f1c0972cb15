-- What each production makes of the values of its parts, all without pointers.
use Rattle.std.specs.Prelude.{◌≡◌, ℕ, ◌-◌, true, false, List, length, Option, Some, None, Result, MatchResult, slice_get}
use Rattle.std.specs.Option.{option_map}
use Rattle.std.specs.Global.{Box}
use Rattle.csyn.specs.Bare.{at_null}
use Rattle.csyn.specs.declared.span.Span.{Span}
use Rattle.csyn.specs.declared.mark.Mark.{Mark}
use Rattle.csyn.specs.declared.token.Token.{Token}
use Rattle.csyn.specs.declared.token.TokenKind.{TokenKind}
use Rattle.csyn.specs.declared.token.TokenKind.TheVariants as token
use Rattle.csyn.specs.declared.keyword.Keyword.TheVariants as keyword
use Rattle.csyn.specs.declared.punctuator.Punctuator.TheVariants as punctuator
use Rattle.csyn.specs.declared.operator.PrefixOperator.{PrefixOperator}
use Rattle.csyn.specs.declared.operator.PrefixOperator.TheVariants as prefix
use Rattle.csyn.specs.declared.operator.PostfixOperator.TheVariants as postfix
use Rattle.csyn.specs.declared.specifiers.Sign.TheVariants as sign
use Rattle.csyn.specs.declared.specifiers.Length.TheVariants as size
use Rattle.csyn.specs.declared.specifiers.Base.TheVariants as base_of
use Rattle.csyn.specs.declared.specifiers.Specifiers.{Specifiers}
use Rattle.csyn.specs.declared.specifiers.IntegerWords.{IntegerWords}
use Rattle.csyn.specs.declared.specifiers.Pointer.{Pointer}
use Rattle.csyn.specs.declared.specifiers.Pointers.{Pointers}
use Rattle.csyn.specs.declared.specifiers.Pointers as pointers_of
use Rattle.csyn.specs.declared.expression.Expr.{Expr}
use Rattle.csyn.specs.declared.expression.ExprKind as expression
use Rattle.csyn.specs.declared.expression.Exprs as exprs_of
use Rattle.csyn.specs.declared.declaration.Declarators as declarators_of
use Rattle.csyn.specs.declared.declaration.Members as members_of
use Rattle.csyn.specs.declared.declaration.Init as init_of
use Rattle.csyn.specs.declared.declaration.Inits as inits_of
use Rattle.csyn.specs.declared.declaration.InitDeclarator.{InitDeclarator}
use Rattle.csyn.specs.declared.declaration.InitDeclarators.{InitDeclarators}
use Rattle.csyn.specs.declared.declaration.InitDeclarators as objects_of
use Rattle.csyn.specs.declared.declaration.Object.{Object}
use Rattle.csyn.specs.declared.declaration.ParameterList as list_of
use Rattle.csyn.specs.declared.declaration.Parameters.TheVariants as parameters_of
use Rattle.csyn.specs.declared.statement.ForFirst.TheVariants as first_of
use Rattle.csyn.specs.declared.statement.LabelKind.{LabelKind}
use Rattle.csyn.specs.declared.statement.LabelKind.TheVariants as label_of
use Rattle.csyn.specs.declared.statement.Stmt.{Stmt}
use Rattle.csyn.specs.declared.statement.StmtKind as statement
use Rattle.csyn.specs.declared.statement.Items as items_of
use Rattle.csyn.specs.declared.statement.SwitchItems as switch_of
use Rattle.csyn.specs.declared.unit.UnitKind.{UnitKind}
use Rattle.csyn.specs.declared.unit.UnitKind.TheVariants as unit_of
use Rattle.csyn.specs.declared.unit.Units as units_of
use Rattle.cgrammar.specs.declared.production.Production.{Production}
use Rattle.cgrammar.specs.declared.production.Production.TheVariants as production
use Rattle.cparts.specs.declared.fault.MakeFault.{MakeFault}
use Rattle.cparts.specs.declared.fault.MakeFault.TheVariants as fault
use Rattle.cparts.specs.declared.value.ExternalRest.{ExternalRest}
use Rattle.cparts.specs.declared.value.ExternalRest.TheVariants as rest_of
use Rattle.cparts.specs.declared.value.Value.{Value}
use Rattle.cparts.specs.declared.value.Value.TheVariants as value
use Rattle.cparts.specs.Value.{bare_value, bare_values}
use Rattle.cparts.specs.Parts.{none, one, two, three, four, only, perhaps, boxed, text, expr, exprs, optional_expr, type_name}
use Rattle.cparts.specs.Parts.{specifiers, base, words, qualifiers, pointers, declarator, declarators, member, members, init}
use Rattle.cparts.specs.Parts.{optional_init, inits, init_declarator, init_declarators, object, stmt, optional_stmt, for_first}
use Rattle.cparts.specs.Parts.{items, label, switch_items, external_rest, function_end, parameters, parameter, parameter_list, unit}
use Rattle.cparts.specs.Parts.{units, register_type}

-- where a production stands: how many nodes end before it does, and its tokens, its parts' among them
pub record Place : Type 0 where
  pub number : ℕ
  pub tokens : List Token

-- what the first and the last token are
abbrev pub first : List Token → Option TokenKind
first tokens = option_map (λ t. t.kind) (slice_get tokens 0)

abbrev pub last : List Token → Option TokenKind
last tokens = option_map (λ t. t.kind) (slice_get tokens (length tokens - 1))

abbrev pub span_at : Option Token → Span
span_at None = record { line = 0; column = 0 }
span_at (Some t) = t.span

abbrev pub mark_at : Place → Mark
mark_at place = record { number = place.number; span = span_at (slice_get place.tokens 0); tokens = length place.tokens }

-- the values of tokens
abbrev pub identifier : Option TokenKind → Option Value
identifier (Some (token.Identifier name)) = Some (value.Text name)
identifier _ = None

abbrev pub literal : Option TokenKind → Option Value
literal (Some (token.Literal bytes)) = Some (value.Text bytes)
literal _ = None

abbrev pub number : Mark → Option TokenKind → Option Value
number mark (Some (token.Number n)) = Some (value.Expr (record { mark = mark; kind = expression.Number n }))
number _ _ = None

abbrev pub character : Mark → Option TokenKind → Option Value
character mark (Some (token.Character c)) = Some (value.Expr (record { mark = mark; kind = expression.Character c }))
character _ _ = None

abbrev pub prefix_of : Option TokenKind → Option PrefixOperator
prefix_of (Some (token.Punctuator punctuator.Plus)) = Some prefix.Plus
prefix_of (Some (token.Punctuator punctuator.Minus)) = Some prefix.Minus
prefix_of (Some (token.Punctuator punctuator.Exclamation)) = Some prefix.Not
prefix_of (Some (token.Punctuator punctuator.Tilde)) = Some prefix.Complement
prefix_of (Some (token.Punctuator punctuator.Star)) = Some prefix.Dereference
prefix_of (Some (token.Punctuator punctuator.Ampersand)) = Some prefix.Address
prefix_of _ = None

abbrev pub standard : Option TokenKind → Option Value
standard (Some (token.Standard name)) = Some (value.Base (base_of.Standard name))
standard _ = None

-- a type behind one more specifier or qualifier
abbrev pub specified : Specifiers → Option TokenKind → Option Specifiers
specified t (Some (token.Keyword keyword.Static)) =
    Some (record { is_static = true; is_inline = t.is_inline; is_const = t.is_const; is_volatile = t.is_volatile; base = t.base })
specified t (Some (token.Keyword keyword.Inline)) =
    Some (record { is_static = t.is_static; is_inline = true; is_const = t.is_const; is_volatile = t.is_volatile; base = t.base })
specified t (Some (token.Keyword keyword.Const)) =
    Some (record { is_static = t.is_static; is_inline = t.is_inline; is_const = true; is_volatile = t.is_volatile; base = t.base })
specified t (Some (token.Keyword keyword.Volatile)) =
    Some (record { is_static = t.is_static; is_inline = t.is_inline; is_const = t.is_const; is_volatile = true; base = t.base })
specified _ _ = None

-- one more qualifier
abbrev pub qualified : Pointer → Option TokenKind → Option Pointer
qualified q (Some (token.Keyword keyword.Const)) = Some (record { is_const = true; is_volatile = q.is_volatile })
qualified q (Some (token.Keyword keyword.Volatile)) = Some (record { is_const = q.is_const; is_volatile = true })
qualified _ _ = None

-- one more word of an integer type; the word int adds nothing
abbrev pub worded : IntegerWords → Option TokenKind → Option IntegerWords
worded w (Some (token.Keyword keyword.Signed)) = Some (record { sign = Some sign.Signed; length = w.length })
worded w (Some (token.Keyword keyword.Unsigned)) = Some (record { sign = Some sign.Unsigned; length = w.length })
worded w (Some (token.Keyword keyword.Char)) = Some (record { sign = w.sign; length = Some size.Char })
worded w (Some (token.Keyword keyword.Short)) = Some (record { sign = w.sign; length = Some size.Short })
worded w (Some (token.Keyword keyword.Long)) = Some (record { sign = w.sign; length = Some size.Long })
worded w (Some (token.Keyword keyword.Int)) = Some w
worded _ _ = None

abbrev pub no_words : IntegerWords
no_words = record { sign = None; length = None }

abbrev pub no_qualifiers : Pointer
no_qualifiers = record { is_const = false; is_volatile = false }

-- one more pointer to what these point to
abbrev pub to : Box Pointers → Pointer → Value
to inner q = value.Pointers (pointers_of.To inner q)

-- nodes
abbrev pub expression_at : Mark → expression.ExprKind → Value
expression_at mark kind = value.Expr (record { mark = mark; kind = kind })

abbrev pub prefixed : Mark → Option TokenKind → Box Expr → Option Value
prefixed mark t e = option_map (λ o. expression_at mark (expression.Prefix o e)) (prefix_of t)

abbrev pub statement_at : Mark → statement.StmtKind → Value
statement_at mark kind = value.Stmt (record { mark = mark; kind = kind })

abbrev pub label_at : Mark → LabelKind → Value
label_at mark kind = value.Label (record { mark = mark; kind = kind })

abbrev pub unit_at : Mark → UnitKind → Value
unit_at mark kind = value.Unit (record { mark = mark; kind = kind })

-- an if with what follows its first branch
abbrev pub if_of : Box Expr → Box Stmt → Option (Box Stmt) → statement.StmtKind
if_of c s None = statement.If c s
if_of c s (Some t) = statement.IfElse c s t

-- a declaration of objects
abbrev pub object_of : Specifiers → Box InitDeclarator → Box InitDeclarators → Object
object_of s d others = record { specifiers = s; declarators = objects_of.More d others }

-- what a name is declared as at the outermost level, by what follows it
abbrev pub external : Specifiers → Pointers → List ℕ → ExternalRest → UnitKind
external t p n (rest_of.Object o) = unit_of.Object (object_of t
    (at_null (record { declarator = record { pointers = p; name = n; lengths = o.lengths }; location = o.location; init = o.init }))
    (at_null o.others))
external t p n (rest_of.Function ps None) = unit_of.Prototype (record { specifiers = t; pointers = p; name = n; parameters = ps })
external t p n (rest_of.Function ps (Some body)) =
    unit_of.Function (record { specifiers = t; pointers = p; name = n; parameters = ps }) body

-- What each production makes, by its mark, which only nodes bear, its tokens and the values of its parts.
unfoldable pub table : Production → Mark → List Token → List Value → Option Value
table production.Identifier mark tokens = only (identifier (first tokens))
table production.Name mark tokens = one text (λ n. expression_at mark (expression.Name n))
table production.Number mark tokens = only (number mark (first tokens))
table production.Character mark tokens = only (character mark (first tokens))
table production.Parenthesised mark tokens = one expr (λ e. value.Expr e)
table production.Index mark tokens = two (boxed expr) (boxed expr) (λ a i. expression_at mark (expression.Index a i))
table production.CallFunction mark tokens = two text exprs (λ n all. expression_at mark (expression.CallFunction n all))
table production.Call mark tokens = two (boxed expr) exprs (λ c all. expression_at mark (expression.Call c all))
table production.Member mark tokens = two (boxed expr) text (λ a n. expression_at mark (expression.Member a n))
table production.Arrow mark tokens = two (boxed expr) text (λ a n. expression_at mark (expression.Arrow a n))
table production.PostIncrement mark tokens = one (boxed expr) (λ a. expression_at mark (expression.Postfix postfix.Increment a))
table production.PostDecrement mark tokens = one (boxed expr) (λ a. expression_at mark (expression.Postfix postfix.Decrement a))
table production.PreIncrement mark tokens = one (boxed expr) (λ a. expression_at mark (expression.Prefix prefix.Increment a))
table production.PreDecrement mark tokens = one (boxed expr) (λ a. expression_at mark (expression.Prefix prefix.Decrement a))
table production.Prefix mark tokens = perhaps (boxed expr) (λ a. prefixed mark (first tokens) a)
table production.SizeofExpression mark tokens = one (boxed expr) (λ a. expression_at mark (expression.SizeofExpression a))
table production.SizeofType mark tokens = one type_name (λ t. expression_at mark (expression.SizeofType t))
table production.Cast mark tokens = two type_name (boxed expr) (λ t a. expression_at mark (expression.Cast t a))
table (production.Binary o) mark tokens = two (boxed expr) (boxed expr) (λ a b. expression_at mark (expression.Binary o a b))
table (production.Comparison o) mark tokens = two (boxed expr) (boxed expr) (λ a b. expression_at mark (expression.Comparison o a b))
table (production.Logical o) mark tokens = two (boxed expr) (boxed expr) (λ a b. expression_at mark (expression.Logical o a b))
table production.Conditional mark tokens =
    three (boxed expr) (boxed expr) (boxed expr) (λ c a b. expression_at mark (expression.Conditional c a b))
table production.Assign mark tokens = two (boxed expr) (boxed expr) (λ a b. expression_at mark (expression.Assign a b))
table (production.AssignWith o) mark tokens = two (boxed expr) (boxed expr) (λ a b. expression_at mark (expression.AssignWith o a b))
table production.Comma mark tokens = two (boxed expr) (boxed expr) (λ a b. expression_at mark (expression.Comma a b))
table production.NoArguments mark tokens = none (value.Exprs exprs_of.End)
table production.SomeArguments mark tokens = two (boxed expr) (boxed exprs) (λ e rest. value.Exprs (exprs_of.More e rest))
table production.EndArguments mark tokens = none (value.Exprs exprs_of.End)
table production.NextArgument mark tokens = two (boxed expr) (boxed exprs) (λ e rest. value.Exprs (exprs_of.More e rest))
table production.NoExpression mark tokens = none (value.OptionalExpr None)
table production.SomeExpression mark tokens = one (boxed expr) (λ e. value.OptionalExpr (Some e))
table production.TypeName mark tokens = two specifiers pointers (λ t p. value.TypeName (record { specifiers = t; pointers = p }))
table production.Specified mark tokens = perhaps specifiers (λ t. option_map (λ s. value.Specifiers s) (specified t (first tokens)))
table production.Based mark tokens = two base qualifiers
    (λ b q. value.Specifiers (record {
      is_static = false;
      is_inline = false;
      is_const = q.is_const;
      is_volatile = q.is_volatile;
      base = b;
    }))
table production.NoQualifiers mark tokens = none (value.Qualifiers no_qualifiers)
table production.Qualified mark tokens = perhaps qualifiers (λ q. option_map (λ r. value.Qualifiers r) (qualified q (first tokens)))
table production.VoidBase mark tokens = none (value.Base base_of.Void)
table production.StructBase mark tokens = one text (λ n. value.Base (base_of.Struct n))
table production.StandardBase mark tokens = only (standard (first tokens))
table production.IntegerBase mark tokens = one words (λ w. value.Base (base_of.Integer w))
table (production.FirstWord _) mark tokens = only (option_map (λ w. value.Words w) (worded no_words (first tokens)))
table (production.NextWord _ _) mark tokens = perhaps words (λ w. option_map (λ v. value.Words v) (worded w (last tokens)))
table production.NoPointers mark tokens = none (value.Pointers pointers_of.End)
table production.Star mark tokens = one (boxed pointers) (λ p. to p no_qualifiers)
table production.QualifiedPointer mark tokens = two (boxed pointers) qualifiers (λ p q. to p q)
table production.NextPointer mark tokens = one (boxed pointers) (λ p. to p no_qualifiers)
table production.NoLengths mark tokens = none (value.Exprs exprs_of.End)
table production.Length mark tokens = two (boxed expr) (boxed exprs) (λ e rest. value.Exprs (exprs_of.More e rest))
table production.Declarator mark tokens =
    three pointers text exprs (λ p n l. value.Declarator (record { pointers = p; name = n; lengths = l }))
table production.EndDeclarators mark tokens = none (value.Declarators declarators_of.End)
table production.NextDeclarator mark tokens =
    two (boxed declarator) (boxed declarators) (λ d rest. value.Declarators (declarators_of.More d rest))
table production.StructMember mark tokens = three specifiers (boxed declarator) (boxed declarators)
    (λ t d rest. value.Member (record { specifiers = t; declarators = declarators_of.More d rest }))
table production.EndMembers mark tokens = none (value.Members members_of.End)
table production.NextMember mark tokens = two (boxed member) (boxed members) (λ m rest. value.Members (members_of.More m rest))
table production.NoLocation mark tokens = none (value.OptionalExpr None)
table production.Location mark tokens = one (boxed expr) (λ e. value.OptionalExpr (Some e))
table production.NoInitial mark tokens = none (value.OptionalInit None)
table production.Initial mark tokens = one (boxed init) (λ i. value.OptionalInit (Some i))
table production.InitialExpression mark tokens = one (boxed expr) (λ e. value.Init (init_of.Expression e))
table production.Braced mark tokens =
    two (boxed init) (boxed inits) (λ i rest. value.Init (init_of.Braced mark (at_null (inits_of.More i rest))))
table production.EndInits mark tokens = none (value.Inits inits_of.End)
table production.CommaInits mark tokens = one inits (λ all. value.Inits all)
table production.TrailingComma mark tokens = none (value.Inits inits_of.End)
table production.NextInit mark tokens = two (boxed init) (boxed inits) (λ i rest. value.Inits (inits_of.More i rest))
table production.InitDeclarator mark tokens =
    three declarator optional_expr optional_init (λ d l i. value.InitDeclarator (record { declarator = d; location = l; init = i }))
table production.EndInitDeclarators mark tokens = none (value.InitDeclarators objects_of.End)
table production.NextInitDeclarator mark tokens =
    two (boxed init_declarator) (boxed init_declarators) (λ d rest. value.InitDeclarators (objects_of.More d rest))
table production.LocalObject mark tokens = three specifiers (boxed init_declarator) (boxed init_declarators)
    (λ t d rest. value.Object (record { mark = mark; object = object_of t d rest }))
table production.Block mark tokens = one items (λ all. statement_at mark (statement.Block all))
table production.ExpressionStatement mark tokens = one optional_expr (λ e. statement_at mark (statement.Expression e))
table production.If mark tokens = three (boxed expr) (boxed stmt) optional_stmt (λ c s o. statement_at mark (if_of c s o))
table production.NoElse mark tokens = none (value.OptionalStmt None)
table production.Else mark tokens = one (boxed stmt) (λ s. value.OptionalStmt (Some s))
table production.While mark tokens = two (boxed expr) (boxed stmt) (λ c s. statement_at mark (statement.While c s))
table production.Do mark tokens = two (boxed stmt) (boxed expr) (λ s c. statement_at mark (statement.Do s c))
table production.ForObject mark tokens = one (boxed object) (λ o. value.ForFirst (first_of.Object o))
table production.ForExpression mark tokens = one optional_expr (λ e. value.ForFirst (first_of.Expression e))
table production.For mark tokens =
    four for_first optional_expr optional_expr (boxed stmt) (λ a b c s. statement_at mark (statement.For a b c s))
table production.Switch mark tokens = two (boxed expr) switch_items (λ e all. statement_at mark (statement.Switch e all))
table production.NoSwitchItems mark tokens = none (value.SwitchItems switch_of.End)
table production.FirstLabel mark tokens = two label (boxed switch_items) (λ l rest. value.SwitchItems (switch_of.Label l rest))
table production.EndSwitchItems mark tokens = none (value.SwitchItems switch_of.End)
table production.NextLabel mark tokens = two label (boxed switch_items) (λ l rest. value.SwitchItems (switch_of.Label l rest))
table production.NextSwitchStatement mark tokens =
    two (boxed stmt) (boxed switch_items) (λ s rest. value.SwitchItems (switch_of.Statement s rest))
table production.CaseLabel mark tokens = one (boxed expr) (λ e. label_at mark (label_of.Case e))
table production.DefaultLabel mark tokens = none (label_at mark label_of.Default)
table production.Break mark tokens = none (statement_at mark statement.Break)
table production.Continue mark tokens = none (statement_at mark statement.Continue)
table production.Return mark tokens = one optional_expr (λ e. statement_at mark (statement.Return e))
table production.RegionName mark tokens = only (literal (first tokens))
table production.Region mark tokens = two text items (λ n all. statement_at mark (statement.Region n all))
table production.EndItems mark tokens = none (value.Items items_of.End)
table production.NextObject mark tokens = two (boxed object) (boxed items) (λ o rest. value.Items (items_of.Object o rest))
table production.NextStatement mark tokens = two (boxed stmt) (boxed items) (λ s rest. value.Items (items_of.Statement s rest))
table production.StructUnit mark tokens =
    three text (boxed member) (boxed members) (λ n m rest. unit_at mark (unit_of.Struct n (members_of.More m rest)))
table production.RegisterUnit mark tokens = one register_type (λ _. unit_at mark unit_of.Register)
table production.UnsignedInt mark tokens = none value.RegisterType
table production.RegisterUint32 mark tokens = none value.RegisterType
table production.External mark tokens = four specifiers pointers text external_rest (λ t p n r. unit_at mark (external t p n r))
table production.ObjectRest mark tokens = four exprs optional_expr optional_init init_declarators
    (λ l a i rest. value.ExternalRest (rest_of.Object (record { lengths = l; location = a; init = i; others = rest })))
table production.FunctionRest mark tokens = two parameters function_end (λ ps e. value.ExternalRest (rest_of.Function ps e))
table production.PrototypeEnd mark tokens = none (value.FunctionEnd None)
table production.FunctionBody mark tokens = one items (λ all. value.FunctionEnd (Some all))
table production.NoParameters mark tokens = none (value.Parameters parameters_of.Empty)
table production.VoidParameters mark tokens = none (value.Parameters parameters_of.Void)
table production.SomeParameters mark tokens =
    two (boxed parameter) (boxed parameter_list) (λ p rest. value.Parameters (parameters_of.Some (list_of.More p rest)))
table production.Parameter mark tokens = four specifiers pointers text exprs
    (λ t p n l. value.Parameter (record {
      specifiers = t;
      declarator = record { pointers = p; name = n; lengths = l };
      is_open_array = false;
    }))
table production.ArrayParameter mark tokens = three specifiers pointers text
    (λ t p n. value.Parameter (record {
      specifiers = t;
      declarator = record { pointers = p; name = n; lengths = exprs_of.End };
      is_open_array = true;
    }))
table production.EndParameters mark tokens = none (value.ParameterList list_of.End)
table production.NextParameter mark tokens =
    two (boxed parameter) (boxed parameter_list) (λ p rest. value.ParameterList (list_of.More p rest))
table production.EndUnits mark tokens = none (value.Units units_of.End)
table production.NextUnit mark tokens = two (boxed unit) (boxed units) (λ u rest. value.Units (units_of.More u rest))
table production.Source mark tokens = one units (λ all. value.Units all)

abbrev pub make : Production → Place → List Value → Option Value
make production place = table production (mark_at place) place.tokens

-- What a function answers is what is made, pointers aside, and it refuses its parts only where nothing is. It may lack memory.
abbrev pub IsMade : Option Value → Result Value MakeFault → Type 0
IsMade made result = MatchResult result (λ v. made ≡ Some (bare_value v)) (λ e. e ≡ fault.Parts → made ≡ None)

abbrev pub Makes : Production → Mark → List Token → List Value → Result Value MakeFault → Type 0
Makes production mark tokens vs = IsMade (table production mark tokens (bare_values vs))
