-- How many levels values have, and how many a production adds to those of its parts: one where it makes a node.
use Rattle.std.proofs.Common.{◌≡◌, ℕ, ◌+◌, ◌≤◌, max, List, [], ◌∷◌, Option, Some, None, refl, ap, ◌∙◌, arith}
use Rattle.std.proofs.lemmas.Option.{same_Some}
use Rattle.std.specs.Option.{option_map}
use Rattle.std.specs.Global.{Box}
use Rattle.csyn.specs.declared.specifiers.Base.{Base}
use Rattle.csyn.specs.declared.specifiers.Specifiers.{Specifiers}
use Rattle.csyn.specs.declared.specifiers.IntegerWords.{IntegerWords}
use Rattle.csyn.specs.declared.specifiers.Pointer.{Pointer}
use Rattle.csyn.specs.declared.specifiers.Pointers.{Pointers}
use Rattle.csyn.specs.declared.specifiers.TypeName.{TypeName}
use Rattle.csyn.specs.declared.expression.Expr.{Expr}
use Rattle.csyn.specs.declared.expression.Exprs.{Exprs}
use Rattle.csyn.specs.declared.declaration.Declarator.{Declarator}
use Rattle.csyn.specs.declared.declaration.Declarators.{Declarators}
use Rattle.csyn.specs.declared.declaration.Member.{Member}
use Rattle.csyn.specs.declared.declaration.Members.{Members}
use Rattle.csyn.specs.declared.declaration.Init.{Init}
use Rattle.csyn.specs.declared.declaration.Inits.{Inits}
use Rattle.csyn.specs.declared.declaration.InitDeclarator.{InitDeclarator}
use Rattle.csyn.specs.declared.declaration.InitDeclarators.{InitDeclarators}
use Rattle.csyn.specs.declared.declaration.LocalObject.{LocalObject}
use Rattle.csyn.specs.declared.declaration.Parameter.{Parameter}
use Rattle.csyn.specs.declared.declaration.ParameterList.{ParameterList}
use Rattle.csyn.specs.declared.declaration.Parameters.{Parameters}
use Rattle.csyn.specs.declared.statement.ForFirst.{ForFirst}
use Rattle.csyn.specs.declared.statement.Stmt.{Stmt}
use Rattle.csyn.specs.declared.statement.Items.{Items}
use Rattle.csyn.specs.declared.statement.Label.{Label}
use Rattle.csyn.specs.declared.statement.SwitchItems.{SwitchItems}
use Rattle.csyn.specs.declared.unit.Unit as declared_unit
use Rattle.csyn.specs.declared.unit.Units.{Units}
use Rattle.cparts.specs.declared.value.ExternalRest.{ExternalRest}
use Rattle.cparts.specs.declared.value.Value.{Value}
use Rattle.cparts.specs.declared.value.Value.TheVariants as value
use Rattle.csyn.specs.declared.expression.ExprKind as expression
use Rattle.csyn.specs.Bare.{at_null}
use Rattle.csyn.specs.Levels.{expr_levels, exprs_levels, option_levels, declarator_levels, declarators_levels, members_levels}
use Rattle.csyn.specs.Levels.{init_levels, inits_levels, option_init_levels, init_declarator_levels, init_declarators_levels}
use Rattle.csyn.specs.Levels.{local_levels, parameter_list_levels, parameters_levels, for_first_levels, stmt_levels, items_levels}
use Rattle.csyn.specs.Levels.{label_levels, switch_items_levels, unit_kind_levels, stmt_kind_levels, unit_levels, units_levels}
use Rattle.csyn.specs.declared.mark.Mark.{Mark}
use Rattle.csyn.specs.declared.token.Token.{Token}
use Rattle.csyn.specs.declared.token.TokenKind.{TokenKind}
use Rattle.csyn.specs.declared.token.TokenKind.TheVariants as token
use Rattle.csyn.specs.declared.operator.PrefixOperator.{PrefixOperator}
use Rattle.cgrammar.specs.declared.production.Production.{Production}
use Rattle.cgrammar.specs.declared.production.Production.TheVariants as production
use Rattle.cgrammar.specs.Grammar.{own_nodes}
use Rattle.cparts.specs.declared.value.ExternalRest.TheVariants as rest_of
use Rattle.cparts.specs.Parts as taken
use Rattle.cparts.specs.Parts.{and_then, pick, perhaps, one, two, three, four, boxed, only, register_type, text, expr, exprs}
use Rattle.cparts.specs.Parts.{optional_expr, type_name, specifiers, base, words, qualifiers, pointers, declarator, declarators}
use Rattle.cparts.specs.Parts.{member, members, init, optional_init, inits, init_declarator, init_declarators, object, stmt}
use Rattle.cparts.specs.Parts.{optional_stmt, for_first, items, label, switch_items, external_rest, function_end, parameters}
use Rattle.cparts.specs.Parts.{parameter, parameter_list, unit, units}
use Rattle.caction.specs.Make.{table, first, last, identifier, literal, number, character, prefix_of, standard}
use Rattle.caction.specs.Make.{specified, qualified, worded, no_words, if_of, external, expression_at}

abbrev pub branch_levels : Option (Box Stmt) → ℕ
branch_levels None = 0
branch_levels (Some s) = stmt_levels s.value

abbrev pub body_levels : Option Items → ℕ
body_levels None = 0
body_levels (Some all) = items_levels all

abbrev pub rest_levels : ExternalRest → ℕ
rest_levels (rest_of.Object o) = max (exprs_levels o.lengths)
    (max (option_levels o.location) (max (option_init_levels o.init) (init_declarators_levels o.others)))
rest_levels (rest_of.Function ps body) = max (parameters_levels ps) (body_levels body)

-- how many levels a value has: types and texts have none
abbrev pub value_levels : Value → ℕ
value_levels (value.Text _) = 0
value_levels (value.Expr x) = expr_levels x
value_levels (value.Exprs x) = exprs_levels x
value_levels (value.OptionalExpr x) = option_levels x
value_levels (value.TypeName _) = 0
value_levels (value.Specifiers _) = 0
value_levels (value.Base _) = 0
value_levels (value.Words _) = 0
value_levels (value.Qualifiers _) = 0
value_levels (value.Pointers _) = 0
value_levels (value.Declarator x) = declarator_levels x
value_levels (value.Declarators x) = declarators_levels x
value_levels (value.Member m) = declarators_levels m.declarators
value_levels (value.Members x) = members_levels x
value_levels (value.Init x) = init_levels x
value_levels (value.OptionalInit x) = option_init_levels x
value_levels (value.Inits x) = inits_levels x
value_levels (value.InitDeclarator x) = init_declarator_levels x
value_levels (value.InitDeclarators x) = init_declarators_levels x
value_levels (value.Object x) = local_levels x
value_levels (value.Stmt x) = stmt_levels x
value_levels (value.OptionalStmt x) = branch_levels x
value_levels (value.ForFirst x) = for_first_levels x
value_levels (value.Items x) = items_levels x
value_levels (value.Label x) = label_levels x
value_levels (value.SwitchItems x) = switch_items_levels x
value_levels (value.ExternalRest x) = rest_levels x
value_levels (value.FunctionEnd x) = body_levels x
value_levels (value.Parameters x) = parameters_levels x
value_levels (value.Parameter p) = declarator_levels p.declarator
value_levels (value.ParameterList x) = parameter_list_levels x
value_levels (value.Unit x) = unit_levels x
value_levels (value.Units x) = units_levels x
value_levels value.RegisterType = 0

-- the most levels that one of the values has
abbrev pub greatest : List Value → ℕ
greatest [] = 0
greatest (v ∷ vs) = max (value_levels v) (greatest vs)

-- what is made, if it is, has at most so many levels
pub data AtMost : ℕ → Option Value → Type 0 where
  unmade : {n : ℕ} → AtMost n None
  at_most : {n : ℕ} {v : Value} → value_levels v ≤ n → AtMost n (Some v)

-- the levels of a value that is taken so
record Taken {A : Type 0} (take : Value → Option A) (levels : A → ℕ) : Type 0 where
  same : (v : Value) (a : A) → take v ≡ Some a → value_levels v ≡ levels a

-- and of one that is taken in a box
boxed-taken : {A : Type 0} {take : Value → Option A} {levels : A → ℕ} → Taken take levels → Taken (boxed take) (λ b. levels b.value)
boxed-taken {A} {take} {levels} taken = record { same = go }
  where
    by : (v : Value) (o : Option A) → take v ≡ o → (b : Box A) → option_map at_null o ≡ Some b → value_levels v ≡ levels b.value
    by v None e b h = absurd (cc)
    by v (Some a) e b h = taken.same v a e ∙ ap (λ (x : Box A). levels x.value) (same_Some (at_null a) b h)

    go : (v : Value) (b : Box A) → boxed take v ≡ Some b → value_levels v ≡ levels b.value
    go v b h = by v (take v) refl b h

text-taken : Taken text (λ _. 0)
text-taken = record { same = go }
  where
    go : (v : Value) (a : List ℕ) → text v ≡ Some a → value_levels v ≡ 0
    go (value.Text x) a h = refl
    go _ a h = absurd (cc)

expr-taken : Taken expr expr_levels
expr-taken = record { same = go }
  where
    go : (v : Value) (a : Expr) → expr v ≡ Some a → value_levels v ≡ expr_levels a
    go (value.Expr x) a h = ap (expr_levels) (same_Some x a h)
    go _ a h = absurd (cc)

exprs-taken : Taken exprs exprs_levels
exprs-taken = record { same = go }
  where
    go : (v : Value) (a : Exprs) → exprs v ≡ Some a → value_levels v ≡ exprs_levels a
    go (value.Exprs x) a h = ap (exprs_levels) (same_Some x a h)
    go _ a h = absurd (cc)

optional_expr-taken : Taken optional_expr option_levels
optional_expr-taken = record { same = go }
  where
    go : (v : Value) (a : Option (Box Expr)) → optional_expr v ≡ Some a → value_levels v ≡ option_levels a
    go (value.OptionalExpr x) a h = ap (option_levels) (same_Some x a h)
    go _ a h = absurd (cc)

type_name-taken : Taken type_name (λ _. 0)
type_name-taken = record { same = go }
  where
    go : (v : Value) (a : TypeName) → type_name v ≡ Some a → value_levels v ≡ 0
    go (value.TypeName x) a h = refl
    go _ a h = absurd (cc)

specifiers-taken : Taken specifiers (λ _. 0)
specifiers-taken = record { same = go }
  where
    go : (v : Value) (a : Specifiers) → specifiers v ≡ Some a → value_levels v ≡ 0
    go (value.Specifiers x) a h = refl
    go _ a h = absurd (cc)

base-taken : Taken base (λ _. 0)
base-taken = record { same = go }
  where
    go : (v : Value) (a : Base) → base v ≡ Some a → value_levels v ≡ 0
    go (value.Base x) a h = refl
    go _ a h = absurd (cc)

words-taken : Taken words (λ _. 0)
words-taken = record { same = go }
  where
    go : (v : Value) (a : IntegerWords) → words v ≡ Some a → value_levels v ≡ 0
    go (value.Words x) a h = refl
    go _ a h = absurd (cc)

qualifiers-taken : Taken qualifiers (λ _. 0)
qualifiers-taken = record { same = go }
  where
    go : (v : Value) (a : Pointer) → qualifiers v ≡ Some a → value_levels v ≡ 0
    go (value.Qualifiers x) a h = refl
    go _ a h = absurd (cc)

pointers-taken : Taken pointers (λ _. 0)
pointers-taken = record { same = go }
  where
    go : (v : Value) (a : Pointers) → pointers v ≡ Some a → value_levels v ≡ 0
    go (value.Pointers x) a h = refl
    go _ a h = absurd (cc)

declarator-taken : Taken declarator declarator_levels
declarator-taken = record { same = go }
  where
    go : (v : Value) (a : Declarator) → declarator v ≡ Some a → value_levels v ≡ declarator_levels a
    go (value.Declarator x) a h = ap (declarator_levels) (same_Some x a h)
    go _ a h = absurd (cc)

declarators-taken : Taken declarators declarators_levels
declarators-taken = record { same = go }
  where
    go : (v : Value) (a : Declarators) → declarators v ≡ Some a → value_levels v ≡ declarators_levels a
    go (value.Declarators x) a h = ap (declarators_levels) (same_Some x a h)
    go _ a h = absurd (cc)

member-taken : Taken member (λ m. declarators_levels m.declarators)
member-taken = record { same = go }
  where
    go : (v : Value) (a : Member) → member v ≡ Some a → value_levels v ≡ declarators_levels a.declarators
    go (value.Member x) a h = ap (λ (m : Member). declarators_levels m.declarators) (same_Some x a h)
    go _ a h = absurd (cc)

members-taken : Taken members members_levels
members-taken = record { same = go }
  where
    go : (v : Value) (a : Members) → members v ≡ Some a → value_levels v ≡ members_levels a
    go (value.Members x) a h = ap (members_levels) (same_Some x a h)
    go _ a h = absurd (cc)

init-taken : Taken init init_levels
init-taken = record { same = go }
  where
    go : (v : Value) (a : Init) → init v ≡ Some a → value_levels v ≡ init_levels a
    go (value.Init x) a h = ap (init_levels) (same_Some x a h)
    go _ a h = absurd (cc)

optional_init-taken : Taken optional_init option_init_levels
optional_init-taken = record { same = go }
  where
    go : (v : Value) (a : Option (Box Init)) → optional_init v ≡ Some a → value_levels v ≡ option_init_levels a
    go (value.OptionalInit x) a h = ap (option_init_levels) (same_Some x a h)
    go _ a h = absurd (cc)

inits-taken : Taken inits inits_levels
inits-taken = record { same = go }
  where
    go : (v : Value) (a : Inits) → inits v ≡ Some a → value_levels v ≡ inits_levels a
    go (value.Inits x) a h = ap (inits_levels) (same_Some x a h)
    go _ a h = absurd (cc)

init_declarator-taken : Taken init_declarator init_declarator_levels
init_declarator-taken = record { same = go }
  where
    go : (v : Value) (a : InitDeclarator) → init_declarator v ≡ Some a → value_levels v ≡ init_declarator_levels a
    go (value.InitDeclarator x) a h = ap (init_declarator_levels) (same_Some x a h)
    go _ a h = absurd (cc)

init_declarators-taken : Taken init_declarators init_declarators_levels
init_declarators-taken = record { same = go }
  where
    go : (v : Value) (a : InitDeclarators) → init_declarators v ≡ Some a → value_levels v ≡ init_declarators_levels a
    go (value.InitDeclarators x) a h = ap (init_declarators_levels) (same_Some x a h)
    go _ a h = absurd (cc)

object-taken : Taken object local_levels
object-taken = record { same = go }
  where
    go : (v : Value) (a : LocalObject) → object v ≡ Some a → value_levels v ≡ local_levels a
    go (value.Object x) a h = ap (local_levels) (same_Some x a h)
    go _ a h = absurd (cc)

stmt-taken : Taken stmt stmt_levels
stmt-taken = record { same = go }
  where
    go : (v : Value) (a : Stmt) → stmt v ≡ Some a → value_levels v ≡ stmt_levels a
    go (value.Stmt x) a h = ap (stmt_levels) (same_Some x a h)
    go _ a h = absurd (cc)

optional_stmt-taken : Taken optional_stmt branch_levels
optional_stmt-taken = record { same = go }
  where
    go : (v : Value) (a : Option (Box Stmt)) → optional_stmt v ≡ Some a → value_levels v ≡ branch_levels a
    go (value.OptionalStmt x) a h = ap (branch_levels) (same_Some x a h)
    go _ a h = absurd (cc)

for_first-taken : Taken for_first for_first_levels
for_first-taken = record { same = go }
  where
    go : (v : Value) (a : ForFirst) → for_first v ≡ Some a → value_levels v ≡ for_first_levels a
    go (value.ForFirst x) a h = ap (for_first_levels) (same_Some x a h)
    go _ a h = absurd (cc)

items-taken : Taken items items_levels
items-taken = record { same = go }
  where
    go : (v : Value) (a : Items) → items v ≡ Some a → value_levels v ≡ items_levels a
    go (value.Items x) a h = ap (items_levels) (same_Some x a h)
    go _ a h = absurd (cc)

label-taken : Taken label label_levels
label-taken = record { same = go }
  where
    go : (v : Value) (a : Label) → label v ≡ Some a → value_levels v ≡ label_levels a
    go (value.Label x) a h = ap (label_levels) (same_Some x a h)
    go _ a h = absurd (cc)

switch_items-taken : Taken switch_items switch_items_levels
switch_items-taken = record { same = go }
  where
    go : (v : Value) (a : SwitchItems) → switch_items v ≡ Some a → value_levels v ≡ switch_items_levels a
    go (value.SwitchItems x) a h = ap (switch_items_levels) (same_Some x a h)
    go _ a h = absurd (cc)

external_rest-taken : Taken external_rest rest_levels
external_rest-taken = record { same = go }
  where
    go : (v : Value) (a : ExternalRest) → external_rest v ≡ Some a → value_levels v ≡ rest_levels a
    go (value.ExternalRest x) a h = ap (rest_levels) (same_Some x a h)
    go _ a h = absurd (cc)

function_end-taken : Taken function_end body_levels
function_end-taken = record { same = go }
  where
    go : (v : Value) (a : Option Items) → function_end v ≡ Some a → value_levels v ≡ body_levels a
    go (value.FunctionEnd x) a h = ap (body_levels) (same_Some x a h)
    go _ a h = absurd (cc)

parameters-taken : Taken parameters parameters_levels
parameters-taken = record { same = go }
  where
    go : (v : Value) (a : Parameters) → parameters v ≡ Some a → value_levels v ≡ parameters_levels a
    go (value.Parameters x) a h = ap (parameters_levels) (same_Some x a h)
    go _ a h = absurd (cc)

parameter-taken : Taken parameter (λ p. declarator_levels p.declarator)
parameter-taken = record { same = go }
  where
    go : (v : Value) (a : Parameter) → parameter v ≡ Some a → value_levels v ≡ declarator_levels a.declarator
    go (value.Parameter x) a h = ap (λ (p : Parameter). declarator_levels p.declarator) (same_Some x a h)
    go _ a h = absurd (cc)

parameter_list-taken : Taken parameter_list parameter_list_levels
parameter_list-taken = record { same = go }
  where
    go : (v : Value) (a : ParameterList) → parameter_list v ≡ Some a → value_levels v ≡ parameter_list_levels a
    go (value.ParameterList x) a h = ap (parameter_list_levels) (same_Some x a h)
    go _ a h = absurd (cc)

unit-taken : Taken unit unit_levels
unit-taken = record { same = go }
  where
    go : (v : Value) (a : declared_unit.Unit) → unit v ≡ Some a → value_levels v ≡ unit_levels a
    go (value.Unit x) a h = ap (unit_levels) (same_Some x a h)
    go _ a h = absurd (cc)

units-taken : Taken units units_levels
units-taken = record { same = go }
  where
    go : (v : Value) (a : Units) → units v ≡ Some a → value_levels v ≡ units_levels a
    go (value.Units x) a h = ap (units_levels) (same_Some x a h)
    go _ a h = absurd (cc)

register_type-taken : Taken register_type (λ _. 0)
register_type-taken = record { same = go }
  where
    go : (v : Value) (a : Unit {0}) → register_type v ≡ Some a → value_levels v ≡ 0
    go value.RegisterType a h = refl
    go _ a h = absurd (cc)

pub raise : (m n : ℕ) (o : Option Value) → m ≤ n → AtMost m o → AtMost n o
raise m n _ l unmade = unmade
raise m n _ l (at_most h) = at_most (omega arith)

-- Of values of which one is taken at a time: m levels were taken before, and n are added.
pick-levels : {A : Type 0} {take : Value → Option A} {levels : A → ℕ} (n m : ℕ) → Taken take levels
    → (go_on : A → List Value → Option Value)
    → ((a : A) (ws : List Value) → AtMost (n + max (max m (levels a)) (greatest ws)) (go_on a ws))
    → (vs : List Value) → AtMost (n + max m (greatest vs)) (pick take go_on vs)
unfolding pick
pick-levels n m taken go_on each [] = unmade
pick-levels {A} {take} {levels} n m taken go_on each (v ∷ vs) = go (take v) refl
  where
    go : (o : Option A) → take v ≡ o → AtMost (n + max m (max (value_levels v) (greatest vs))) (and_then o (λ a. go_on a vs))
    go None e = unmade
    go (Some a) e = let same : value_levels v ≡ levels a = taken.same v a e in raise _ _ _ (omega arith) (each a vs)

only-levels : (n : ℕ) (made : Option Value) → AtMost n made → (ws : List Value) → AtMost n (only made ws)
only-levels n made h [] = h
only-levels n made h (_ ∷ _) = unmade

-- the values of tokens
identifier-levels : (o : Option TokenKind) (n : ℕ) → AtMost n (identifier o)
identifier-levels (Some (token.Identifier _)) n = at_most (omega arith)
identifier-levels (Some _) n = unmade
identifier-levels None n = unmade

literal-levels : (o : Option TokenKind) (n : ℕ) → AtMost n (literal o)
literal-levels (Some (token.Literal _)) n = at_most (omega arith)
literal-levels (Some _) n = unmade
literal-levels None n = unmade

number-levels : (mark : Mark) (o : Option TokenKind) (n : ℕ) → AtMost (1 + n) (number mark o)
number-levels mark (Some (token.Number _)) n = at_most (omega arith)
number-levels mark (Some _) n = unmade
number-levels mark None n = unmade

character-levels : (mark : Mark) (o : Option TokenKind) (n : ℕ) → AtMost (1 + n) (character mark o)
character-levels mark (Some (token.Character _)) n = at_most (omega arith)
character-levels mark (Some _) n = unmade
character-levels mark None n = unmade

standard-levels : (o : Option TokenKind) (n : ℕ) → AtMost n (standard o)
standard-levels (Some (token.Standard _)) n = at_most (omega arith)
standard-levels (Some _) n = unmade
standard-levels None n = unmade

-- what has no levels, if it is made
flat : {A : Type 0} (o : Option A) (to : A → Value) → ((a : A) → value_levels (to a) ≡ 0) → (n : ℕ) → AtMost n (option_map to o)
flat None to none n = unmade
flat (Some a) to none n = let e = none a in at_most (omega arith)

prefixed-levels : (mark : Mark) (o : Option PrefixOperator) (e : Box Expr)
    → AtMost (1 + expr_levels e.value) (option_map (λ p. expression_at mark (expression.Prefix p e)) o)
prefixed-levels mark None e = unmade
prefixed-levels mark (Some _) e = at_most (omega arith)

if-levels : (c : Box Expr) (s : Box Stmt) (o : Option (Box Stmt))
    → stmt_kind_levels (if_of c s o) ≤ 1 + max (max (expr_levels c.value) (stmt_levels s.value)) (branch_levels o)
if-levels c s None = omega arith
if-levels c s (Some t) = omega arith

external-levels : (t : Specifiers) (p : Pointers) (n : List ℕ) (r : ExternalRest) → unit_kind_levels (external t p n r) ≤ 1 + rest_levels r
external-levels t p n (rest_of.Object o) = omega arith
external-levels t p n (rest_of.Function ps None) = omega arith
external-levels t p n (rest_of.Function ps (Some body)) = omega arith

-- what a production makes has at most as many levels as its parts, and one more if it is a node
pub table-levels : (p : Production) (mark : Mark) (tokens : List Token) (vs : List Value)
    → AtMost (own_nodes p + max 0 (greatest vs)) (table p mark tokens vs)
unfolding table own_nodes perhaps one two three four taken.none
table-levels production.Identifier mark tokens vs = only-levels _ _ (identifier-levels (first tokens) _) vs
table-levels production.Name mark tokens vs = pick-levels 1 _ text-taken _ (λ a ws0. only-levels _ _ (at_most (omega arith)) ws0) vs
table-levels production.Number mark tokens vs = only-levels _ _ (number-levels mark (first tokens) _) vs
table-levels production.Character mark tokens vs = only-levels _ _ (character-levels mark (first tokens) _) vs
table-levels production.Parenthesised mark tokens vs = pick-levels 0 _ expr-taken _
    (λ a ws0. only-levels _ _ (at_most (omega arith)) ws0) vs
table-levels production.Index mark tokens vs = pick-levels 1 _ (boxed-taken expr-taken) _
    (λ a ws0. pick-levels 1 _ (boxed-taken expr-taken) _ (λ b ws1. only-levels _ _ (at_most (omega arith)) ws1) ws0) vs
table-levels production.CallFunction mark tokens vs = pick-levels 1 _ text-taken _
    (λ a ws0. pick-levels 1 _ exprs-taken _ (λ b ws1. only-levels _ _ (at_most (omega arith)) ws1) ws0) vs
table-levels production.Call mark tokens vs = pick-levels 1 _ (boxed-taken expr-taken) _
    (λ a ws0. pick-levels 1 _ exprs-taken _ (λ b ws1. only-levels _ _ (at_most (omega arith)) ws1) ws0) vs
table-levels production.Member mark tokens vs = pick-levels 1 _ (boxed-taken expr-taken) _
    (λ a ws0. pick-levels 1 _ text-taken _ (λ b ws1. only-levels _ _ (at_most (omega arith)) ws1) ws0) vs
table-levels production.Arrow mark tokens vs = pick-levels 1 _ (boxed-taken expr-taken) _
    (λ a ws0. pick-levels 1 _ text-taken _ (λ b ws1. only-levels _ _ (at_most (omega arith)) ws1) ws0) vs
table-levels production.PostIncrement mark tokens vs = pick-levels 1 _ (boxed-taken expr-taken) _
    (λ a ws0. only-levels _ _ (at_most (omega arith)) ws0) vs
table-levels production.PostDecrement mark tokens vs = pick-levels 1 _ (boxed-taken expr-taken) _
    (λ a ws0. only-levels _ _ (at_most (omega arith)) ws0) vs
table-levels production.PreIncrement mark tokens vs = pick-levels 1 _ (boxed-taken expr-taken) _
    (λ a ws0. only-levels _ _ (at_most (omega arith)) ws0) vs
table-levels production.PreDecrement mark tokens vs = pick-levels 1 _ (boxed-taken expr-taken) _
    (λ a ws0. only-levels _ _ (at_most (omega arith)) ws0) vs
table-levels production.Prefix mark tokens vs = pick-levels 1 _ (boxed-taken expr-taken) _
    (λ a ws0. only-levels _ _ (raise _ _ _ (omega arith) (prefixed-levels mark (prefix_of (first tokens)) a)) ws0) vs
table-levels production.SizeofExpression mark tokens vs = pick-levels 1 _ (boxed-taken expr-taken) _
    (λ a ws0. only-levels _ _ (at_most (omega arith)) ws0) vs
table-levels production.SizeofType mark tokens vs = pick-levels 1 _ type_name-taken _
    (λ a ws0. only-levels _ _ (at_most (omega arith)) ws0) vs
table-levels production.Cast mark tokens vs = pick-levels 1 _ type_name-taken _
    (λ a ws0. pick-levels 1 _ (boxed-taken expr-taken) _ (λ b ws1. only-levels _ _ (at_most (omega arith)) ws1) ws0) vs
table-levels (production.Binary o) mark tokens vs = pick-levels 1 _ (boxed-taken expr-taken) _
    (λ a ws0. pick-levels 1 _ (boxed-taken expr-taken) _ (λ b ws1. only-levels _ _ (at_most (omega arith)) ws1) ws0) vs
table-levels (production.Comparison o) mark tokens vs = pick-levels 1 _ (boxed-taken expr-taken) _
    (λ a ws0. pick-levels 1 _ (boxed-taken expr-taken) _ (λ b ws1. only-levels _ _ (at_most (omega arith)) ws1) ws0) vs
table-levels (production.Logical o) mark tokens vs = pick-levels 1 _ (boxed-taken expr-taken) _
    (λ a ws0. pick-levels 1 _ (boxed-taken expr-taken) _ (λ b ws1. only-levels _ _ (at_most (omega arith)) ws1) ws0) vs
table-levels production.Conditional mark tokens vs = pick-levels 1 _ (boxed-taken expr-taken) _
    (λ a ws0. pick-levels 1 _ (boxed-taken expr-taken) _ (λ b ws1. pick-levels 1 _ (boxed-taken expr-taken) _
    (λ c ws2. only-levels _ _ (at_most (omega arith)) ws2) ws1) ws0) vs
table-levels production.Assign mark tokens vs = pick-levels 1 _ (boxed-taken expr-taken) _
    (λ a ws0. pick-levels 1 _ (boxed-taken expr-taken) _ (λ b ws1. only-levels _ _ (at_most (omega arith)) ws1) ws0) vs
table-levels (production.AssignWith o) mark tokens vs = pick-levels 1 _ (boxed-taken expr-taken) _
    (λ a ws0. pick-levels 1 _ (boxed-taken expr-taken) _ (λ b ws1. only-levels _ _ (at_most (omega arith)) ws1) ws0) vs
table-levels production.Comma mark tokens vs = pick-levels 1 _ (boxed-taken expr-taken) _
    (λ a ws0. pick-levels 1 _ (boxed-taken expr-taken) _ (λ b ws1. only-levels _ _ (at_most (omega arith)) ws1) ws0) vs
table-levels production.NoArguments mark tokens vs = only-levels _ _ (at_most (omega arith)) vs
table-levels production.SomeArguments mark tokens vs = pick-levels 0 _ (boxed-taken expr-taken) _
    (λ a ws0. pick-levels 0 _ (boxed-taken exprs-taken) _ (λ b ws1. only-levels _ _ (at_most (omega arith)) ws1) ws0) vs
table-levels production.EndArguments mark tokens vs = only-levels _ _ (at_most (omega arith)) vs
table-levels production.NextArgument mark tokens vs = pick-levels 0 _ (boxed-taken expr-taken) _
    (λ a ws0. pick-levels 0 _ (boxed-taken exprs-taken) _ (λ b ws1. only-levels _ _ (at_most (omega arith)) ws1) ws0) vs
table-levels production.NoExpression mark tokens vs = only-levels _ _ (at_most (omega arith)) vs
table-levels production.SomeExpression mark tokens vs = pick-levels 0 _ (boxed-taken expr-taken) _
    (λ a ws0. only-levels _ _ (at_most (omega arith)) ws0) vs
table-levels production.TypeName mark tokens vs = pick-levels 0 _ specifiers-taken _
    (λ a ws0. pick-levels 0 _ pointers-taken _ (λ b ws1. only-levels _ _ (at_most (omega arith)) ws1) ws0) vs
table-levels production.Specified mark tokens vs = pick-levels 0 _ specifiers-taken _
    (λ a ws0. only-levels _ _ (flat (specified a (first tokens)) (λ s. value.Specifiers s) (λ _. refl) _) ws0) vs
table-levels production.Based mark tokens vs = pick-levels 0 _ base-taken _
    (λ a ws0. pick-levels 0 _ qualifiers-taken _ (λ b ws1. only-levels _ _ (at_most (omega arith)) ws1) ws0) vs
table-levels production.NoQualifiers mark tokens vs = only-levels _ _ (at_most (omega arith)) vs
table-levels production.Qualified mark tokens vs = pick-levels 0 _ qualifiers-taken _
    (λ a ws0. only-levels _ _ (flat (qualified a (first tokens)) (λ r. value.Qualifiers r) (λ _. refl) _) ws0) vs
table-levels production.VoidBase mark tokens vs = only-levels _ _ (at_most (omega arith)) vs
table-levels production.StructBase mark tokens vs = pick-levels 0 _ text-taken _ (λ a ws0. only-levels _ _ (at_most (omega arith)) ws0) vs
table-levels production.StandardBase mark tokens vs = only-levels _ _ (standard-levels (first tokens) _) vs
table-levels production.IntegerBase mark tokens vs = pick-levels 0 _ words-taken _ (λ a ws0. only-levels _ _ (at_most (omega arith)) ws0) vs
table-levels (production.FirstWord w) mark tokens vs = only-levels _ _
    (flat (worded no_words (first tokens)) (λ w. value.Words w) (λ _. refl) _) vs
table-levels (production.NextWord all w) mark tokens vs = pick-levels 0 _ words-taken _
    (λ a ws0. only-levels _ _ (flat (worded a (last tokens)) (λ v. value.Words v) (λ _. refl) _) ws0) vs
table-levels production.NoPointers mark tokens vs = only-levels _ _ (at_most (omega arith)) vs
table-levels production.Star mark tokens vs = pick-levels 0 _ (boxed-taken pointers-taken) _
    (λ a ws0. only-levels _ _ (at_most (omega arith)) ws0) vs
table-levels production.QualifiedPointer mark tokens vs = pick-levels 0 _ (boxed-taken pointers-taken) _
    (λ a ws0. pick-levels 0 _ qualifiers-taken _ (λ b ws1. only-levels _ _ (at_most (omega arith)) ws1) ws0) vs
table-levels production.NextPointer mark tokens vs = pick-levels 0 _ (boxed-taken pointers-taken) _
    (λ a ws0. only-levels _ _ (at_most (omega arith)) ws0) vs
table-levels production.NoLengths mark tokens vs = only-levels _ _ (at_most (omega arith)) vs
table-levels production.Length mark tokens vs = pick-levels 0 _ (boxed-taken expr-taken) _
    (λ a ws0. pick-levels 0 _ (boxed-taken exprs-taken) _ (λ b ws1. only-levels _ _ (at_most (omega arith)) ws1) ws0) vs
table-levels production.Declarator mark tokens vs = pick-levels 0 _ pointers-taken _
    (λ a ws0. pick-levels 0 _ text-taken _ (λ b ws1. pick-levels 0 _ exprs-taken _
    (λ c ws2. only-levels _ _ (at_most (omega arith)) ws2) ws1) ws0) vs
table-levels production.EndDeclarators mark tokens vs = only-levels _ _ (at_most (omega arith)) vs
table-levels production.NextDeclarator mark tokens vs = pick-levels 0 _ (boxed-taken declarator-taken) _
    (λ a ws0. pick-levels 0 _ (boxed-taken declarators-taken) _ (λ b ws1. only-levels _ _ (at_most (omega arith)) ws1) ws0) vs
table-levels production.StructMember mark tokens vs = pick-levels 0 _ specifiers-taken _
    (λ a ws0. pick-levels 0 _ (boxed-taken declarator-taken) _
    (λ b ws1. pick-levels 0 _ (boxed-taken declarators-taken) _ (λ c ws2. only-levels _ _ (at_most (omega arith)) ws2) ws1) ws0) vs
table-levels production.EndMembers mark tokens vs = only-levels _ _ (at_most (omega arith)) vs
table-levels production.NextMember mark tokens vs = pick-levels 0 _ (boxed-taken member-taken) _
    (λ a ws0. pick-levels 0 _ (boxed-taken members-taken) _ (λ b ws1. only-levels _ _ (at_most (omega arith)) ws1) ws0) vs
table-levels production.NoLocation mark tokens vs = only-levels _ _ (at_most (omega arith)) vs
table-levels production.Location mark tokens vs = pick-levels 0 _ (boxed-taken expr-taken) _
    (λ a ws0. only-levels _ _ (at_most (omega arith)) ws0) vs
table-levels production.NoInitial mark tokens vs = only-levels _ _ (at_most (omega arith)) vs
table-levels production.Initial mark tokens vs = pick-levels 0 _ (boxed-taken init-taken) _
    (λ a ws0. only-levels _ _ (at_most (omega arith)) ws0) vs
table-levels production.InitialExpression mark tokens vs = pick-levels 0 _ (boxed-taken expr-taken) _
    (λ a ws0. only-levels _ _ (at_most (omega arith)) ws0) vs
table-levels production.Braced mark tokens vs = pick-levels 1 _ (boxed-taken init-taken) _
    (λ a ws0. pick-levels 1 _ (boxed-taken inits-taken) _ (λ b ws1. only-levels _ _ (at_most (omega arith)) ws1) ws0) vs
table-levels production.EndInits mark tokens vs = only-levels _ _ (at_most (omega arith)) vs
table-levels production.CommaInits mark tokens vs = pick-levels 0 _ inits-taken _ (λ a ws0. only-levels _ _ (at_most (omega arith)) ws0) vs
table-levels production.TrailingComma mark tokens vs = only-levels _ _ (at_most (omega arith)) vs
table-levels production.NextInit mark tokens vs = pick-levels 0 _ (boxed-taken init-taken) _
    (λ a ws0. pick-levels 0 _ (boxed-taken inits-taken) _ (λ b ws1. only-levels _ _ (at_most (omega arith)) ws1) ws0) vs
table-levels production.InitDeclarator mark tokens vs = pick-levels 0 _ declarator-taken _
    (λ a ws0. pick-levels 0 _ optional_expr-taken _ (λ b ws1. pick-levels 0 _ optional_init-taken _
    (λ c ws2. only-levels _ _ (at_most (omega arith)) ws2) ws1) ws0) vs
table-levels production.EndInitDeclarators mark tokens vs = only-levels _ _ (at_most (omega arith)) vs
table-levels production.NextInitDeclarator mark tokens vs = pick-levels 0 _ (boxed-taken init_declarator-taken) _
    (λ a ws0. pick-levels 0 _ (boxed-taken init_declarators-taken) _ (λ b ws1. only-levels _ _ (at_most (omega arith)) ws1) ws0) vs
table-levels production.LocalObject mark tokens vs = pick-levels 1 _ specifiers-taken _
    (λ a ws0. pick-levels 1 _ (boxed-taken init_declarator-taken) _
    (λ b ws1. pick-levels 1 _ (boxed-taken init_declarators-taken) _ (λ c ws2. only-levels _ _ (at_most (omega arith)) ws2) ws1) ws0) vs
table-levels production.Block mark tokens vs = pick-levels 1 _ items-taken _ (λ a ws0. only-levels _ _ (at_most (omega arith)) ws0) vs
table-levels production.ExpressionStatement mark tokens vs =
    pick-levels 1 _ optional_expr-taken _ (λ a ws0. only-levels _ _ (at_most (omega arith)) ws0) vs
table-levels production.If mark tokens vs = pick-levels 1 _ (boxed-taken expr-taken) _
    (λ a ws0. pick-levels 1 _ (boxed-taken stmt-taken) _ (λ b ws1. pick-levels 1 _ optional_stmt-taken _
    (λ c ws2. only-levels _ _ (at_most (omega (arith, if-levels a b c))) ws2) ws1) ws0) vs
table-levels production.NoElse mark tokens vs = only-levels _ _ (at_most (omega arith)) vs
table-levels production.Else mark tokens vs = pick-levels 0 _ (boxed-taken stmt-taken) _
    (λ a ws0. only-levels _ _ (at_most (omega arith)) ws0) vs
table-levels production.While mark tokens vs = pick-levels 1 _ (boxed-taken expr-taken) _
    (λ a ws0. pick-levels 1 _ (boxed-taken stmt-taken) _ (λ b ws1. only-levels _ _ (at_most (omega arith)) ws1) ws0) vs
table-levels production.Do mark tokens vs = pick-levels 1 _ (boxed-taken stmt-taken) _
    (λ a ws0. pick-levels 1 _ (boxed-taken expr-taken) _ (λ b ws1. only-levels _ _ (at_most (omega arith)) ws1) ws0) vs
table-levels production.ForObject mark tokens vs = pick-levels 0 _ (boxed-taken object-taken) _
    (λ a ws0. only-levels _ _ (at_most (omega arith)) ws0) vs
table-levels production.ForExpression mark tokens vs = pick-levels 0 _ optional_expr-taken _
    (λ a ws0. only-levels _ _ (at_most (omega arith)) ws0) vs
table-levels production.For mark tokens vs = pick-levels 1 _ for_first-taken _
    (λ a ws0. pick-levels 1 _ optional_expr-taken _ (λ b ws1. pick-levels 1 _ optional_expr-taken _
    (λ c ws2. pick-levels 1 _ (boxed-taken stmt-taken) _ (λ d ws3. only-levels _ _ (at_most (omega arith)) ws3) ws2) ws1) ws0) vs
table-levels production.Switch mark tokens vs = pick-levels 1 _ (boxed-taken expr-taken) _
    (λ a ws0. pick-levels 1 _ switch_items-taken _ (λ b ws1. only-levels _ _ (at_most (omega arith)) ws1) ws0) vs
table-levels production.NoSwitchItems mark tokens vs = only-levels _ _ (at_most (omega arith)) vs
table-levels production.FirstLabel mark tokens vs = pick-levels 0 _ label-taken _
    (λ a ws0. pick-levels 0 _ (boxed-taken switch_items-taken) _ (λ b ws1. only-levels _ _ (at_most (omega arith)) ws1) ws0) vs
table-levels production.EndSwitchItems mark tokens vs = only-levels _ _ (at_most (omega arith)) vs
table-levels production.NextLabel mark tokens vs = pick-levels 0 _ label-taken _
    (λ a ws0. pick-levels 0 _ (boxed-taken switch_items-taken) _ (λ b ws1. only-levels _ _ (at_most (omega arith)) ws1) ws0) vs
table-levels production.NextSwitchStatement mark tokens vs =
    pick-levels 0 _ (boxed-taken stmt-taken) _ (λ a ws0. pick-levels 0 _ (boxed-taken switch_items-taken) _
    (λ b ws1. only-levels _ _ (at_most (omega arith)) ws1) ws0) vs
table-levels production.CaseLabel mark tokens vs = pick-levels 1 _ (boxed-taken expr-taken) _
    (λ a ws0. only-levels _ _ (at_most (omega arith)) ws0) vs
table-levels production.DefaultLabel mark tokens vs = only-levels _ _ (at_most (omega arith)) vs
table-levels production.Break mark tokens vs = only-levels _ _ (at_most (omega arith)) vs
table-levels production.Continue mark tokens vs = only-levels _ _ (at_most (omega arith)) vs
table-levels production.Return mark tokens vs = pick-levels 1 _ optional_expr-taken _
    (λ a ws0. only-levels _ _ (at_most (omega arith)) ws0) vs
table-levels production.RegionName mark tokens vs = only-levels _ _ (literal-levels (first tokens) _) vs
table-levels production.Region mark tokens vs = pick-levels 1 _ text-taken _
    (λ a ws0. pick-levels 1 _ items-taken _ (λ b ws1. only-levels _ _ (at_most (omega arith)) ws1) ws0) vs
table-levels production.EndItems mark tokens vs = only-levels _ _ (at_most (omega arith)) vs
table-levels production.NextObject mark tokens vs = pick-levels 0 _ (boxed-taken object-taken) _
    (λ a ws0. pick-levels 0 _ (boxed-taken items-taken) _ (λ b ws1. only-levels _ _ (at_most (omega arith)) ws1) ws0) vs
table-levels production.NextStatement mark tokens vs = pick-levels 0 _ (boxed-taken stmt-taken) _
    (λ a ws0. pick-levels 0 _ (boxed-taken items-taken) _ (λ b ws1. only-levels _ _ (at_most (omega arith)) ws1) ws0) vs
table-levels production.StructUnit mark tokens vs = pick-levels 1 _ text-taken _
    (λ a ws0. pick-levels 1 _ (boxed-taken member-taken) _
    (λ b ws1. pick-levels 1 _ (boxed-taken members-taken) _ (λ c ws2. only-levels _ _ (at_most (omega arith)) ws2) ws1) ws0) vs
table-levels production.RegisterUnit mark tokens vs = pick-levels 1 _ register_type-taken _
    (λ a ws0. only-levels _ _ (at_most (omega arith)) ws0) vs
table-levels production.UnsignedInt mark tokens vs = only-levels _ _ (at_most (omega arith)) vs
table-levels production.RegisterUint32 mark tokens vs = only-levels _ _ (at_most (omega arith)) vs
table-levels production.External mark tokens vs = pick-levels 1 _ specifiers-taken _
    (λ a ws0. pick-levels 1 _ pointers-taken _ (λ b ws1. pick-levels 1 _ text-taken _
    (λ c ws2. pick-levels 1 _ external_rest-taken _ (λ d ws3. only-levels _ _ (at_most (omega (arith, external-levels a b c d)))
    ws3) ws2) ws1) ws0) vs
table-levels production.ObjectRest mark tokens vs = pick-levels 0 _ exprs-taken _
    (λ a ws0. pick-levels 0 _ optional_expr-taken _ (λ b ws1. pick-levels 0 _ optional_init-taken _
    (λ c ws2. pick-levels 0 _ init_declarators-taken _ (λ d ws3. only-levels _ _ (at_most (omega arith)) ws3) ws2) ws1) ws0) vs
table-levels production.FunctionRest mark tokens vs = pick-levels 0 _ parameters-taken _
    (λ a ws0. pick-levels 0 _ function_end-taken _ (λ b ws1. only-levels _ _ (at_most (omega arith)) ws1) ws0) vs
table-levels production.PrototypeEnd mark tokens vs = only-levels _ _ (at_most (omega arith)) vs
table-levels production.FunctionBody mark tokens vs = pick-levels 0 _ items-taken _
    (λ a ws0. only-levels _ _ (at_most (omega arith)) ws0) vs
table-levels production.NoParameters mark tokens vs = only-levels _ _ (at_most (omega arith)) vs
table-levels production.VoidParameters mark tokens vs = only-levels _ _ (at_most (omega arith)) vs
table-levels production.SomeParameters mark tokens vs = pick-levels 0 _ (boxed-taken parameter-taken) _
    (λ a ws0. pick-levels 0 _ (boxed-taken parameter_list-taken) _ (λ b ws1. only-levels _ _ (at_most (omega arith)) ws1) ws0) vs
table-levels production.Parameter mark tokens vs = pick-levels 0 _ specifiers-taken _
    (λ a ws0. pick-levels 0 _ pointers-taken _ (λ b ws1. pick-levels 0 _ text-taken _
    (λ c ws2. pick-levels 0 _ exprs-taken _ (λ d ws3. only-levels _ _ (at_most (omega arith)) ws3) ws2) ws1) ws0) vs
table-levels production.ArrayParameter mark tokens vs = pick-levels 0 _ specifiers-taken _
    (λ a ws0. pick-levels 0 _ pointers-taken _ (λ b ws1. pick-levels 0 _ text-taken _
    (λ c ws2. only-levels _ _ (at_most (omega arith)) ws2) ws1) ws0) vs
table-levels production.EndParameters mark tokens vs = only-levels _ _ (at_most (omega arith)) vs
table-levels production.NextParameter mark tokens vs = pick-levels 0 _ (boxed-taken parameter-taken) _
    (λ a ws0. pick-levels 0 _ (boxed-taken parameter_list-taken) _ (λ b ws1. only-levels _ _ (at_most (omega arith)) ws1) ws0) vs
table-levels production.EndUnits mark tokens vs = only-levels _ _ (at_most (omega arith)) vs
table-levels production.NextUnit mark tokens vs = pick-levels 0 _ (boxed-taken unit-taken) _
    (λ a ws0. pick-levels 0 _ (boxed-taken units-taken) _ (λ b ws1. only-levels _ _ (at_most (omega arith)) ws1) ws0) vs
table-levels production.Source mark tokens vs = pick-levels 0 _ units-taken _ (λ a ws0. only-levels _ _ (at_most (omega arith)) ws0) vs
