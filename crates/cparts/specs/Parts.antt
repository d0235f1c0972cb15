-- How a production takes the values of its parts: each in turn, as the kind of value that it has to be, and all of them.
use Rattle.std.specs.Prelude.{ℕ, List, [], ◌∷◌, Option, Some, None, drop}
use Rattle.std.specs.Option.{option_map}
use Rattle.std.specs.Global.{Box}
use Rattle.csyn.specs.Bare.{at_null}
use Rattle.csyn.specs.declared.specifiers.Base.{Base}
use Rattle.csyn.specs.declared.specifiers.Specifiers.{Specifiers}
use Rattle.csyn.specs.declared.specifiers.IntegerWords.{IntegerWords}
use Rattle.csyn.specs.declared.specifiers.Pointer.{Pointer}
use Rattle.csyn.specs.declared.specifiers.Pointers.{Pointers}
use Rattle.csyn.specs.declared.specifiers.TypeName.{TypeName}
use Rattle.csyn.specs.declared.expression.Expr.{Expr}
use Rattle.csyn.specs.declared.expression.Exprs.{Exprs}
use Rattle.csyn.specs.declared.declaration.Declarator.{Declarator}
use Rattle.csyn.specs.declared.declaration.Declarators.{Declarators}
use Rattle.csyn.specs.declared.declaration.Member.{Member}
use Rattle.csyn.specs.declared.declaration.Members.{Members}
use Rattle.csyn.specs.declared.declaration.Init.{Init}
use Rattle.csyn.specs.declared.declaration.Inits.{Inits}
use Rattle.csyn.specs.declared.declaration.InitDeclarator.{InitDeclarator}
use Rattle.csyn.specs.declared.declaration.InitDeclarators.{InitDeclarators}
use Rattle.csyn.specs.declared.declaration.LocalObject.{LocalObject}
use Rattle.csyn.specs.declared.declaration.Parameter.{Parameter}
use Rattle.csyn.specs.declared.declaration.ParameterList.{ParameterList}
use Rattle.csyn.specs.declared.declaration.Parameters.{Parameters}
use Rattle.csyn.specs.declared.statement.ForFirst.{ForFirst}
use Rattle.csyn.specs.declared.statement.Label.{Label}
use Rattle.csyn.specs.declared.statement.Stmt.{Stmt}
use Rattle.csyn.specs.declared.statement.SwitchItems.{SwitchItems}
use Rattle.csyn.specs.declared.statement.Items.{Items}
use Rattle.csyn.specs.declared.unit.Unit as declared_unit
use Rattle.csyn.specs.declared.unit.Units.{Units}
use Rattle.cparts.specs.declared.value.ExternalRest.{ExternalRest}
use Rattle.cparts.specs.declared.value.Value.{Value}
use Rattle.cparts.specs.declared.value.Value.TheVariants as value

abbrev pub text : Value → Option (List ℕ)
text (value.Text x) = Some x
text _ = None

abbrev pub expr : Value → Option Expr
expr (value.Expr x) = Some x
expr _ = None

abbrev pub exprs : Value → Option Exprs
exprs (value.Exprs x) = Some x
exprs _ = None

abbrev pub optional_expr : Value → Option (Option (Box Expr))
optional_expr (value.OptionalExpr x) = Some x
optional_expr _ = None

abbrev pub type_name : Value → Option TypeName
type_name (value.TypeName x) = Some x
type_name _ = None

abbrev pub specifiers : Value → Option Specifiers
specifiers (value.Specifiers x) = Some x
specifiers _ = None

abbrev pub base : Value → Option Base
base (value.Base x) = Some x
base _ = None

abbrev pub words : Value → Option IntegerWords
words (value.Words x) = Some x
words _ = None

abbrev pub qualifiers : Value → Option Pointer
qualifiers (value.Qualifiers x) = Some x
qualifiers _ = None

abbrev pub pointers : Value → Option Pointers
pointers (value.Pointers x) = Some x
pointers _ = None

abbrev pub declarator : Value → Option Declarator
declarator (value.Declarator x) = Some x
declarator _ = None

abbrev pub declarators : Value → Option Declarators
declarators (value.Declarators x) = Some x
declarators _ = None

abbrev pub member : Value → Option Member
member (value.Member x) = Some x
member _ = None

abbrev pub members : Value → Option Members
members (value.Members x) = Some x
members _ = None

abbrev pub init : Value → Option Init
init (value.Init x) = Some x
init _ = None

abbrev pub optional_init : Value → Option (Option (Box Init))
optional_init (value.OptionalInit x) = Some x
optional_init _ = None

abbrev pub inits : Value → Option Inits
inits (value.Inits x) = Some x
inits _ = None

abbrev pub init_declarator : Value → Option InitDeclarator
init_declarator (value.InitDeclarator x) = Some x
init_declarator _ = None

abbrev pub init_declarators : Value → Option InitDeclarators
init_declarators (value.InitDeclarators x) = Some x
init_declarators _ = None

abbrev pub object : Value → Option LocalObject
object (value.Object x) = Some x
object _ = None

abbrev pub stmt : Value → Option Stmt
stmt (value.Stmt x) = Some x
stmt _ = None

abbrev pub optional_stmt : Value → Option (Option (Box Stmt))
optional_stmt (value.OptionalStmt x) = Some x
optional_stmt _ = None

abbrev pub for_first : Value → Option ForFirst
for_first (value.ForFirst x) = Some x
for_first _ = None

abbrev pub items : Value → Option Items
items (value.Items x) = Some x
items _ = None

abbrev pub label : Value → Option Label
label (value.Label x) = Some x
label _ = None

abbrev pub switch_items : Value → Option SwitchItems
switch_items (value.SwitchItems x) = Some x
switch_items _ = None

abbrev pub external_rest : Value → Option ExternalRest
external_rest (value.ExternalRest x) = Some x
external_rest _ = None

abbrev pub function_end : Value → Option (Option Items)
function_end (value.FunctionEnd x) = Some x
function_end _ = None

abbrev pub parameters : Value → Option Parameters
parameters (value.Parameters x) = Some x
parameters _ = None

abbrev pub parameter : Value → Option Parameter
parameter (value.Parameter x) = Some x
parameter _ = None

abbrev pub parameter_list : Value → Option ParameterList
parameter_list (value.ParameterList x) = Some x
parameter_list _ = None

abbrev pub unit : Value → Option declared_unit.Unit
unit (value.Unit x) = Some x
unit _ = None

abbrev pub units : Value → Option Units
units (value.Units x) = Some x
units _ = None

abbrev pub register_type : Value → Option (Unit {0})
register_type value.RegisterType = Some tt
register_type _ = None

-- the same in a box
abbrev pub boxed : {A : Type 0} → (Value → Option A) → Value → Option (Box A)
boxed take v = option_map at_null (take v)

-- the first value, taken so
abbrev pub next : {A : Type 0} → (Value → Option A) → List Value → Option A
next take [] = None
next take (v ∷ vs) = take v

abbrev pub and_then : {A : Type 0} → Option A → (A → Option Value) → Option Value
and_then None go_on = None
and_then (Some a) go_on = go_on a

-- the first value is taken so, and the production goes on with the others
unfoldable pub pick : {A : Type 0} → (Value → Option A) → (A → List Value → Option Value) → List Value → Option Value
pick take go_on vs = and_then (next take vs) (λ a. go_on a (drop 1 vs))

-- what is made where no values are left
abbrev pub only : Option Value → List Value → Option Value
only made [] = made
only made (_ ∷ _) = None

-- what is made of no parts, of one, two, three or four
unfoldable pub none : Value → List Value → Option Value
none made = only (Some made)

-- what is made of one part, if it is made at all
unfoldable pub perhaps : {A : Type 0} → (Value → Option A) → (A → Option Value) → List Value → Option Value
perhaps first make = pick first (λ a. only (make a))

unfoldable pub one : {A : Type 0} → (Value → Option A) → (A → Value) → List Value → Option Value
one first make = pick first (λ a. only (Some (make a)))

unfoldable pub two : {A B : Type 0} → (Value → Option A) → (Value → Option B) → (A → B → Value) → List Value → Option Value
two first second make = pick first (λ a. one second (make a))

unfoldable pub three : {A B C : Type 0} → (Value → Option A) → (Value → Option B) → (Value → Option C)
    → (A → B → C → Value) → List Value → Option Value
three first second third make = pick first (λ a. two second third (make a))

unfoldable pub four : {A B C D : Type 0} → (Value → Option A) → (Value → Option B) → (Value → Option C) → (Value → Option D)
    → (A → B → C → D → Value) → List Value → Option Value
four first second third fourth make = pick first (λ a. three second third fourth (make a))
