-- Which kind of value the parts of each class have.
use Rattle.std.proofs.Common.{◌≡◌, ℕ, ◌⊎◌, Bool, true, false, ◌&&◌, List, [], ◌∷◌, Option, Some, refl, ap, inl, inr}
use Rattle.std.specs.Global.{Box}
use Rattle.csyn.specs.declared.specifiers.Base.{Base}
use Rattle.csyn.specs.declared.specifiers.Specifiers.{Specifiers}
use Rattle.csyn.specs.declared.specifiers.IntegerWords.{IntegerWords}
use Rattle.csyn.specs.declared.specifiers.Pointer.{Pointer}
use Rattle.csyn.specs.declared.specifiers.Pointers.{Pointers}
use Rattle.csyn.specs.declared.specifiers.TypeName.{TypeName}
use Rattle.csyn.specs.declared.expression.Expr.{Expr}
use Rattle.csyn.specs.declared.expression.Exprs.{Exprs}
use Rattle.csyn.specs.declared.declaration.Declarator.{Declarator}
use Rattle.csyn.specs.declared.declaration.Declarators.{Declarators}
use Rattle.csyn.specs.declared.declaration.Member.{Member}
use Rattle.csyn.specs.declared.declaration.Members.{Members}
use Rattle.csyn.specs.declared.declaration.Init.{Init}
use Rattle.csyn.specs.declared.declaration.Inits.{Inits}
use Rattle.csyn.specs.declared.declaration.InitDeclarator.{InitDeclarator}
use Rattle.csyn.specs.declared.declaration.InitDeclarators.{InitDeclarators}
use Rattle.csyn.specs.declared.declaration.LocalObject.{LocalObject}
use Rattle.csyn.specs.declared.declaration.Parameter.{Parameter}
use Rattle.csyn.specs.declared.declaration.ParameterList.{ParameterList}
use Rattle.csyn.specs.declared.declaration.Parameters.{Parameters}
use Rattle.csyn.specs.declared.statement.ForFirst.{ForFirst}
use Rattle.csyn.specs.declared.statement.Stmt.{Stmt}
use Rattle.csyn.specs.declared.statement.Items.{Items}
use Rattle.csyn.specs.declared.statement.Label.{Label}
use Rattle.csyn.specs.declared.statement.SwitchItems.{SwitchItems}
use Rattle.csyn.specs.declared.unit.Unit as declared_unit
use Rattle.csyn.specs.declared.unit.Units.{Units}
use Rattle.cparts.specs.declared.value.ExternalRest.{ExternalRest}
use Rattle.cparts.specs.declared.value.Value.{Value}
use Rattle.cparts.specs.declared.value.Value.TheVariants as value
use Rattle.cgrammar.specs.Grammar as class
use Rattle.cgrammar.specs.Grammar.{Class, Piece, token, part, under, is_wider}
use Rattle.cparse.proofs.Classes.{under-ways}

pub data Shape : Type 0 where
  text : Shape
  expr : Shape
  exprs : Shape
  optional_expr : Shape
  type_name : Shape
  specifiers : Shape
  base : Shape
  words : Shape
  qualifiers : Shape
  pointers : Shape
  declarator : Shape
  declarators : Shape
  member : Shape
  members : Shape
  init : Shape
  optional_init : Shape
  inits : Shape
  init_declarator : Shape
  init_declarators : Shape
  object : Shape
  stmt : Shape
  optional_stmt : Shape
  for_first : Shape
  items : Shape
  label : Shape
  switch_items : Shape
  external_rest : Shape
  function_end : Shape
  parameters : Shape
  parameter : Shape
  parameter_list : Shape
  unit : Shape
  units : Shape
  register_type : Shape
  -- of no part
  nothing : Shape

-- a value is of the kind
pub data IsOf : Shape → Value → Type 0 where
  is_text : (x : List ℕ) → IsOf text (value.Text x)
  is_expr : (x : Expr) → IsOf expr (value.Expr x)
  is_exprs : (x : Exprs) → IsOf exprs (value.Exprs x)
  is_optional_expr : (x : Option (Box Expr)) → IsOf optional_expr (value.OptionalExpr x)
  is_type_name : (x : TypeName) → IsOf type_name (value.TypeName x)
  is_specifiers : (x : Specifiers) → IsOf specifiers (value.Specifiers x)
  is_base : (x : Base) → IsOf base (value.Base x)
  is_words : (x : IntegerWords) → IsOf words (value.Words x)
  is_qualifiers : (x : Pointer) → IsOf qualifiers (value.Qualifiers x)
  is_pointers : (x : Pointers) → IsOf pointers (value.Pointers x)
  is_declarator : (x : Declarator) → IsOf declarator (value.Declarator x)
  is_declarators : (x : Declarators) → IsOf declarators (value.Declarators x)
  is_member : (x : Member) → IsOf member (value.Member x)
  is_members : (x : Members) → IsOf members (value.Members x)
  is_init : (x : Init) → IsOf init (value.Init x)
  is_optional_init : (x : Option (Box Init)) → IsOf optional_init (value.OptionalInit x)
  is_inits : (x : Inits) → IsOf inits (value.Inits x)
  is_init_declarator : (x : InitDeclarator) → IsOf init_declarator (value.InitDeclarator x)
  is_init_declarators : (x : InitDeclarators) → IsOf init_declarators (value.InitDeclarators x)
  is_object : (x : LocalObject) → IsOf object (value.Object x)
  is_stmt : (x : Stmt) → IsOf stmt (value.Stmt x)
  is_optional_stmt : (x : Option (Box Stmt)) → IsOf optional_stmt (value.OptionalStmt x)
  is_for_first : (x : ForFirst) → IsOf for_first (value.ForFirst x)
  is_items : (x : Items) → IsOf items (value.Items x)
  is_label : (x : Label) → IsOf label (value.Label x)
  is_switch_items : (x : SwitchItems) → IsOf switch_items (value.SwitchItems x)
  is_external_rest : (x : ExternalRest) → IsOf external_rest (value.ExternalRest x)
  is_function_end : (x : Option Items) → IsOf function_end (value.FunctionEnd x)
  is_parameters : (x : Parameters) → IsOf parameters (value.Parameters x)
  is_parameter : (x : Parameter) → IsOf parameter (value.Parameter x)
  is_parameter_list : (x : ParameterList) → IsOf parameter_list (value.ParameterList x)
  is_unit : (x : declared_unit.Unit) → IsOf unit (value.Unit x)
  is_units : (x : Units) → IsOf units (value.Units x)
  is_register_type : IsOf register_type value.RegisterType

unfoldable pub shape : Class → Shape
shape (class.level _) = expr
shape class.callee = expr
shape (class.words _) = words
shape class.stars = pointers
shape class.qualified = pointers
shape class.identifier = text
shape class.arguments = exprs
shape class.more_arguments = exprs
shape class.optional_expression = optional_expr
shape class.type_name = type_name
shape class.«type» = specifiers
shape class.base = base
shape class.integer = words
shape class.qualifiers = qualifiers
shape class.pointers = pointers
shape class.lengths = exprs
shape class.declarator = declarator
shape class.more_declarators = declarators
shape class.member = member
shape class.more_members = members
shape class.location = optional_expr
shape class.initial = optional_init
shape class.init = init
shape class.more_inits = inits
shape class.after_init_comma = inits
shape class.init_declarator = init_declarator
shape class.more_init_declarators = init_declarators
shape class.object = object
shape class.statement = stmt
shape class.optional_else = optional_stmt
shape class.for_first = for_first
shape class.region_name = text
shape class.items = items
shape class.label = label
shape class.switch_items = switch_items
shape class.more_switch_items = switch_items
shape class.units = units
shape class.unit = unit
shape class.register_type = register_type
shape class.external_rest = external_rest
shape class.function_end = function_end
shape class.parameters = parameters
shape class.parameter = parameter
shape class.more_parameters = parameter_list
shape class.source = units
shape class.some_qualifiers = qualifiers
shape class.nothing = nothing

-- a tighter class has the same kind of value
wider-shape : (a b : Class) → is_wider a b ≡ true → shape a ≡ shape b
unfolding shape is_wider
wider-shape (class.level _) (class.level _) h = refl
wider-shape class.callee (class.level _) h = refl
wider-shape (class.words _) class.integer h = refl
wider-shape class.some_qualifiers class.qualifiers h = refl
wider-shape class.stars class.pointers h = refl
wider-shape class.qualified class.pointers h = refl
wider-shape _ _ h = absurd (cc)

-- what may stand where a class is wanted has the kind of value that is wanted
pub under-shape : (a b : Class) → under a b ≡ true → shape a ≡ shape b
under-shape a b h = go (under-ways a b h)
  where
    go : (a ≡ b) ⊎ (is_wider a b ≡ true) → shape a ≡ shape b
    go (inl e) = ap shape e
    go (inr w) = wider-shape a b w

-- the kinds of the values of a right side's parts
unfoldable pub shapes : List Piece → List Shape
shapes [] = []
shapes (token _ ∷ pieces) = shapes pieces
shapes (part c ∷ pieces) = shape c ∷ shapes pieces

-- values of these kinds
pub data Fits : List Shape → List Value → Type 0 where
  end : Fits [] []
  and : {s : Shape} {ss : List Shape} {v : Value} {vs : List Value} → IsOf s v → Fits ss vs → Fits (s ∷ ss) (v ∷ vs)

-- a value of the kind is made, but for what is of no part, which may make anything
pub data Made : Shape → Option Value → Type 0 where
  made : {s : Shape} {v : Value} → IsOf s v → Made s (Some v)
  unused : {o : Option Value} → Made nothing o

unfoldable pub is_used : Shape → Bool
is_used nothing = false
is_used _ = true

unfoldable pub all_used : List Shape → Bool
all_used [] = true
all_used (s ∷ ss) = is_used s && all_used ss
