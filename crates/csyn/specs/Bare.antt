-- Trees without their pointers: the same tree with each pointer null, all the way down. Two trees are the same where their bare
-- forms are equal. The pointer of a box is a box of nothing before the value where the type leads back to itself, and else it
-- stands in the box with the value.
use Rattle.std.specs.Prelude.{Option, Some, None}
use Rattle.std.specs.Ptr.{null_ptr}
use Rattle.std.specs.Global.{Box}
use Rattle.csyn.specs.declared.specifiers.Pointers as pointers
use Rattle.csyn.specs.declared.specifiers.TypeName.{TypeName}
use Rattle.csyn.specs.declared.expression.Expr.{Expr}
use Rattle.csyn.specs.declared.expression.ExprKind.{ExprKind, Name, Number, Character, Index', CallFunction, Call', Member', Arrow'}
use Rattle.csyn.specs.declared.expression.ExprKind.{Postfix', Prefix', SizeofExpression', SizeofType, Cast', Binary', Comparison'}
use Rattle.csyn.specs.declared.expression.ExprKind.{Logical', Conditional', Assign', AssignWith', Comma'}
use Rattle.csyn.specs.declared.expression.Exprs as exprs
use Rattle.csyn.specs.declared.declaration.Declarator.{Declarator}
use Rattle.csyn.specs.declared.declaration.Declarators as declarators
use Rattle.csyn.specs.declared.declaration.Member.{Member}
use Rattle.csyn.specs.declared.declaration.Members as members
use Rattle.csyn.specs.declared.declaration.Init as init
use Rattle.csyn.specs.declared.declaration.Inits as inits
use Rattle.csyn.specs.declared.declaration.InitDeclarator.{InitDeclarator}
use Rattle.csyn.specs.declared.declaration.InitDeclarators as objects
use Rattle.csyn.specs.declared.declaration.Object.{Object}
use Rattle.csyn.specs.declared.declaration.LocalObject.{LocalObject}
use Rattle.csyn.specs.declared.declaration.Parameter.{Parameter}
use Rattle.csyn.specs.declared.declaration.ParameterList as list
use Rattle.csyn.specs.declared.declaration.Parameters.{Parameters}
use Rattle.csyn.specs.declared.declaration.Parameters.TheVariants as parameters
use Rattle.csyn.specs.declared.statement.ForFirst.{ForFirst}
use Rattle.csyn.specs.declared.statement.ForFirst.TheVariants as first
use Rattle.csyn.specs.declared.statement.Stmt.{Stmt}
use Rattle.csyn.specs.declared.statement.StmtKind.{StmtKind, Block, Expression, If', IfElse', While', Do', For'}
use Rattle.csyn.specs.declared.statement.StmtKind.{Switch, Break, Continue, Return, Region}
use Rattle.csyn.specs.declared.statement.Items as items
use Rattle.csyn.specs.declared.statement.Label.{Label}
use Rattle.csyn.specs.declared.statement.LabelKind.{LabelKind}
use Rattle.csyn.specs.declared.statement.LabelKind.TheVariants as label
use Rattle.csyn.specs.declared.statement.SwitchItems as switch
use Rattle.csyn.specs.declared.unit.Head.{Head}
use Rattle.csyn.specs.declared.unit.UnitKind.{UnitKind}
use Rattle.csyn.specs.declared.unit.UnitKind.TheVariants as kind
use Rattle.csyn.specs.declared.unit.Unit as unit
use Rattle.csyn.specs.declared.unit.Units as units

-- a value in a box with no pointer
abbrev pub at_null : {A : Type 0} → A → Box A
at_null x = record { ptr = null_ptr; alloc = record { memory = record { seal = tt } }; value = x }

-- the pointer before a value, made null
abbrev pub nowhere : Box (Unit {0})
nowhere = at_null tt

-- a boxed value, bared by bare
abbrev pub box_bare : {A : Type 0} → (A → A) → Box A → Box A
box_bare bare b = at_null (bare b.value)

-- the same where it may be left out
abbrev pub option_bare : {A : Type 0} → (A → A) → Option (Box A) → Option (Box A)
option_bare bare None = None
option_bare bare (Some b) = Some (box_bare bare b)

abbrev pub bare_pointers : pointers.Pointers → pointers.Pointers
bare_pointers pointers.End = pointers.End
bare_pointers (pointers.To' _ inner p) = pointers.To' nowhere (bare_pointers inner) p

abbrev pub bare_type_name : TypeName → TypeName
bare_type_name t = record { specifiers = t.specifiers; pointers = bare_pointers t.pointers }

abbrev mutual
  pub bare_kind : ExprKind → ExprKind
  bare_kind (Name name) = Name name
  bare_kind (Number n) = Number n
  bare_kind (Character c) = Character c
  bare_kind (Index' _ m a _ n i) = Index' nowhere m (bare_kind a) nowhere n (bare_kind i)
  bare_kind (CallFunction name arguments) = CallFunction name (bare_exprs arguments)
  bare_kind (Call' _ m callee arguments) = Call' nowhere m (bare_kind callee) (bare_exprs arguments)
  bare_kind (Member' _ m a name) = Member' nowhere m (bare_kind a) name
  bare_kind (Arrow' _ m a name) = Arrow' nowhere m (bare_kind a) name
  bare_kind (Postfix' o _ m a) = Postfix' o nowhere m (bare_kind a)
  bare_kind (Prefix' o _ m a) = Prefix' o nowhere m (bare_kind a)
  bare_kind (SizeofExpression' _ m a) = SizeofExpression' nowhere m (bare_kind a)
  bare_kind (SizeofType t) = SizeofType (bare_type_name t)
  bare_kind (Cast' t _ m a) = Cast' (bare_type_name t) nowhere m (bare_kind a)
  bare_kind (Binary' o _ m a _ n b) = Binary' o nowhere m (bare_kind a) nowhere n (bare_kind b)
  bare_kind (Comparison' o _ m a _ n b) = Comparison' o nowhere m (bare_kind a) nowhere n (bare_kind b)
  bare_kind (Logical' o _ m a _ n b) = Logical' o nowhere m (bare_kind a) nowhere n (bare_kind b)
  bare_kind (Conditional' _ k c _ m a _ n b) = Conditional' nowhere k (bare_kind c) nowhere m (bare_kind a) nowhere n (bare_kind b)
  bare_kind (Assign' _ m a _ n b) = Assign' nowhere m (bare_kind a) nowhere n (bare_kind b)
  bare_kind (AssignWith' o _ m a _ n b) = AssignWith' o nowhere m (bare_kind a) nowhere n (bare_kind b)
  bare_kind (Comma' _ m a _ n b) = Comma' nowhere m (bare_kind a) nowhere n (bare_kind b)

  pub bare_exprs : exprs.Exprs → exprs.Exprs
  bare_exprs exprs.End = exprs.End
  bare_exprs (exprs.More' _ m a _ rest) = exprs.More' nowhere m (bare_kind a) nowhere (bare_exprs rest)

abbrev pub bare_expr : Expr → Expr
bare_expr e = record { mark = e.mark; kind = bare_kind e.kind }

abbrev pub bare_declarator : Declarator → Declarator
bare_declarator d = record { pointers = bare_pointers d.pointers; name = d.name; lengths = bare_exprs d.lengths }

abbrev pub bare_declarators : declarators.Declarators → declarators.Declarators
bare_declarators declarators.End = declarators.End
bare_declarators (declarators.More' d _ rest) = declarators.More' (box_bare bare_declarator d) nowhere (bare_declarators rest)

abbrev pub bare_member : Member → Member
bare_member m = record { specifiers = m.specifiers; declarators = bare_declarators m.declarators }

abbrev pub bare_members : members.Members → members.Members
bare_members members.End = members.End
bare_members (members.More' m _ rest) = members.More' (box_bare bare_member m) nowhere (bare_members rest)

abbrev mutual
  pub bare_init : init.Init → init.Init
  bare_init (init.Expression e) = init.Expression (box_bare bare_expr e)
  bare_init (init.Braced' m _ parts) = init.Braced' m nowhere (bare_inits parts)

  pub bare_inits : inits.Inits → inits.Inits
  bare_inits inits.End = inits.End
  bare_inits (inits.More' _ i _ rest) = inits.More' nowhere (bare_init i) nowhere (bare_inits rest)

abbrev pub bare_init_declarator : InitDeclarator → InitDeclarator
bare_init_declarator d =
    record { declarator = bare_declarator d.declarator; location = option_bare bare_expr d.location; init = option_bare bare_init d.init }

abbrev pub bare_init_declarators : objects.InitDeclarators → objects.InitDeclarators
bare_init_declarators objects.End = objects.End
bare_init_declarators (objects.More' d _ rest) = objects.More' (box_bare bare_init_declarator d) nowhere (bare_init_declarators rest)

abbrev pub bare_object : Object → Object
bare_object o = record { specifiers = o.specifiers; declarators = bare_init_declarators o.declarators }

abbrev pub bare_local : LocalObject → LocalObject
bare_local o = record { mark = o.mark; object = bare_object o.object }

abbrev pub bare_parameter : Parameter → Parameter
bare_parameter p = record { specifiers = p.specifiers; declarator = bare_declarator p.declarator; is_open_array = p.is_open_array }

abbrev pub bare_parameter_list : list.ParameterList → list.ParameterList
bare_parameter_list list.End = list.End
bare_parameter_list (list.More' p _ rest) = list.More' (box_bare bare_parameter p) nowhere (bare_parameter_list rest)

abbrev pub bare_parameters : Parameters → Parameters
bare_parameters parameters.Empty = parameters.Empty
bare_parameters parameters.Void = parameters.Void
bare_parameters (parameters.Some all) = parameters.Some (bare_parameter_list all)

abbrev pub bare_for_first : ForFirst → ForFirst
bare_for_first (first.Object o) = first.Object (box_bare bare_local o)
bare_for_first (first.Expression e) = first.Expression (option_bare bare_expr e)

abbrev pub bare_label_kind : LabelKind → LabelKind
bare_label_kind (label.Case e) = label.Case (box_bare bare_expr e)
bare_label_kind label.Default = label.Default

abbrev pub bare_label : Label → Label
bare_label l = record { mark = l.mark; kind = bare_label_kind l.kind }

abbrev mutual
  pub bare_stmt_kind : StmtKind → StmtKind
  bare_stmt_kind (Block all) = Block (bare_items all)
  bare_stmt_kind (Expression e) = Expression (option_bare bare_expr e)
  bare_stmt_kind (If' c _ m s) = If' (box_bare bare_expr c) nowhere m (bare_stmt_kind s)
  bare_stmt_kind (IfElse' c _ m s _ n t) = IfElse' (box_bare bare_expr c) nowhere m (bare_stmt_kind s) nowhere n (bare_stmt_kind t)
  bare_stmt_kind (While' c _ m s) = While' (box_bare bare_expr c) nowhere m (bare_stmt_kind s)
  bare_stmt_kind (Do' _ m s c) = Do' nowhere m (bare_stmt_kind s) (box_bare bare_expr c)
  bare_stmt_kind (For' a b c _ m s) = For' (bare_for_first a) (option_bare bare_expr b) (option_bare bare_expr c) nowhere m
      (bare_stmt_kind s)
  bare_stmt_kind (Switch e all) = Switch (box_bare bare_expr e) (bare_switch_items all)
  bare_stmt_kind Break = Break
  bare_stmt_kind Continue = Continue
  bare_stmt_kind (Return e) = Return (option_bare bare_expr e)
  bare_stmt_kind (Region name all) = Region name (bare_items all)

  pub bare_items : items.Items → items.Items
  bare_items items.End = items.End
  bare_items (items.Object' o _ rest) = items.Object' (box_bare bare_local o) nowhere (bare_items rest)
  bare_items (items.Statement' _ m s _ rest) = items.Statement' nowhere m (bare_stmt_kind s) nowhere (bare_items rest)

  pub bare_switch_items : switch.SwitchItems → switch.SwitchItems
  bare_switch_items switch.End = switch.End
  bare_switch_items (switch.Label' l _ rest) = switch.Label' (bare_label l) nowhere (bare_switch_items rest)
  bare_switch_items (switch.Statement' _ m s _ rest) = switch.Statement' nowhere m (bare_stmt_kind s) nowhere (bare_switch_items rest)

abbrev pub bare_stmt : Stmt → Stmt
bare_stmt s = record { mark = s.mark; kind = bare_stmt_kind s.kind }

abbrev pub bare_head : Head → Head
bare_head h = record {
  specifiers = h.specifiers;
  pointers = bare_pointers h.pointers;
  name = h.name;
  parameters =
      bare_parameters h.parameters;
}

abbrev pub bare_unit_kind : UnitKind → UnitKind
bare_unit_kind (kind.Struct tag all) = kind.Struct tag (bare_members all)
bare_unit_kind kind.Register = kind.Register
bare_unit_kind (kind.Object o) = kind.Object (bare_object o)
bare_unit_kind (kind.Prototype h) = kind.Prototype (bare_head h)
bare_unit_kind (kind.Function h all) = kind.Function (bare_head h) (bare_items all)

abbrev pub bare_unit : unit.Unit → unit.Unit
bare_unit u = record { mark = u.mark; kind = bare_unit_kind u.kind }

abbrev pub bare_units : units.Units → units.Units
bare_units units.End = units.End
bare_units (units.More' u _ rest) = units.More' (box_bare bare_unit u) nowhere (bare_units rest)
