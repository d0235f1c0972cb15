-- How many levels a tree has. Nodes are units, local objects, statements, labels, initialisers in braces and expressions. A unit stands
-- at level 1, and each other node one below the node that it is directly a part of. The block of a function or of a region is
-- part of that node; types, declarators, lists and parameters are no nodes. The count is this project's own.
use Rattle.std.specs.Prelude.{ℕ, ◌+◌, max, Option, Some, None}
use Rattle.std.specs.Global.{Box}
use Rattle.csyn.specs.declared.expression.Expr.{Expr}
use Rattle.csyn.specs.declared.expression.ExprKind.{ExprKind, Name, Number, Character, Index', CallFunction, Call', Member', Arrow'}
use Rattle.csyn.specs.declared.expression.ExprKind.{Postfix', Prefix', SizeofExpression', SizeofType, Cast', Binary', Comparison'}
use Rattle.csyn.specs.declared.expression.ExprKind.{Logical', Conditional', Assign', AssignWith', Comma'}
use Rattle.csyn.specs.declared.expression.Exprs as exprs
use Rattle.csyn.specs.declared.declaration.Declarator.{Declarator}
use Rattle.csyn.specs.declared.declaration.Declarators as declarators
use Rattle.csyn.specs.declared.declaration.Members as members
use Rattle.csyn.specs.declared.declaration.Init as init
use Rattle.csyn.specs.declared.declaration.Inits as inits
use Rattle.csyn.specs.declared.declaration.InitDeclarator.{InitDeclarator}
use Rattle.csyn.specs.declared.declaration.InitDeclarators as objects
use Rattle.csyn.specs.declared.declaration.Object.{Object}
use Rattle.csyn.specs.declared.declaration.LocalObject.{LocalObject}
use Rattle.csyn.specs.declared.declaration.ParameterList as list
use Rattle.csyn.specs.declared.declaration.Parameters.{Parameters}
use Rattle.csyn.specs.declared.declaration.Parameters.TheVariants as parameters
use Rattle.csyn.specs.declared.statement.ForFirst.{ForFirst}
use Rattle.csyn.specs.declared.statement.ForFirst.TheVariants as first
use Rattle.csyn.specs.declared.statement.Stmt.{Stmt}
use Rattle.csyn.specs.declared.statement.StmtKind.{StmtKind, Block, Expression, If', IfElse', While', Do', For'}
use Rattle.csyn.specs.declared.statement.StmtKind.{Switch, Break, Continue, Return, Region}
use Rattle.csyn.specs.declared.statement.Items as items
use Rattle.csyn.specs.declared.statement.Label.{Label}
use Rattle.csyn.specs.declared.statement.LabelKind.{LabelKind}
use Rattle.csyn.specs.declared.statement.LabelKind.TheVariants as label
use Rattle.csyn.specs.declared.statement.SwitchItems as switch
use Rattle.csyn.specs.declared.unit.Head.{Head}
use Rattle.csyn.specs.declared.unit.UnitKind.{UnitKind}
use Rattle.csyn.specs.declared.unit.UnitKind.TheVariants as kind
use Rattle.csyn.specs.declared.unit.Unit as unit
use Rattle.csyn.specs.declared.unit.Units as units

abbrev mutual
  -- of an expression, by its kind
  pub kind_levels : ExprKind → ℕ
  kind_levels (Name _) = 1
  kind_levels (Number _) = 1
  kind_levels (Character _) = 1
  kind_levels (Index' _ _ a _ _ i) = 1 + max (kind_levels a) (kind_levels i)
  kind_levels (CallFunction _ arguments) = 1 + exprs_levels arguments
  kind_levels (Call' _ _ callee arguments) = 1 + max (kind_levels callee) (exprs_levels arguments)
  kind_levels (Member' _ _ a _) = 1 + kind_levels a
  kind_levels (Arrow' _ _ a _) = 1 + kind_levels a
  kind_levels (Postfix' _ _ _ a) = 1 + kind_levels a
  kind_levels (Prefix' _ _ _ a) = 1 + kind_levels a
  kind_levels (SizeofExpression' _ _ a) = 1 + kind_levels a
  kind_levels (SizeofType _) = 1
  kind_levels (Cast' _ _ _ a) = 1 + kind_levels a
  kind_levels (Binary' _ _ _ a _ _ b) = 1 + max (kind_levels a) (kind_levels b)
  kind_levels (Comparison' _ _ _ a _ _ b) = 1 + max (kind_levels a) (kind_levels b)
  kind_levels (Logical' _ _ _ a _ _ b) = 1 + max (kind_levels a) (kind_levels b)
  kind_levels (Conditional' _ _ c _ _ a _ _ b) = 1 + max (kind_levels c) (max (kind_levels a) (kind_levels b))
  kind_levels (Assign' _ _ a _ _ b) = 1 + max (kind_levels a) (kind_levels b)
  kind_levels (AssignWith' _ _ _ a _ _ b) = 1 + max (kind_levels a) (kind_levels b)
  kind_levels (Comma' _ _ a _ _ b) = 1 + max (kind_levels a) (kind_levels b)

  pub exprs_levels : exprs.Exprs → ℕ
  exprs_levels exprs.End = 0
  exprs_levels (exprs.More' _ _ a _ rest) = max (kind_levels a) (exprs_levels rest)

abbrev pub expr_levels : Expr → ℕ
expr_levels e = kind_levels e.kind

-- of an expression that may be left out
abbrev pub option_levels : Option (Box Expr) → ℕ
option_levels None = 0
option_levels (Some e) = expr_levels e.value

abbrev pub declarator_levels : Declarator → ℕ
declarator_levels d = exprs_levels d.lengths

abbrev pub declarators_levels : declarators.Declarators → ℕ
declarators_levels declarators.End = 0
declarators_levels (declarators.More' d _ rest) = max (declarator_levels d.value) (declarators_levels rest)

abbrev pub members_levels : members.Members → ℕ
members_levels members.End = 0
members_levels (members.More' m _ rest) = max (declarators_levels m.value.declarators) (members_levels rest)

abbrev mutual
  -- of an initialiser, which is a node only in braces
  pub init_levels : init.Init → ℕ
  init_levels (init.Expression e) = expr_levels e.value
  init_levels (init.Braced' _ _ parts) = 1 + inits_levels parts

  pub inits_levels : inits.Inits → ℕ
  inits_levels inits.End = 0
  inits_levels (inits.More' _ i _ rest) = max (init_levels i) (inits_levels rest)

abbrev pub option_init_levels : Option (Box init.Init) → ℕ
option_init_levels None = 0
option_init_levels (Some i) = init_levels i.value

abbrev pub init_declarator_levels : InitDeclarator → ℕ
init_declarator_levels d = max (declarator_levels d.declarator) (max (option_levels d.location) (option_init_levels d.init))

abbrev pub init_declarators_levels : objects.InitDeclarators → ℕ
init_declarators_levels objects.End = 0
init_declarators_levels (objects.More' d _ rest) = max (init_declarator_levels d.value) (init_declarators_levels rest)

-- of an object's parts
abbrev pub object_levels : Object → ℕ
object_levels o = init_declarators_levels o.declarators

abbrev pub local_levels : LocalObject → ℕ
local_levels o = 1 + object_levels o.object

abbrev pub parameter_list_levels : list.ParameterList → ℕ
parameter_list_levels list.End = 0
parameter_list_levels (list.More' p _ rest) = max (declarator_levels p.value.declarator) (parameter_list_levels rest)

abbrev pub parameters_levels : Parameters → ℕ
parameters_levels parameters.Empty = 0
parameters_levels parameters.Void = 0
parameters_levels (parameters.Some all) = parameter_list_levels all

abbrev pub for_first_levels : ForFirst → ℕ
for_first_levels (first.Object o) = local_levels o.value
for_first_levels (first.Expression e) = option_levels e

abbrev pub label_kind_levels : LabelKind → ℕ
label_kind_levels (label.Case e) = 1 + expr_levels e.value
label_kind_levels label.Default = 1

abbrev pub label_levels : Label → ℕ
label_levels l = label_kind_levels l.kind

abbrev mutual
  -- of a statement, by its kind
  pub stmt_kind_levels : StmtKind → ℕ
  stmt_kind_levels (Block all) = 1 + items_levels all
  stmt_kind_levels (Expression e) = 1 + option_levels e
  stmt_kind_levels (If' c _ _ s) = 1 + max (expr_levels c.value) (stmt_kind_levels s)
  stmt_kind_levels (IfElse' c _ _ s _ _ t) = 1 + max (expr_levels c.value) (max (stmt_kind_levels s) (stmt_kind_levels t))
  stmt_kind_levels (While' c _ _ s) = 1 + max (expr_levels c.value) (stmt_kind_levels s)
  stmt_kind_levels (Do' _ _ s c) = 1 + max (stmt_kind_levels s) (expr_levels c.value)
  stmt_kind_levels (For' a b c _ _ s) = 1 + max (for_first_levels a) (max (option_levels b) (max (option_levels c) (stmt_kind_levels s)))
  stmt_kind_levels (Switch e all) = 1 + max (expr_levels e.value) (switch_items_levels all)
  stmt_kind_levels Break = 1
  stmt_kind_levels Continue = 1
  stmt_kind_levels (Return e) = 1 + option_levels e
  stmt_kind_levels (Region _ all) = 1 + items_levels all

  pub items_levels : items.Items → ℕ
  items_levels items.End = 0
  items_levels (items.Object' o _ rest) = max (local_levels o.value) (items_levels rest)
  items_levels (items.Statement' _ _ s _ rest) = max (stmt_kind_levels s) (items_levels rest)

  pub switch_items_levels : switch.SwitchItems → ℕ
  switch_items_levels switch.End = 0
  switch_items_levels (switch.Label' l _ rest) = max (label_levels l) (switch_items_levels rest)
  switch_items_levels (switch.Statement' _ _ s _ rest) = max (stmt_kind_levels s) (switch_items_levels rest)

abbrev pub stmt_levels : Stmt → ℕ
stmt_levels s = stmt_kind_levels s.kind

abbrev pub head_levels : Head → ℕ
head_levels h = parameters_levels h.parameters

-- of a unit, by its kind
abbrev pub unit_kind_levels : UnitKind → ℕ
unit_kind_levels (kind.Struct _ all) = 1 + members_levels all
unit_kind_levels kind.Register = 1
unit_kind_levels (kind.Object o) = 1 + object_levels o
unit_kind_levels (kind.Prototype h) = 1 + head_levels h
unit_kind_levels (kind.Function h all) = 1 + max (head_levels h) (items_levels all)

abbrev pub unit_levels : unit.Unit → ℕ
unit_levels u = unit_kind_levels u.kind

abbrev pub units_levels : units.Units → ℕ
units_levels units.End = 0
units_levels (units.More' u _ rest) = max (unit_levels u.value) (units_levels rest)
