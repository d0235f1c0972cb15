-- A tree without its pointers has as many levels.
use Rattle.std.proofs.Common.{◌≡◌, ◌+◌, ℕ, Option, Some, None, ap, refl, ◌∙◌}
use Rattle.std.specs.Prelude.{max}
use Rattle.std.specs.Global.{Box}
use Rattle.csyn.specs.declared.expression.Expr.{Expr}
use Rattle.csyn.specs.declared.expression.ExprKind.{ExprKind, Name, Number, Character, Index', CallFunction, Call', Member', Arrow'}
use Rattle.csyn.specs.declared.expression.ExprKind.{Postfix', Prefix', SizeofExpression', SizeofType, Cast', Binary', Comparison'}
use Rattle.csyn.specs.declared.expression.ExprKind.{Logical', Conditional', Assign', AssignWith', Comma'}
use Rattle.csyn.specs.declared.expression.Exprs as exprs
use Rattle.csyn.specs.declared.declaration.Declarators as declarators
use Rattle.csyn.specs.declared.declaration.Members as members
use Rattle.csyn.specs.declared.declaration.Init as init
use Rattle.csyn.specs.declared.declaration.Inits as inits
use Rattle.csyn.specs.declared.declaration.InitDeclarators as objects
use Rattle.csyn.specs.declared.declaration.LocalObject.{LocalObject}
use Rattle.csyn.specs.declared.declaration.ParameterList as list
use Rattle.csyn.specs.declared.declaration.Parameters.{Parameters}
use Rattle.csyn.specs.declared.declaration.Parameters.TheVariants as parameters
use Rattle.csyn.specs.declared.statement.ForFirst.{ForFirst}
use Rattle.csyn.specs.declared.statement.ForFirst.TheVariants as first
use Rattle.csyn.specs.declared.statement.StmtKind.{StmtKind, Block, Expression, If', IfElse', While', Do', For'}
use Rattle.csyn.specs.declared.statement.StmtKind.{Switch, Break, Continue, Return, Region}
use Rattle.csyn.specs.declared.statement.Items as items
use Rattle.csyn.specs.declared.statement.LabelKind.{LabelKind}
use Rattle.csyn.specs.declared.statement.LabelKind.TheVariants as label
use Rattle.csyn.specs.declared.statement.SwitchItems as switch
use Rattle.csyn.specs.declared.unit.UnitKind.{UnitKind}
use Rattle.csyn.specs.declared.unit.UnitKind.TheVariants as kind
use Rattle.csyn.specs.declared.unit.Units as units
use Rattle.csyn.specs.Bare as bare
use Rattle.csyn.specs.Levels as levels

one-more : {a b : ℕ} → a ≡ b → 1 + a ≡ 1 + b
one-more e = ap (λ n. 1 + n) e

both : {a b c d : ℕ} → a ≡ b → c ≡ d → max a c ≡ max b d
both {b = b} {c = c} e f = ap (λ n. max n c) e ∙ ap (max b) f

mutual
  kind-bare : (k : ExprKind) → levels.kind_levels (bare.bare_kind k) ≡ levels.kind_levels k
  kind-bare (Name _) = refl
  kind-bare (Number _) = refl
  kind-bare (Character _) = refl
  kind-bare (Index' _ _ a _ _ i) = one-more (both (kind-bare a) (kind-bare i))
  kind-bare (CallFunction _ arguments) = one-more (exprs-bare arguments)
  kind-bare (Call' _ _ callee arguments) = one-more (both (kind-bare callee) (exprs-bare arguments))
  kind-bare (Member' _ _ a _) = one-more (kind-bare a)
  kind-bare (Arrow' _ _ a _) = one-more (kind-bare a)
  kind-bare (Postfix' _ _ _ a) = one-more (kind-bare a)
  kind-bare (Prefix' _ _ _ a) = one-more (kind-bare a)
  kind-bare (SizeofExpression' _ _ a) = one-more (kind-bare a)
  kind-bare (SizeofType _) = refl
  kind-bare (Cast' _ _ _ a) = one-more (kind-bare a)
  kind-bare (Binary' _ _ _ a _ _ b) = one-more (both (kind-bare a) (kind-bare b))
  kind-bare (Comparison' _ _ _ a _ _ b) = one-more (both (kind-bare a) (kind-bare b))
  kind-bare (Logical' _ _ _ a _ _ b) = one-more (both (kind-bare a) (kind-bare b))
  kind-bare (Conditional' _ _ c _ _ a _ _ b) = one-more (both (kind-bare c) (both (kind-bare a) (kind-bare b)))
  kind-bare (Assign' _ _ a _ _ b) = one-more (both (kind-bare a) (kind-bare b))
  kind-bare (AssignWith' _ _ _ a _ _ b) = one-more (both (kind-bare a) (kind-bare b))
  kind-bare (Comma' _ _ a _ _ b) = one-more (both (kind-bare a) (kind-bare b))

  exprs-bare : (e : exprs.Exprs) → levels.exprs_levels (bare.bare_exprs e) ≡ levels.exprs_levels e
  exprs-bare exprs.End = refl
  exprs-bare (exprs.More' _ _ a _ rest) = both (kind-bare a) (exprs-bare rest)

option-bare : (o : Option (Box Expr)) → levels.option_levels (bare.option_bare bare.bare_expr o) ≡ levels.option_levels o
option-bare None = refl
option-bare (Some e) = kind-bare (e.value).kind

declarators-bare : (d : declarators.Declarators) → levels.declarators_levels (bare.bare_declarators d) ≡ levels.declarators_levels d
declarators-bare declarators.End = refl
declarators-bare (declarators.More' d _ rest) = both (exprs-bare (d.value).lengths) (declarators-bare rest)

members-bare : (m : members.Members) → levels.members_levels (bare.bare_members m) ≡ levels.members_levels m
members-bare members.End = refl
members-bare (members.More' m _ rest) = both (declarators-bare (m.value).declarators) (members-bare rest)

mutual
  init-bare : (i : init.Init) → levels.init_levels (bare.bare_init i) ≡ levels.init_levels i
  init-bare (init.Expression e) = kind-bare (e.value).kind
  init-bare (init.Braced' _ _ parts) = one-more (inits-bare parts)

  inits-bare : (i : inits.Inits) → levels.inits_levels (bare.bare_inits i) ≡ levels.inits_levels i
  inits-bare inits.End = refl
  inits-bare (inits.More' _ i _ rest) = both (init-bare i) (inits-bare rest)

option-init-bare : (o : Option (Box init.Init)) → levels.option_init_levels (bare.option_bare bare.bare_init o)
    ≡ levels.option_init_levels o
option-init-bare None = refl
option-init-bare (Some i) = init-bare i.value

objects-bare : (o : objects.InitDeclarators) → levels.init_declarators_levels (bare.bare_init_declarators o)
    ≡ levels.init_declarators_levels o
objects-bare objects.End = refl
objects-bare (objects.More' d _ rest) =
    both (both (exprs-bare ((d.value).declarator).lengths) (both (option-bare (d.value).location)
    (option-init-bare (d.value).init))) (objects-bare rest)

local-bare : (o : LocalObject) → levels.local_levels (bare.bare_local o) ≡ levels.local_levels o
local-bare o = one-more (objects-bare (o.object).declarators)

list-bare : (l : list.ParameterList) → levels.parameter_list_levels (bare.bare_parameter_list l) ≡ levels.parameter_list_levels l
list-bare list.End = refl
list-bare (list.More' p _ rest) = both (exprs-bare ((p.value).declarator).lengths) (list-bare rest)

parameters-bare : (p : Parameters) → levels.parameters_levels (bare.bare_parameters p) ≡ levels.parameters_levels p
parameters-bare parameters.Empty = refl
parameters-bare parameters.Void = refl
parameters-bare (parameters.Some l) = list-bare l

first-bare : (f : ForFirst) → levels.for_first_levels (bare.bare_for_first f) ≡ levels.for_first_levels f
first-bare (first.Object o) = local-bare o.value
first-bare (first.Expression e) = option-bare e

label-bare : (k : LabelKind) → levels.label_kind_levels (bare.bare_label_kind k) ≡ levels.label_kind_levels k
label-bare (label.Case e) = one-more (kind-bare (e.value).kind)
label-bare label.Default = refl

mutual
  stmt-bare : (s : StmtKind) → levels.stmt_kind_levels (bare.bare_stmt_kind s) ≡ levels.stmt_kind_levels s
  stmt-bare (Block all) = one-more (items-bare all)
  stmt-bare (Expression e) = one-more (option-bare e)
  stmt-bare (If' c _ _ s) = one-more (both (kind-bare (c.value).kind) (stmt-bare s))
  stmt-bare (IfElse' c _ _ s _ _ t) = one-more (both (kind-bare (c.value).kind) (both (stmt-bare s) (stmt-bare t)))
  stmt-bare (While' c _ _ s) = one-more (both (kind-bare (c.value).kind) (stmt-bare s))
  stmt-bare (Do' _ _ s c) = one-more (both (stmt-bare s) (kind-bare (c.value).kind))
  stmt-bare (For' a b c _ _ s) = one-more (both (first-bare a) (both (option-bare b) (both (option-bare c) (stmt-bare s))))
  stmt-bare (Switch e all) = one-more (both (kind-bare (e.value).kind) (switch-bare all))
  stmt-bare Break = refl
  stmt-bare Continue = refl
  stmt-bare (Return e) = one-more (option-bare e)
  stmt-bare (Region _ all) = one-more (items-bare all)

  items-bare : (i : items.Items) → levels.items_levels (bare.bare_items i) ≡ levels.items_levels i
  items-bare items.End = refl
  items-bare (items.Object' o _ rest) = both (local-bare o.value) (items-bare rest)
  items-bare (items.Statement' _ _ s _ rest) = both (stmt-bare s) (items-bare rest)

  switch-bare : (i : switch.SwitchItems) → levels.switch_items_levels (bare.bare_switch_items i) ≡ levels.switch_items_levels i
  switch-bare switch.End = refl
  switch-bare (switch.Label' l _ rest) = both (label-bare l.kind) (switch-bare rest)
  switch-bare (switch.Statement' _ _ s _ rest) = both (stmt-bare s) (switch-bare rest)

unit-bare : (k : UnitKind) → levels.unit_kind_levels (bare.bare_unit_kind k) ≡ levels.unit_kind_levels k
unit-bare (kind.Struct _ all) = one-more (members-bare all)
unit-bare kind.Register = refl
unit-bare (kind.Object o) = one-more (objects-bare o.declarators)
unit-bare (kind.Prototype h) = one-more (parameters-bare h.parameters)
unit-bare (kind.Function h all) = one-more (both (parameters-bare h.parameters) (items-bare all))

pub units-bare : (u : units.Units) → levels.units_levels (bare.bare_units u) ≡ levels.units_levels u
units-bare units.End = refl
units-bare (units.More' u _ rest) = both (unit-bare (u.value).kind) (units-bare rest)
