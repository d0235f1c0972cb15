-- The nodes of an expression or a statement, each once: the steps that it takes without its loops' turns, calls and delays, at the most.
use Rattle.std.specs.Prelude.{ℕ, ◌+◌, Option, Some, None}
use Rattle.std.specs.Global.{Box}
use Rattle.cprogram.specs.declared.value.Value.{Value}
use Rattle.cprogram.specs.declared.value.PlaceKind as place
use Rattle.cprogram.specs.declared.value.ValueKind as value
use Rattle.cprogram.specs.declared.value.Operands as operands
use Rattle.cprogram.specs.declared.statement.ForFirst.{ForFirst}
use Rattle.cprogram.specs.declared.statement.ForFirst.TheVariants as first
use Rattle.cprogram.specs.declared.statement.StmtKind as stmt
use Rattle.cprogram.specs.declared.statement.Items as items
use Rattle.cprogram.specs.declared.statement.SwitchItems as switch
use Rattle.cprogram.specs.declared.statement.Initialiser.{Initialiser}
use Rattle.cprogram.specs.declared.statement.Initialiser.TheVariants as initialiser
use Rattle.cprogram.specs.declared.statement.Declarations as declarations
use Rattle.cprogram.specs.declared.statement.LeafValues as leaves

abbrev mutual
  -- a place, without its own node
  pub place_nodes : place.PlaceKind → ℕ
  place_nodes (place.Local _) = 0
  place_nodes (place.Global _) = 0
  place_nodes (place.Volatile _) = 0
  place_nodes (place.Register _) = 0
  place_nodes (place.Dereference' _ _ v) = value_nodes v
  place_nodes (place.Subscript' _ _ _ v _ _ _ _ i) = value_nodes v + value_nodes i
  place_nodes (place.Member' _ _ p _) = place_nodes p + 1
  place_nodes (place.Arrow' _ _ v _) = value_nodes v

  pub value_nodes : value.ValueKind → ℕ
  value_nodes (value.Number _ _) = 1
  value_nodes (value.Read' _ _ p) = place_nodes p + 1
  value_nodes (value.ArrayPointer' _ _ _ p) = place_nodes p + 1
  value_nodes (value.Address' _ _ _ p) = place_nodes p + 1 + 1
  value_nodes (value.Cast' _ _ _ _ v) = value_nodes v + 1
  value_nodes (value.Unary' _ _ _ _ _ v) = value_nodes v + 1
  value_nodes (value.Not' _ _ v) = value_nodes v + 1
  value_nodes (value.Binary' _ _ _ _ _ v _ _ _ w) = value_nodes v + value_nodes w + 1
  value_nodes (value.Comparison' _ _ _ _ _ v _ _ _ w) = value_nodes v + value_nodes w + 1
  value_nodes (value.PointerComparison' _ _ _ _ v _ _ _ w) = value_nodes v + value_nodes w + 1
  value_nodes (value.Logical' _ _ _ v _ _ w) = value_nodes v + value_nodes w + 1
  value_nodes (value.Conditional' _ _ _ k _ _ _ v _ _ _ w) = value_nodes k + (value_nodes v + value_nodes w) + 1
  value_nodes (value.Comma' _ _ _ v _ _ w) = value_nodes v + value_nodes w + 1
  value_nodes (value.PointerOffset' _ _ _ _ v _ _ _ _ i) = value_nodes v + value_nodes i + 1
  value_nodes (value.IndexPlusPointer' _ _ _ _ _ i _ _ v) = value_nodes i + value_nodes v + 1
  value_nodes (value.PointerDifference' _ _ _ v _ _ w) = value_nodes v + value_nodes w + 1
  value_nodes (value.Assign' _ _ _ p _ _ _ v) = place_nodes p + value_nodes v + 1 + 1
  value_nodes (value.AssignWith' _ _ _ _ _ p _ _ _ v) = place_nodes p + value_nodes v + 1 + 1
  value_nodes (value.OffsetAssign' _ _ _ _ _ p _ _ _ _ i) = place_nodes p + value_nodes i + 1 + 1
  value_nodes (value.Step' _ _ _ _ _ p) = place_nodes p + 1 + 1
  value_nodes (value.PointerStep' _ _ _ _ _ _ p) = place_nodes p + 1 + 1
  value_nodes (value.Call _ _ arguments) = operands_nodes arguments + 1
  value_nodes (value.LeftmostBit' _ _ _ v _ _ _ w) = value_nodes v + value_nodes w + 1
  value_nodes (value.Delay _) = 1
  value_nodes value.Halt = 1
  value_nodes (value.ScratchpadIn' _ _ _ p) = place_nodes p + 1 + 1
  value_nodes (value.ScratchpadOut' _ _ _ v) = value_nodes v + 1

  pub operands_nodes : operands.Operands → ℕ
  operands_nodes operands.End = 0
  operands_nodes (operands.More' _ _ _ v _ rest) = value_nodes v + operands_nodes rest

abbrev pub option_nodes : Option (Box Value) → ℕ
option_nodes None = 0
option_nodes (Some v) = value_nodes v.value.kind

abbrev pub leaf_nodes : leaves.LeafValues → ℕ
leaf_nodes leaves.End = 0
leaf_nodes (leaves.Value' o _ rest) = value_nodes o.value.value.kind + 1 + leaf_nodes rest
leaf_nodes (leaves.Zeros' n _ rest) = n + leaf_nodes rest

abbrev pub initialiser_nodes : Option Initialiser → ℕ
initialiser_nodes None = 0
initialiser_nodes (Some (initialiser.Scalar o)) = value_nodes o.value.value.kind
initialiser_nodes (Some (initialiser.Leaves values)) = leaf_nodes values

abbrev pub declarations_nodes : declarations.Declarations → ℕ
declarations_nodes declarations.End = 0
declarations_nodes (declarations.More' d _ rest) = initialiser_nodes d.value.initialiser + declarations_nodes rest

abbrev pub first_nodes : ForFirst → ℕ
first_nodes (first.Declarations ds) = declarations_nodes ds
first_nodes (first.Expression v) = option_nodes v

abbrev mutual
  -- a statement, without its own step
  pub stmt_nodes : stmt.StmtKind → ℕ
  stmt_nodes (stmt.Block list) = items_nodes list
  stmt_nodes (stmt.Expression v) = option_nodes v
  stmt_nodes (stmt.If' c _ _ a) = value_nodes c.value.kind + (stmt_nodes a + 1)
  stmt_nodes (stmt.IfElse' c _ _ a _ _ b) = value_nodes c.value.kind + (stmt_nodes a + 1 + (stmt_nodes b + 1))
  stmt_nodes (stmt.While' c _ _ a) = value_nodes c.value.kind + (stmt_nodes a + 1 + 0)
  stmt_nodes (stmt.Do' _ _ a c) = stmt_nodes a + 1 + value_nodes c.value.kind
  stmt_nodes (stmt.For' f c third _ _ a _) = first_nodes f + (option_nodes c + (stmt_nodes a + 1 + option_nodes third))
  stmt_nodes (stmt.Switch o list) = value_nodes o.value.value.kind + switch_nodes list
  stmt_nodes stmt.Break = 0
  stmt_nodes stmt.Continue = 0
  stmt_nodes (stmt.Return None) = 0
  stmt_nodes (stmt.Return (Some o)) = value_nodes o.value.value.kind
  stmt_nodes (stmt.Region _ list) = items_nodes list + 1

  pub items_nodes : items.Items → ℕ
  items_nodes items.End = 0
  items_nodes (items.Declaration' d _ rest) = initialiser_nodes d.value.initialiser + items_nodes rest
  items_nodes (items.Statement' _ _ a _ rest) = stmt_nodes a + 1 + items_nodes rest

  pub switch_nodes : switch.SwitchItems → ℕ
  switch_nodes switch.End = 0
  switch_nodes (switch.Case' _ _ _ rest) = switch_nodes rest
  switch_nodes (switch.Default' _ _ rest) = switch_nodes rest
  switch_nodes (switch.Statement' _ _ a _ rest) = stmt_nodes a + 1 + switch_nodes rest
