-- What one pass through a piece of a program holds: whether it is plain and straight, and its source steps, those of its delays apart.
-- It is plain where it makes no volatile access but to objects in the own window by their names, doesn't halt, and has no loops but
-- constant-count ones; it is straight where it is plain and branches nowhere but at the ends of loops. In the sums every arm counts.
-- All of this is this project's own.
use Rattle.std.specs.Prelude.{ℕ, zero, suc, ◌+◌, ◌*◌, ◌==◌, Bool, true, false, ◌&&◌, not, Option, Some, None, List, slice_get}
use Rattle.std.specs.Global.{Box}
use Rattle.cprogram.specs.declared.access.Access.{Access}
use Rattle.cprogram.specs.declared.access.AccessKind.{AccessKind}
use Rattle.cprogram.specs.declared.access.AccessKind.TheVariants as access
use Rattle.cprogram.specs.declared.program.Function.{Function}
use Rattle.cprogram.specs.declared.program.Program.{Program}
use Rattle.cprogram.specs.declared.statement.Declaration.{Declaration}
use Rattle.cprogram.specs.declared.statement.Declarations as declarations
use Rattle.cprogram.specs.declared.statement.ForFirst.{ForFirst}
use Rattle.cprogram.specs.declared.statement.ForFirst.TheVariants as first
use Rattle.cprogram.specs.declared.statement.Initialiser.{Initialiser}
use Rattle.cprogram.specs.declared.statement.Initialiser.TheVariants as initialiser
use Rattle.cprogram.specs.declared.statement.Items as items
use Rattle.cprogram.specs.declared.statement.LeafValues as leaves
use Rattle.cprogram.specs.declared.statement.StmtKind.{StmtKind, Block, Expression, If', IfElse', While', Do', For'}
use Rattle.cprogram.specs.declared.statement.StmtKind.{Switch, Break, Continue, Return, Region}
use Rattle.cprogram.specs.declared.statement.SwitchItems as switch
use Rattle.cprogram.specs.declared.statement.Turns.{Turns}
use Rattle.cprogram.specs.declared.value.Operand.{Operand}
use Rattle.cprogram.specs.declared.value.Operands as operands
use Rattle.cprogram.specs.declared.value.PlaceKind as place
use Rattle.cprogram.specs.declared.value.Value.{Value}
use Rattle.cprogram.specs.declared.value.ValueKind as value

pub record Content : Type 0 where
  pub plain : Bool
  pub straight : Bool
  -- the cycles of the delays, each of which is a step
  pub delays : ℕ
  -- the other steps
  pub steps : ℕ

abbrev pub nothing : Content
nothing = record { plain = true; straight = true; delays = 0; steps = 0 }

abbrev pub steps_of : ℕ → Content
steps_of n = record { plain = true; straight = true; delays = 0; steps = n }

abbrev pub delay_of : ℕ → Content
delay_of n = record { plain = true; straight = true; delays = n; steps = 0 }

abbrev pub not_plain : Content → Content
not_plain c = record c { plain = false }

abbrev pub branching : Content → Content
branching c = record c { straight = false }

abbrev pub also : Content → Content → Content
also c d =
    record { plain = c.plain && d.plain; straight = c.straight && d.straight; delays = c.delays + d.delays; steps = c.steps + d.steps }

abbrev pub times : ℕ → Content → Content
times n c = record c { delays = n * c.delays; steps = n * c.steps }

-- one step behind the parts of a node
abbrev pub node : Content → Content
node c = also c (steps_of 1)

abbrev pub by_kind : AccessKind → Content
by_kind access.Plain = nothing
by_kind access.Own = nothing
by_kind access.Volatile = not_plain nothing
by_kind access.Register = nothing

abbrev pub access_content : Access → Content
access_content a = by_kind a.kind

-- ---- expressions; functions tells what the body of a called function holds

abbrev mutual
  pub place_content : (ℕ → Content) → place.PlaceKind → Content
  place_content _ (place.Local _) = steps_of 1
  place_content _ (place.Global _) = steps_of 1
  place_content _ (place.Volatile _) = steps_of 1
  place_content _ (place.Register _) = steps_of 1
  place_content functions (place.Dereference' _ _ v) = node (value_content functions v)
  place_content functions (place.Subscript' _ _ _ v _ _ _ _ w) = node (also (value_content functions v) (value_content functions w))
  place_content functions (place.Member' _ _ p _) = node (place_content functions p)
  place_content functions (place.Arrow' _ _ v _) = node (value_content functions v)

  pub value_content : (ℕ → Content) → value.ValueKind → Content
  value_content _ (value.Number _ _) = steps_of 1
  value_content functions (value.Read' a _ p) = also (place_content functions p) (access_content a)
  value_content functions (value.ArrayPointer' _ _ _ p) = place_content functions p
  value_content functions (value.Address' _ _ _ p) = node (place_content functions p)
  value_content functions (value.Cast' _ _ _ _ v) = node (value_content functions v)
  value_content functions (value.Unary' _ _ _ _ _ v) = node (value_content functions v)
  value_content functions (value.Not' _ _ v) = node (value_content functions v)
  value_content functions (value.Binary' _ _ _ _ _ v _ _ _ w) = node (also (value_content functions v) (value_content functions w))
  value_content functions (value.Comparison' _ _ _ _ _ v _ _ _ w) = node (also (value_content functions v) (value_content functions w))
  value_content functions (value.PointerComparison' _ _ _ _ v _ _ _ w) = node (also (value_content functions v) (value_content functions w))
  value_content functions (value.Logical' _ _ _ v _ _ w) = branching (node (also (value_content functions v) (value_content functions w)))
  value_content functions (value.Conditional' _ _ _ c _ _ _ v _ _ _ w) =
      branching (node (also (value_content functions c) (also (value_content functions v) (value_content functions w))))
  value_content functions (value.Comma' _ _ _ v _ _ w) = node (also (value_content functions v) (value_content functions w))
  value_content functions (value.PointerOffset' _ _ _ _ v _ _ _ _ w) = node (also (value_content functions v) (value_content functions w))
  value_content functions (value.IndexPlusPointer' _ _ _ _ _ v _ _ w) = node (also (value_content functions v) (value_content functions w))
  value_content functions (value.PointerDifference' _ _ _ v _ _ w) = node (also (value_content functions v) (value_content functions w))
  value_content functions (value.Assign' a _ _ p _ _ _ v) =
      node (also (also (place_content functions p) (value_content functions v)) (access_content a))
  value_content functions (value.AssignWith' _ _ a _ _ p _ _ _ v) =
      node (also (also (place_content functions p) (value_content functions v)) (access_content a))
  value_content functions (value.OffsetAssign' _ _ a _ _ p _ _ _ _ v) =
      node (also (also (place_content functions p) (value_content functions v)) (access_content a))
  value_content functions (value.Step' _ _ a _ _ p) = node (also (place_content functions p) (access_content a))
  value_content functions (value.PointerStep' _ _ _ a _ _ p) = node (also (place_content functions p) (access_content a))
  value_content functions (value.Call f _ arguments) = node (also (operands_content functions arguments) (functions f.0))
  value_content functions (value.LeftmostBit' _ _ _ v _ _ _ w) = node (also (value_content functions v) (value_content functions w))
  value_content _ (value.Delay d) = delay_of d.cycles
  value_content _ value.Halt = not_plain (steps_of 1)
  value_content functions (value.ScratchpadIn' _ _ _ p) = node (place_content functions p)
  value_content functions (value.ScratchpadOut' _ _ _ v) = node (value_content functions v)

  pub operands_content : (ℕ → Content) → operands.Operands → Content
  operands_content _ operands.End = nothing
  operands_content functions (operands.More' _ _ _ v _ rest) = also (value_content functions v) (operands_content functions rest)

abbrev pub option_content : (ℕ → Content) → Option (Box Value) → Content
option_content _ None = nothing
option_content functions (Some v) = value_content functions v.value.kind

-- ---- declarations: each leaf of an array or a struct that is set is a step

abbrev pub leaves_content : (ℕ → Content) → leaves.LeafValues → Content
leaves_content _ leaves.End = nothing
leaves_content functions (leaves.Value' o _ rest) = also (node (value_content functions o.value.value.kind)) (leaves_content functions rest)
leaves_content functions (leaves.Zeros' n _ rest) = also (steps_of n) (leaves_content functions rest)

abbrev pub initialiser_content : (ℕ → Content) → Option Initialiser → Content
initialiser_content _ None = nothing
initialiser_content functions (Some (initialiser.Scalar o)) = value_content functions o.value.value.kind
initialiser_content functions (Some (initialiser.Leaves all)) = leaves_content functions all

abbrev pub declarations_content : (ℕ → Content) → declarations.Declarations → Content
declarations_content _ declarations.End = nothing
declarations_content functions (declarations.More' d _ rest) =
    also (initialiser_content functions d.value.initialiser) (declarations_content functions rest)

abbrev pub first_content : (ℕ → Content) → ForFirst → Content
first_content functions (first.Declarations all) = declarations_content functions all
first_content functions (first.Expression e) = option_content functions e

abbrev pub operand_content : (ℕ → Content) → Option (Box Operand) → Content
operand_content _ None = nothing
operand_content functions (Some o) = value_content functions o.value.value.kind

-- a loop by its turns, its condition, what is done behind each turn, and its body
abbrev pub loop_content : Option Turns → Content → Content → Content → Content
loop_content None condition next body = not_plain (also condition (also next body))
loop_content (Some turns) condition next body = also (times (turns.count + 1) condition) (times turns.count (also body next))

-- ---- statements

abbrev mutual
  pub stmt_content : (ℕ → Content) → StmtKind → Content
  stmt_content functions (Block all) = node (items_content functions all)
  stmt_content functions (Expression e) = node (option_content functions e)
  stmt_content functions (If' c _ _ s) = branching (node (also (value_content functions c.value.kind) (stmt_content functions s)))
  stmt_content functions (IfElse' c _ _ s _ _ t) =
      branching (node (also (value_content functions c.value.kind) (also (stmt_content functions s) (stmt_content functions t))))
  stmt_content functions (While' c _ _ s) = node (loop_content None (value_content functions c.value.kind) nothing
      (stmt_content functions s))
  stmt_content functions (Do' _ _ s c) = node (loop_content None (value_content functions c.value.kind) nothing (stmt_content functions s))
  stmt_content functions (For' f c n _ _ s turns) =
      node (also (first_content functions f) (loop_content turns (option_content functions c) (option_content functions n)
      (stmt_content functions s)))
  stmt_content functions (Switch o all) = branching (node (also (value_content functions o.value.value.kind)
      (switch_content functions all)))
  stmt_content _ Break = steps_of 1
  stmt_content _ Continue = steps_of 1
  stmt_content functions (Return o) = node (operand_content functions o)
  stmt_content functions (Region _ all) = also (items_content functions all) (steps_of 2)

  pub items_content : (ℕ → Content) → items.Items → Content
  items_content _ items.End = nothing
  items_content functions (items.Declaration' d _ rest) = also (initialiser_content functions d.value.initialiser)
      (items_content functions rest)
  items_content functions (items.Statement' _ _ s _ rest) = also (stmt_content functions s) (items_content functions rest)

  pub switch_content : (ℕ → Content) → switch.SwitchItems → Content
  switch_content _ switch.End = nothing
  switch_content functions (switch.Case' _ _ _ rest) = switch_content functions rest
  switch_content functions (switch.Default' _ _ rest) = switch_content functions rest
  switch_content functions (switch.Statement' _ _ s _ rest) = also (stmt_content functions s) (switch_content functions rest)

-- of a region: a step for coming to it, and one for leaving it
abbrev pub region_content : (ℕ → Content) → items.Items → Content
region_content functions all = also (items_content functions all) (steps_of 2)

-- ---- functions

-- a function's body counts as one statement; main ends with a halt
abbrev pub body_content : (ℕ → Content) → Bool → Option Function → Content
body_content _ _ None = nothing
body_content functions false (Some f) = node (items_content functions f.body)
body_content functions true (Some f) = not_plain (node (items_content functions f.body))

-- what a call of a function by its number holds, with calls in it to a depth
abbrev pub function_content : ℕ → Program → ℕ → Content
function_content zero _ _ = nothing
function_content (suc depth) p f = body_content (function_content depth p) (f == p.main.0) (slice_get p.functions f)
