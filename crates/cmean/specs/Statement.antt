-- What each statement of C does (C99 6.8). A statement that is executed is one source step, when it is entered. A label is none, and
-- leaving a region is one.
use Rattle.std.specs.Prelude.{ℕ, zero, suc, ◌+◌, ◌==◌, Bool, true, if◌then◌else◌, List, length, replicate, Option, Some, None, slice_get}
use Rattle.std.specs.Option.{option_map}
use Rattle.std.specs.Global.{Box}
use Rattle.prutrace.specs.declared.event.Event.TheVariants as event
use Rattle.cprogram.specs.Layout.{Shape, leaf_at}
use Rattle.cprogram.specs.declared.value.Value.{Value}
use Rattle.cprogram.specs.declared.value.Operand.{Operand}
use Rattle.cprogram.specs.declared.statement.LeafValues as leaves
use Rattle.cprogram.specs.declared.statement.Initialiser.{Initialiser}
use Rattle.cprogram.specs.declared.statement.Initialiser.TheVariants as initialiser
use Rattle.cprogram.specs.declared.statement.Declaration.{Declaration}
use Rattle.cprogram.specs.declared.statement.Declarations as declarations
use Rattle.cprogram.specs.declared.statement.ForFirst.{ForFirst}
use Rattle.cprogram.specs.declared.statement.ForFirst.TheVariants as first
use Rattle.cprogram.specs.declared.statement.StmtKind as stmt
use Rattle.cprogram.specs.declared.statement.Items as items
use Rattle.cprogram.specs.declared.statement.SwitchItems as switch
use Rattle.behaviour.specs.Ran.{Turn, Again, Over, turns}
use Rattle.cmean.specs.Datum.{Datum, zero_of}
use Rattle.cmean.specs.State.{Run, give, change, with_state, then_with, then_do, node, entered}
use Rattle.cmean.specs.State.{tick, mark_now, sure, leaves_of, with_leaves}
use Rattle.cmean.specs.Access.{set_leaf}
use Rattle.cmean.specs.Expression.{Valued, Calls, operand, number, truth, value_kind}

-- how a statement ends: with what follows it, at a break, at a continue, or at a return with its value
pub data Flow : Type 0 where
  Next : Flow
  Broke : Flow
  Continued : Flow
  Returned : Valued → Flow

-- what follows a statement, where it is come to
abbrev pub then_next : Run Flow → Run Flow → Run Flow
then_next run rest = then_with run (λ flow.
    elim flow [ Next ↦ rest | Broke ↦ give Broke | Continued ↦ give Continued | Returned v ↦ give (Returned v) ])

-- ---- loops

-- what a turn comes to behind the loop's body: a break ends the loop
abbrev pub after_body : Flow → Turn Flow
after_body Next = Again
after_body Continued = Again
after_body Broke = Over Next
after_body (Returned v) = Over (Returned v)

-- a turn goes on with this where the body ends so
abbrev pub behind_body : Run (Turn Flow) → Flow → Run (Turn Flow)
behind_body rest Next = rest
behind_body rest Continued = rest
behind_body rest Broke = give (Over Next)
behind_body rest (Returned v) = give (Over (Returned v))

-- Each turn is one step at the least, so there are no more turns than the budget has steps.
abbrev pub loop : Run (Turn Flow) → Run Flow
loop turn budget s = turns (suc budget) (turn budget) s

abbrev pub if_true : {A : Type 0} → Run Bool → Run (Turn A) → A → Run (Turn A)
if_true condition run a = then_with condition (λ x. if x then run else give (Over a))

abbrev pub while_loop : Run Bool → Run Flow → Run Flow
while_loop condition body = loop (if_true condition (then_with body (λ flow. give (after_body flow))) Next)

abbrev pub do_loop : Run Flow → Run Bool → Run Flow
do_loop body condition = loop (then_with body (behind_body (if_true condition (give Again) Next)))

abbrev pub for_loop : Run Bool → Run (Unit {0}) → Run Flow → Run Flow
for_loop condition third body = loop (if_true condition (then_with body (behind_body (then_do third (give Again)))) Next)

-- ---- switch

-- a break in a switch ends it
abbrev pub after_switch : Flow → Flow
after_switch Broke = Next
after_switch flow = flow

abbrev pub or_else : {A : Type 0} → Option A → Option A → Option A
or_else (Some a) b = Some a
or_else None b = b

-- what stands behind the label that is chosen; nothing, where none is
abbrev pub chosen : Option (Run Flow) → Run Flow
chosen (Some run) = run
chosen None = give Next

-- ---- locals

-- an object is unset
abbrev pub unset_leaves : ℕ → Run (Unit {0})
unset_leaves object = change (λ s. with_leaves object (replicate (length (leaves_of s object)) None) s)

-- a leaf of an object is set
abbrev pub set_at : ℕ → ℕ → Datum → Run (Unit {0})
set_at object leaf d = change (set_leaf (record { object = object; first = leaf; count = 1; index = 0; leaf = leaf; byte = 0 }) d)

-- a leaf that the initialiser of an array or a struct sets is a step
abbrev pub set_step : ℕ → ℕ → Datum → Run (Unit {0})
set_step object leaf d = then_do (set_at object leaf d) tick

-- so many leaves from this one on are set to 0
abbrev pub zeros : Shape → ℕ → ℕ → ℕ → Run (Unit {0})
zeros shape object leaf zero = give tt
zeros shape object leaf (suc n) =
    then_with (sure (option_map (λ l. zero_of l.scalar) (leaf_at shape leaf))) (λ d.
    then_do (set_step object leaf d) (zeros shape object (suc leaf) n))

module _ (calls : Calls) where
  abbrev pub value_in : Value → Run Valued
  value_in v = node (value_kind calls v.mark.span v.kind)

  abbrev pub value_of : Box Value → Run Valued
  value_of v = value_in v.value

  abbrev pub operand_of : Box Operand → Run Datum
  operand_of o = operand o.value.conversion (value_in o.value.value)

  -- an expression for what it does
  abbrev pub effect : Option (Box Value) → Run (Unit {0})
  effect None = give tt
  effect (Some v) = then_do (value_of v) (give tt)

  -- a condition that is left out is true
  abbrev pub condition : Option (Box Value) → Run Bool
  condition None = give true
  condition (Some v) = truth (value_of v)

  -- the leaves of a local array or struct, from this one on
  abbrev pub leaf_values : Shape → ℕ → ℕ → leaves.LeafValues → Run (Unit {0})
  leaf_values shape object leaf leaves.End = give tt
  leaf_values shape object leaf (leaves.Value' o _ rest) =
      then_with (operand_of o) (λ d. then_do (set_step object leaf d) (leaf_values shape object (suc leaf) rest))
  leaf_values shape object leaf (leaves.Zeros' n _ rest) = then_do (zeros shape object leaf n) (leaf_values shape object (leaf + n) rest)

  abbrev pub initialise : Shape → ℕ → Option Initialiser → Run (Unit {0})
  initialise shape object None = give tt
  initialise shape object (Some (initialiser.Scalar o)) = then_with (operand_of o) (set_at object 0)
  initialise shape object (Some (initialiser.Leaves values)) = leaf_values shape object 0 values

  -- a local is unset, and then set by its initialiser
  abbrev pub declare : List Shape → Declaration → Run (Unit {0})
  declare shapes d = with_state (λ s.
      then_do (unset_leaves (s.locals + d.local.0))
      (then_with (sure (slice_get shapes d.local.0)) (λ shape. initialise shape (s.locals + d.local.0) d.initialiser)))

  abbrev pub declare_all : List Shape → declarations.Declarations → Run (Unit {0})
  declare_all shapes declarations.End = give tt
  declare_all shapes (declarations.More' d _ rest) = then_do (declare shapes d.value) (declare_all shapes rest)

  abbrev pub for_first : List Shape → ForFirst → Run (Unit {0})
  for_first shapes (first.Declarations ds) = declare_all shapes ds
  for_first shapes (first.Expression e) = effect e

  -- ---- statements, in a function whose locals have these layouts
  module _ (shapes : List Shape) where
    abbrev mutual
      -- what a statement does behind its own step
      pub stmt_kind : stmt.StmtKind → Run Flow
      stmt_kind (stmt.Block list) = run_items list
      stmt_kind (stmt.Expression e) = then_do (effect e) (give Next)
      stmt_kind (stmt.If' c _ m a) = then_with (truth (value_of c)) (λ x. if x then entered (stmt_kind a) else give Next)
      stmt_kind (stmt.IfElse' c _ m a _ n b) =
          then_with (truth (value_of c)) (λ x. if x then entered (stmt_kind a) else entered (stmt_kind b))
      stmt_kind (stmt.While' c _ m a) = while_loop (truth (value_of c)) (entered (stmt_kind a))
      stmt_kind (stmt.Do' _ m a c) = do_loop (entered (stmt_kind a)) (truth (value_of c))
      stmt_kind (stmt.For' f c third _ m a _) =
          then_do (for_first shapes f) (for_loop (condition c) (effect third) (entered (stmt_kind a)))
      stmt_kind (stmt.Switch o list) =
          then_with (number o.value.conversion (value_in o.value.value)) (λ n.
          then_with (chosen (or_else (behind_case n list) (behind_default list))) (λ flow. give (after_switch flow)))
      stmt_kind stmt.Break = give Broke
      stmt_kind stmt.Continue = give Continued
      stmt_kind (stmt.Return None) = give (Returned None)
      stmt_kind (stmt.Return (Some o)) = then_with (operand_of o) (λ d. give (Returned (Some d)))
      stmt_kind (stmt.Region r list) =
          then_do (mark_now (event.Enter r.0)) (then_with (run_items list) (λ flow.
          then_do tick (then_do (mark_now (event.Leave r.0)) (give flow))))

      pub run_items : items.Items → Run Flow
      run_items items.End = give Next
      run_items (items.Declaration' d _ rest) = then_do (declare shapes d.value) (run_items rest)
      run_items (items.Statement' _ m a _ rest) = then_next (entered (stmt_kind a)) (run_items rest)

      -- the statements of a switch from here on; the labels on the way do nothing
      pub run_switch : switch.SwitchItems → Run Flow
      run_switch switch.End = give Next
      run_switch (switch.Case' m v _ rest) = run_switch rest
      run_switch (switch.Default' m _ rest) = run_switch rest
      run_switch (switch.Statement' _ m a _ rest) = then_next (entered (stmt_kind a)) (run_switch rest)

      -- what stands behind the case with this number
      pub behind_case : ℕ → switch.SwitchItems → Option (Run Flow)
      behind_case n switch.End = None
      behind_case n (switch.Case' m v _ rest) = if v == n then Some (run_switch rest) else behind_case n rest
      behind_case n (switch.Default' m _ rest) = behind_case n rest
      behind_case n (switch.Statement' _ m a _ rest) = behind_case n rest

      pub behind_default : switch.SwitchItems → Option (Run Flow)
      behind_default switch.End = None
      behind_default (switch.Case' m v _ rest) = behind_default rest
      behind_default (switch.Default' m _ rest) = Some (run_switch rest)
      behind_default (switch.Statement' _ m a _ rest) = behind_default rest
