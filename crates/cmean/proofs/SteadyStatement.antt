-- Statements are steady, where calls are; so a program's meaning is.
use Rattle.std.proofs.Common.{ℕ, zero, suc, ◌+◌, ◌≤◌, ◌==◌, Bool, true, false, if◌then◌else◌, List, [], length}
use Rattle.std.proofs.Common.{replicate, refl, arith, Option, Some, None, slice_get, ◌++◌}
use Rattle.std.specs.Option.{option_map}
use Rattle.std.specs.Global.{Box}
use Rattle.behaviour.specs.Ran.{Ran, Done, state_of, Turn, Again, Over, turned, turns}
use Rattle.behaviour.specs.Simulates.{Extends}
use Rattle.behaviour.proofs.ExtendsLemmas.{extends-same, extends-and_then}
use Rattle.prutrace.specs.declared.event.Event.TheVariants as event
use Rattle.cprogram.specs.Layout.{Shape, leaf_at}
use Rattle.cprogram.specs.declared.value.Value.{Value}
use Rattle.cprogram.specs.declared.value.Operand.{Operand}
use Rattle.cprogram.specs.declared.statement.LeafValues as leaves
use Rattle.cprogram.specs.declared.statement.Initialiser.{Initialiser}
use Rattle.cprogram.specs.declared.statement.Initialiser.TheVariants as initialiser
use Rattle.cprogram.specs.declared.statement.Declaration.{Declaration}
use Rattle.cprogram.specs.declared.statement.Declarations as declarations
use Rattle.cprogram.specs.declared.statement.ForFirst.{ForFirst}
use Rattle.cprogram.specs.declared.statement.ForFirst.TheVariants as first
use Rattle.cprogram.specs.declared.statement.StmtKind as stmt
use Rattle.cprogram.specs.declared.statement.Items as items
use Rattle.cprogram.specs.declared.statement.SwitchItems as switch
use Rattle.cprogram.specs.declared.program.Function.{Function}
use Rattle.cprogram.specs.declared.program.Program.{Program}
use Rattle.cmean.specs.declared.undefined.UndefinedStep.{UndefinedStep}
use Rattle.cmean.specs.Datum.{Datum, zero_of}
use Rattle.cmean.specs.State.{State, Run, give, with_leaves, leaves_of, ended_from}
use Rattle.cmean.specs.Access.{set_leaf}
use Rattle.cmean.specs.Expression.{Calls}
use Rattle.cmean.specs.Statement.{Flow, Next, Broke, Continued, Returned, then_next, after_body, behind_body, loop, if_true}
use Rattle.cmean.specs.Statement.{while_loop, do_loop, for_loop, after_switch, or_else, chosen, unset_leaves, set_at, set_step}
use Rattle.cmean.specs.Statement.{zeros, value_in, operand_of, effect, condition, leaf_values, initialise, declare, declare_all}
use Rattle.cmean.specs.Statement.{for_first, stmt_kind, run_items, run_switch, behind_case, behind_default}
use Rattle.cmean.specs.Meaning.{result_of, locals_of, called, call_of, calls_within, run_main}
use Rattle.cmean.proofs.Steady.{Later, Steady, later-same, later-refl, later-trans, after, steady-give, steady-with, steady-do}
use Rattle.cmean.proofs.Steady.{steady-state, steady-change, steady-tick, steady-mark_now, steady-never, steady-sure, steady-halt}
use Rattle.cmean.proofs.Steady.{steady-node, steady-entered}
use Rattle.cmean.proofs.SteadyAccess.{steady-if}
use Rattle.cmean.proofs.SteadyExpression.{steady-operand, steady-number, steady-truth, steady-value}

-- ---- loops

module _ {A : Type 0} {turn : Run (Turn A)} (steady : Steady turn) where
  turned-grows : (rest : State → Ran UndefinedStep State A) → ((s : State) → Later s (state_of (rest s))) → (t : Turn A) (s : State)
      → Later s (state_of (turned t rest s))
  turned-grows rest goes Again s = goes s
  turned-grows rest goes (Over a) s = later-refl s

  turns-grow : (n b : ℕ) (s : State) → Later s (state_of (turns n (turn b) s))
  turns-grow zero b s = later-refl s
  turns-grow (suc n) b s =
      after s (turn b s) (λ t. turned t (turns n (turn b))) (steady.grows b s) (turned-grows (turns n (turn b)) (turns-grow n b))

  turned-extends : (rest longer : State → Ran UndefinedStep State A) → ((s : State) → Extends Later (rest s) (longer s))
      → (t : Turn A) (s : State)
      → Extends Later (turned t rest s) (turned t longer s)
  turned-extends rest longer extends Again s = extends s
  turned-extends rest longer extends (Over a) s = extends-same Later later-trans later-refl (Done a s)

  turns-longer : (n m b c : ℕ) → n ≤ m → b ≤ c → (s : State) → Extends Later (turns n (turn b) s) (turns m (turn c) s)
  turns-longer zero m b c few less s = record { settled = λ on. cc; later = turns-grow m c s }
  turns-longer (suc n) zero b c few less s = absurd (omega (arith, few))
  turns-longer (suc n) (suc m) b c few less s =
      extends-and_then Later later-trans (turn b s) (turn c s) (λ t. turned t (turns n (turn b))) (λ t. turned t (turns m (turn c)))
      (steady.longer b c less s)
      (turned-extends (turns n (turn b)) (turns m (turn c)) (turns-longer n m b c (omega (arith, few)) less))
      (turned-grows (turns m (turn c)) (turns-grow m c))

pub steady-loop : {turn : Run (Turn Flow)} → Steady turn → Steady (loop turn)
steady-loop {turn = turn} steady = record {
  grows = λ b s. turns-grow steady (suc b) b s;
  longer = λ b c few s. turns-longer steady (suc b) (suc c) b c (omega (arith, few)) few s;
}

-- ---- ways on

steady-then_next : {run rest : Run Flow} → Steady run → Steady rest → Steady (then_next run rest)
steady-then_next {run = run} {rest = rest} first next = steady-with first (λ flow. onwards flow)
  where
    onwards : (flow : Flow) → Steady (elim flow [
      | Next ↦ rest
      | Broke ↦ give Broke
      | Continued ↦ give Continued
      | Returned v ↦
          give (Returned v)
    ])
    onwards Next = next
    onwards Broke = steady-give Broke
    onwards Continued = steady-give Continued
    onwards (Returned v) = steady-give (Returned v)

steady-behind_body : {rest : Run (Turn Flow)} → Steady rest → (flow : Flow) → Steady (behind_body rest flow)
steady-behind_body rest Next = rest
steady-behind_body rest Continued = rest
steady-behind_body rest Broke = steady-give (Over Next)
steady-behind_body rest (Returned v) = steady-give (Over (Returned v))

steady-if_true : {A : Type 0} {c : Run Bool} {run : Run (Turn A)} (a : A) → Steady c → Steady run → Steady (if_true c run a)
steady-if_true a c run = steady-with c (λ x. steady-if x run (steady-give (Over a)))

steady-while : {c : Run Bool} {body : Run Flow} → Steady c → Steady body → Steady (while_loop c body)
steady-while c body = steady-loop (steady-if_true Next c (steady-with body (λ flow. steady-give (after_body flow))))

steady-do_loop : {c : Run Bool} {body : Run Flow} → Steady body → Steady c → Steady (do_loop body c)
steady-do_loop body c = steady-loop (steady-with body (steady-behind_body (steady-if_true Next c (steady-give Again))))

steady-for : {c : Run Bool} {third : Run (Unit {0})} {body : Run Flow} → Steady c → Steady third → Steady body
    → Steady (for_loop c third body)
steady-for c third body = steady-loop (steady-if_true Next c (steady-with body (steady-behind_body (steady-do third (steady-give Again)))))

-- what may be run is steady
abbrev Perhaps : Option (Run Flow) → Type 0
Perhaps None = Unit {0}
Perhaps (Some run) = Steady run

perhaps-if : (x : Bool) (a b : Option (Run Flow)) → Perhaps a → Perhaps b → Perhaps (if x then a else b)
perhaps-if true a b p q = p
perhaps-if false a b p q = q

perhaps-or : (a b : Option (Run Flow)) → Perhaps a → Perhaps b → Perhaps (or_else a b)
perhaps-or (Some run) b p q = p
perhaps-or None b p q = q

steady-chosen : (o : Option (Run Flow)) → Perhaps o → Steady (chosen o)
steady-chosen (Some run) p = p
steady-chosen None p = steady-give Next

-- ---- locals

steady-unset : (object : ℕ) → Steady (unset_leaves object)
steady-unset object =
    steady-change (λ s. with_leaves object (replicate (length (leaves_of s object)) None) s)
    (λ s. later-same s (with_leaves object (replicate (length (leaves_of s object)) None) s) refl)

steady-set_at : (object leaf : ℕ) (d : Datum) → Steady (set_at object leaf d)
steady-set_at object leaf d =
    steady-change (set_leaf (record { object = object; first = leaf; count = 1; index = 0; leaf = leaf; byte = 0 }) d)
    (λ s. later-same s (set_leaf (record { object = object; first = leaf; count = 1; index = 0; leaf = leaf; byte = 0 }) d s) refl)

steady-set_step : (object leaf : ℕ) (d : Datum) → Steady (set_step object leaf d)
steady-set_step object leaf d = steady-do (steady-set_at object leaf d) steady-tick

steady-zeros : (shape : Shape) (object leaf n : ℕ) → Steady (zeros shape object leaf n)
steady-zeros shape object leaf zero = steady-give tt
steady-zeros shape object leaf (suc n) =
    steady-with (steady-sure (option_map (λ l. zero_of l.scalar) (leaf_at shape leaf))) (λ d.
    steady-do (steady-set_step object leaf d) (steady-zeros shape object (suc leaf) n))

module _ (calls : Calls) (steady-calls : (f : ℕ) (ds : List Datum) → Steady (calls f ds)) where
  steady-value_in : (v : Value) → Steady (value_in calls v)
  steady-value_in v = steady-node (steady-value calls steady-calls v.mark.span v.kind)

  steady-operand_of : (o : Box Operand) → Steady (operand_of calls o)
  steady-operand_of o = steady-operand o.value.conversion (steady-value_in o.value.value)

  steady-effect : (e : Option (Box Value)) → Steady (effect calls e)
  steady-effect None = steady-give tt
  steady-effect (Some v) = steady-do (steady-value_in v.value) (steady-give tt)

  steady-condition : (e : Option (Box Value)) → Steady (condition calls e)
  steady-condition None = steady-give true
  steady-condition (Some v) = steady-truth (steady-value_in v.value)

  steady-leaf_values : (shape : Shape) (object leaf : ℕ) (list : leaves.LeafValues) → Steady (leaf_values calls shape object leaf list)
  steady-leaf_values shape object leaf leaves.End = steady-give tt
  steady-leaf_values shape object leaf (leaves.Value' o _ rest) =
      steady-with (steady-operand_of o) (λ d. steady-do (steady-set_step object leaf d) (steady-leaf_values shape object (suc leaf) rest))
  steady-leaf_values shape object leaf (leaves.Zeros' n _ rest) =
      steady-do (steady-zeros shape object leaf n) (steady-leaf_values shape object (leaf + n) rest)

  steady-initialise : (shape : Shape) (object : ℕ) (i : Option Initialiser) → Steady (initialise calls shape object i)
  steady-initialise shape object None = steady-give tt
  steady-initialise shape object (Some (initialiser.Scalar o)) = steady-with (steady-operand_of o) (steady-set_at object 0)
  steady-initialise shape object (Some (initialiser.Leaves list)) = steady-leaf_values shape object 0 list

  steady-declare : (shapes : List Shape) (d : Declaration) → Steady (declare calls shapes d)
  steady-declare shapes d = steady-state (λ s.
      steady-do (steady-unset (s.locals + d.local.0))
      (steady-with (steady-sure (slice_get shapes d.local.0)) (λ shape. steady-initialise shape (s.locals + d.local.0) d.initialiser)))

  steady-declare_all : (shapes : List Shape) (ds : declarations.Declarations) → Steady (declare_all calls shapes ds)
  steady-declare_all shapes declarations.End = steady-give tt
  steady-declare_all shapes (declarations.More' d _ rest) = steady-do (steady-declare shapes d.value) (steady-declare_all shapes rest)

  steady-for_first : (shapes : List Shape) (f : ForFirst) → Steady (for_first calls shapes f)
  steady-for_first shapes (first.Declarations ds) = steady-declare_all shapes ds
  steady-for_first shapes (first.Expression e) = steady-effect e

  module _ (shapes : List Shape) where
    mutual
      pub steady-stmt : (k : stmt.StmtKind) → Steady (stmt_kind calls shapes k)
      steady-stmt (stmt.Block list) = steady-items list
      steady-stmt (stmt.Expression e) = steady-do (steady-effect e) (steady-give Next)
      steady-stmt (stmt.If' c _ m a) =
          steady-with (steady-truth (steady-value_in c.value)) (λ x. steady-if x (steady-entered (steady-stmt a)) (steady-give Next))
      steady-stmt (stmt.IfElse' c _ m a _ n b) =
          steady-with (steady-truth (steady-value_in c.value))
          (λ x. steady-if x (steady-entered (steady-stmt a)) (steady-entered (steady-stmt b)))
      steady-stmt (stmt.While' c _ m a) = steady-while (steady-truth (steady-value_in c.value)) (steady-entered (steady-stmt a))
      steady-stmt (stmt.Do' _ m a c) = steady-do_loop (steady-entered (steady-stmt a)) (steady-truth (steady-value_in c.value))
      steady-stmt (stmt.For' f c third _ m a _) =
          steady-do (steady-for_first shapes f) (steady-for (steady-condition c) (steady-effect third) (steady-entered (steady-stmt a)))
      steady-stmt (stmt.Switch o list) =
          steady-with (steady-number o.value.conversion (steady-value_in o.value.value)) (λ n.
          steady-with (steady-chosen (or_else (behind_case calls shapes n list) (behind_default calls shapes list))
          (perhaps-or (behind_case calls shapes n list) (behind_default calls shapes list) (steady-case n list) (steady-default list)))
          (λ flow. steady-give (after_switch flow)))
      steady-stmt stmt.Break = steady-give Broke
      steady-stmt stmt.Continue = steady-give Continued
      steady-stmt (stmt.Return None) = steady-give (Returned None)
      steady-stmt (stmt.Return (Some o)) = steady-with (steady-operand_of o) (λ d. steady-give (Returned (Some d)))
      steady-stmt (stmt.Region r list) =
          steady-do (steady-mark_now (event.Enter r.0)) (steady-with (steady-items list) (λ flow.
          steady-do steady-tick (steady-do (steady-mark_now (event.Leave r.0)) (steady-give flow))))

      pub steady-items : (list : items.Items) → Steady (run_items calls shapes list)
      steady-items items.End = steady-give Next
      steady-items (items.Declaration' d _ rest) = steady-do (steady-declare shapes d.value) (steady-items rest)
      steady-items (items.Statement' _ m a _ rest) = steady-then_next (steady-entered (steady-stmt a)) (steady-items rest)

      steady-switch : (list : switch.SwitchItems) → Steady (run_switch calls shapes list)
      steady-switch switch.End = steady-give Next
      steady-switch (switch.Case' m v _ rest) = steady-switch rest
      steady-switch (switch.Default' m _ rest) = steady-switch rest
      steady-switch (switch.Statement' _ m a _ rest) = steady-then_next (steady-entered (steady-stmt a)) (steady-switch rest)

      steady-case : (n : ℕ) (list : switch.SwitchItems) → Perhaps (behind_case calls shapes n list)
      steady-case n switch.End = tt
      steady-case n (switch.Case' m v _ rest) = perhaps-if (v == n) (Some (run_switch calls shapes rest))
          (behind_case calls shapes n rest) (steady-switch rest) (steady-case n rest)
      steady-case n (switch.Default' m _ rest) = steady-case n rest
      steady-case n (switch.Statement' _ m a _ rest) = steady-case n rest

      steady-default : (list : switch.SwitchItems) → Perhaps (behind_default calls shapes list)
      steady-default switch.End = tt
      steady-default (switch.Case' m v _ rest) = steady-default rest
      steady-default (switch.Default' m _ rest) = steady-switch rest
      steady-default (switch.Statement' _ m a _ rest) = steady-default rest

-- ---- calls and programs

steady-called : (f : Function) (ds : List Datum) {body : Run Flow} → Steady body → Steady (called f ds body)
steady-called f ds body = steady-state (λ s.
    steady-do
    (steady-change (λ t. record t { objects = t.objects ++ locals_of f ds; locals = length t.objects })
    (λ t. later-same t (record t { objects = t.objects ++ locals_of f ds; locals = length t.objects }) refl))
    (steady-with body (λ flow.
    steady-do
    (steady-change (λ t. record t { objects = ended_from (length s.objects) t.objects; locals = s.locals })
    (λ t. later-same t (record t { objects = ended_from (length s.objects) t.objects; locals = s.locals }) refl))
    (steady-give (result_of flow)))))

steady-call_of : (calls : Calls) → ((f : ℕ) (ds : List Datum) → Steady (calls f ds)) → (ds : List Datum) (o : Option Function)
    → Steady (call_of calls ds o)
steady-call_of calls all ds None = steady-never
steady-call_of calls all ds (Some f) = steady-called f ds (steady-entered (steady-items calls all f.locals f.body))

module _ (p : Program) where
  steady-calls_within : (depth f : ℕ) (ds : List Datum) → Steady (calls_within p depth f ds)
  steady-calls_within zero f ds = steady-never
  steady-calls_within (suc depth) f ds = steady-call_of (calls_within p depth) (steady-calls_within depth) ds (slice_get p.functions f)

  pub steady-main : Steady (run_main p)
  steady-main = steady-do (steady-calls_within (suc (length p.functions)) p.main.0 []) steady-halt
