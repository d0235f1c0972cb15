-- What a run of C keeps, and the few acts that it is made of. A run counts source steps: each node's own step is the last of its acts.
-- An act that another can see, and a step that C leaves undefined, carry the number of the next step.
use Rattle.std.specs.Prelude.{ℕ, zero, suc, nat_lt, Bool, true, false, if◌then◌else◌, List, [], ◌∷◌, ◌++◌}
use Rattle.std.specs.Prelude.{map, replicate, Option, Some, None, slice_get, slice_set}
use Rattle.prunum.specs.declared.width.Width.{Width}
use Rattle.prunum.specs.Number.{wrap}
use Rattle.csyn.specs.declared.span.Span.{Span}
use Rattle.prutrace.specs.declared.event.Event.{Event}
use Rattle.prutrace.specs.declared.event.Event.TheVariants as event
use Rattle.prutrace.specs.declared.event.Place.{Place}
use Rattle.behaviour.specs.Ran.{Ran, Done, Stopped, and_then}
use Rattle.behaviour.specs.declared.stop.Stop.{Stop}
use Rattle.behaviour.specs.declared.stop.Stop.TheVariants as stop
use Rattle.cmean.specs.declared.undefined.UndefinedCause.{UndefinedCause}
use Rattle.cmean.specs.declared.undefined.UndefinedStep.{UndefinedStep}
use Rattle.cmean.specs.Datum.{Datum}
use Rattle.cmean.specs.Pointer.{Step, Gives, Breaks, Never}

-- a leaf of an object holds a value, or is unset
abbrev pub Leaves : Type 0
Leaves = List (Option Datum)

-- An object of a run. It is gone once the call has ended that it was made for.
pub record Object : Type 0 where
  pub is_alive : Bool
  pub leaves : Leaves

-- an event, and the number of the source step that made it
pub record Shown : Type 0 where
  pub step : ℕ
  pub event : Event

pub record State : Type 0 where
  pub objects : List Object  -- by their number, which is given once in a run: the file objects, then those of each call in turn
  pub locals : ℕ  -- the number of the first local of the call at hand
  pub values : List ℕ  -- what reads from outside are still to be given
  pub shown : List Shown
  pub steps : ℕ

-- what is run from a state, within a budget of steps
abbrev pub Run : Type 0 → Type 0
Run A = ℕ → State → Ran UndefinedStep State A

-- nothing is done, and this is the value
abbrev pub give : {A : Type 0} → A → Run A
give a budget s = Done a s

-- one run, and then what follows from its value
abbrev pub then_with : {A B : Type 0} → Run A → (A → Run B) → Run B
then_with run next budget s = and_then (run budget s) (λ a. next a budget)

abbrev pub then_do : {A B : Type 0} → Run A → Run B → Run B
then_do run next budget s = and_then (run budget s) (λ _. next budget)

-- what is run may depend on the state
abbrev pub with_state : {A : Type 0} → (State → Run A) → Run A
with_state f budget s = f s budget s

abbrev pub change : (State → State) → Run (Unit {0})
change f budget s = Done tt (f s)

abbrev pub stopped : {A : Type 0} → Stop UndefinedStep → Run A
stopped cause budget s = Stopped cause s

-- ---- steps

-- where the next step is within the budget
abbrev pub in_budget : {A : Type 0} → Run A → Run A
in_budget run budget s = if nat_lt s.steps budget then run budget s else Stopped stop.More s

-- one step
abbrev pub tick : Run (Unit {0})
tick = in_budget (change (λ s. record s { steps = suc s.steps }))

-- the acts of a node, and then its own step
abbrev pub node : {A : Type 0} → Run A → Run A
node acts = then_with acts (λ a. then_do tick (give a))

-- a statement is a step, and then what it does
abbrev pub entered : {A : Type 0} → Run A → Run A
entered run = then_do tick run

-- so many steps, one after another
abbrev pub ticks : ℕ → Run (Unit {0})
ticks zero = give tt
ticks (suc n) = then_do tick (ticks n)

-- ---- acts

-- an event with the number of this step
abbrev pub showing : ℕ → Event → State → State
showing step e s = record s { shown = s.shown ++ record { step = step; event = e } ∷ [] }

-- an event with the number of the step at hand
abbrev pub mark_now : Event → Run (Unit {0})
mark_now e = change (λ s. showing s.steps e s)

-- an event with the number of the next step
abbrev pub show : Event → Run (Unit {0})
show e = in_budget (change (λ s. showing (suc s.steps) e s))

-- The next of the values that reads are given, cut to the width; the run is dry where none is left.
abbrev pub take_value : Place → Width → List ℕ → Run ℕ
take_value place width [] = stopped stop.Dry
take_value place width (v ∷ values) =
    then_do (change (λ s. showing (suc s.steps) (event.Read place width (wrap width v)) (record s { values = values })))
    (give (wrap width v))

abbrev pub receive : Place → Width → Run ℕ
receive place width = in_budget (with_state (λ s. take_value place width s.values))

-- the next step is undefined
abbrev pub undefined : {A : Type 0} → Span → UndefinedCause → Run A
undefined span cause = in_budget (stopped (stop.Undefined (record { span = span; cause = cause })))

-- no program comes here
abbrev pub never : {A : Type 0} → Run A
never = stopped stop.Stuck

abbrev pub given : {A : Type 0} → Span → Step A → Run A
given span (Gives a) = give a
given span (Breaks cause) = undefined span cause
given span Never = never

-- a value that is there in every program
abbrev pub sure : {A : Type 0} → Option A → Run A
sure (Some a) = give a
sure None = never

-- the core halts
abbrev pub halt : {A : Type 0} → Run A
halt = then_do (mark_now event.Halted) (stopped stop.Ended)

-- ---- objects

abbrev pub is_alive : State → ℕ → Bool
is_alive s number = elim (slice_get s.objects number) [ None ↦ false | Some o ↦ o.is_alive ]

abbrev pub leaves_of : State → ℕ → Leaves
leaves_of s number = elim (slice_get s.objects number) [ None ↦ [] | Some o ↦ o.leaves ]

abbrev pub with_leaves : ℕ → Leaves → State → State
with_leaves number leaves s = record s { objects = slice_set s.objects number (record { is_alive = is_alive s number; leaves = leaves }) }

-- new objects, unset, of so many leaves each
abbrev pub unset : ℕ → Object
unset leaves = record { is_alive = true; leaves = replicate leaves None }

-- those from this number on are gone
abbrev pub ended_from : ℕ → List Object → List Object
ended_from zero objects = map (λ o. record { is_alive = false; leaves = [] }) objects
ended_from (suc n) [] = []
ended_from (suc n) (o ∷ objects) = o ∷ ended_from n objects
