-- What the meaning shows and how it stands, and what a core's trace owes to it.
use Rattle.std.specs.Prelude.{◌≡◌, ◌↔◌, ℕ, suc, ◌+◌, ◌*◌, ◌≤◌, ◌<◌, Bool, IsTrue, List, [], ◌∷◌}
use Rattle.std.specs.Prelude.{◌++◌, length, map, Option, Some, None, slice_get}
use Rattle.std.specs.List.{filter_map}
use Rattle.csyn.specs.declared.span.Span.{Span}
use Rattle.prutrace.specs.declared.event.Event.{Event}
use Rattle.prutrace.specs.declared.event.Event.TheVariants.{Read, Halted}
use Rattle.cprogram.specs.declared.program.Program.{Program}
use Rattle.behaviour.specs.Ran.{Ran, Stopped, state_of}
use Rattle.behaviour.specs.declared.stop.Stop.TheVariants as stop
use Rattle.cmean.specs.declared.undefined.UndefinedCause.{UndefinedCause}
use Rattle.cmean.specs.declared.undefined.UndefinedStep.{UndefinedStep}
use Rattle.cmean.specs.State.{State, Shown}
use Rattle.cmean.specs.Expression.{Valued}
use Rattle.cmean.specs.Meaning.{mean}

-- how the meaning stands within a number of steps
pub data Outcome : Type 0 where
  More : Outcome  -- none of the others yet
  Dry : ℕ → Outcome  -- a read is due at this step, and no value is left for it
  Ended : ℕ → Outcome  -- it halted at this step
  Undefined : Span → UndefinedCause → ℕ → Outcome  -- this step is one that C leaves undefined

-- what is due is due at the next step
abbrev pub outcome_of : Ran UndefinedStep State Valued → Outcome
outcome_of (Stopped stop.Dry s) = Dry (suc s.steps)
outcome_of (Stopped stop.Ended s) = Ended s.steps
outcome_of (Stopped (stop.Undefined u) s) = Undefined u.span u.cause (suc s.steps)
outcome_of run = More

module _ (p : Program) (values : List ℕ) where
  abbrev pub outcome : ℕ → Outcome
  outcome steps = outcome_of (mean p values steps)

  -- the events within a number of steps, each with its step
  abbrev pub shown : ℕ → List Shown
  shown steps = (state_of (mean p values steps)).shown

  abbrev pub events : ℕ → List Event
  events steps = map (λ e. e.event) (shown steps)

-- ---- a core's trace, without its cycles

-- what reads were answered with
abbrev pub read_value : Event → Option ℕ
read_value (Read place width value) = Some value
read_value event = None

abbrev pub read_values : List Event → List ℕ
read_values trace = filter_map read_value trace

-- one list of events is a beginning of another
abbrev pub IsBeginning : List Event → List Event → Type 0
IsBeginning front whole = (rest : List Event) × (front ++ rest ≡ whole)

module _ (p : Program) (trace : List Event) where
  -- The meaning, given what the trace read, met no undefined step before the trace's end.
  abbrev pub IsClean : Type 0
  IsClean = (steps : ℕ) (span : Span) (cause : UndefinedCause) (step : ℕ) →
      outcome p (read_values trace) steps ≡ Undefined span cause step → length trace ≤ length (events p (read_values trace) steps)

  -- A core that has done so many instructions, and is halted, or stuck, keeps to the meaning: its trace is a beginning of the meaning's
  -- events. `nodes` is the number of the nodes of the source's tree and of the leaves of its initialised local arrays and structs.
  pub record Keeps (nodes instructions : ℕ) (is_halted is_stuck : Bool) : Type 0 where
    pub beginning : IsBeginning trace (events p (read_values trace) ((instructions + 1) * nodes))
    pub halted : IsTrue is_halted ↔ ((front : List Event) × (trace ≡ front ++ Halted ∷ []))
    pub whole : IsTrue is_halted → (steps : ℕ) × (step : ℕ) ×
        (outcome p (read_values trace) steps ≡ Ended step) × (events p (read_values trace) steps ≡ trace)
    pub stuck : IsTrue is_stuck → (steps : ℕ) × (span : Span) × (cause : UndefinedCause) × (step : ℕ) ×
        (outcome p (read_values trace) steps ≡ Undefined span cause step)

  -- It is at most 512 instructions a source step behind.
  pub record Pace (instructions : ℕ) : Type 0 where
    pub shows : (steps place : ℕ) (e : Shown) → slice_get (shown p (read_values trace) steps) place ≡ Some e →
        512 * e.step ≤ instructions → slice_get trace place ≡ Some e.event
    pub waits : (steps step : ℕ) → outcome p (read_values trace) steps ≡ Dry step → instructions < 512 * step
