-- When a trace keeps its times: this project's own. It speaks of the cycles of events alone.
use Rattle.std.specs.Prelude.{◌≡◌, ℕ, ◌+◌, ◌≤◌, ◌==◌, Bool, false, IfSome, find, List, [], ◌∷◌, All}
use Rattle.prutrace.specs.declared.event.Event.{Event}
use Rattle.prutrace.specs.declared.event.Event.TheVariants.{Read, Write, Enter, Leave, DelayIn, DelayOut, Halted}
use Rattle.prutrace.specs.declared.event.Stamped.{Stamped}

-- how many cycles a region takes, from its entry to its end: at least and at most so many
pub record RegionTime : Type 0 where
  pub region : ℕ
  pub least : ℕ
  pub most : ℕ

abbrev pub is_leave : ℕ → Event → Bool
is_leave region (Leave other) = other == region
is_leave region _ = false

abbrev pub is_delay_out : ℕ → Event → Bool
is_delay_out cycles (DelayOut other) = other == cycles
is_delay_out cycles _ = false

-- The next event that ends it, where there is one, comes at least and at most so many cycles after this cycle.
abbrev pub EndsWithin : (Event → Bool) → ℕ → ℕ → ℕ → List Stamped → Type 0
EndsWithin is_end from least most behind =
    IfSome (find (λ s. is_end s.event) behind) (λ s. (from + least ≤ s.cycle) × (s.cycle ≤ from + most))

-- A region that is entered at this cycle ends in the time of each that is known of it.
abbrev pub RegionEnds : List RegionTime → ℕ → ℕ → List Stamped → Type 0
RegionEnds times region from behind =
    All (λ t. t.region ≡ region → EndsWithin (is_leave region) from t.least t.most behind) times

-- what begins with this event at this cycle ends in its time; a delay takes exactly its cycles
abbrev pub BeginsExactly : List RegionTime → ℕ → Event → List Stamped → Type 0
BeginsExactly times from (Enter region) behind = RegionEnds times region from behind
BeginsExactly times from (DelayIn cycles) behind = EndsWithin (is_delay_out cycles) from cycles cycles behind
BeginsExactly times from _ behind = Unit {0}

-- each region and each delay of the trace takes its time
abbrev pub IsExact : List RegionTime → List Stamped → Type 0
IsExact times [] = Unit {0}
IsExact times (s ∷ behind) = BeginsExactly times s.cycle s.event behind × IsExact times behind
