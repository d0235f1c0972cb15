-- What a run of a core gives.
use Rattle.std.specs.Prelude.{◌≡◌, ℕ, ◌+◌, List, [], ◌∷◌, Option, Some, None, min, nat_lt, if◌then◌else◌}
use Rattle.prutrace.specs.declared.event.Event.{Event}
use Rattle.prutrace.specs.declared.event.Stamped.{Stamped}
use Rattle.prucc.specs.declared.machine.Stop.TheVariants.{Going, Halted}
use Rattle.prucc.specs.declared.run.Outcome.{Outcome}
use Rattle.prucc.specs.Meaning.{shown_in, event_count}

-- the event that a word shows, if it shows one, with its cycle
abbrev pub stamped : Option Event → ℕ → List Stamped
stamped None cycle = []
stamped (Some e) cycle = record { event = e; cycle = cycle } ∷ []

-- each event in a cycle of its own, the first in this one
abbrev pub stamped_from : ℕ → List Event → List Stamped
stamped_from cycle [] = []
stamped_from cycle (e ∷ es) = record { event = e; cycle = cycle } ∷ stamped_from (cycle + 1) es

-- what n cycles of a core give whose source writes these numbers: the first n events of its meaning
pub record ShowsMeaning (ks : List ℕ) (n : ℕ) (o : Outcome) : Type 0 where
  pub trace : o.trace.items ≡ stamped_from 0 (shown_in n ks)
  pub count : o.count ≡ min n (event_count ks)
  pub stop : o.stop ≡ (if nat_lt n (event_count ks) then Going else Halted)
