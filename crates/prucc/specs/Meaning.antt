-- What a source of the first form means.
use Rattle.std.specs.Prelude.{ℕ, ◌+◌, List, [], ◌∷◌, ◌++◌, length, map, take}
use Rattle.prunum.specs.declared.width.Width.TheVariants.{B4}
use Rattle.prutrace.specs.declared.event.Place.TheVariants.{Reg30}
use Rattle.prutrace.specs.declared.event.Event.{Event}
use Rattle.prutrace.specs.declared.event.Event.TheVariants.{Write, Halted}

-- a source that writes these numbers to the output register shows each write, in order, and then that it halted
abbrev pub meaning : List ℕ → List Event
meaning ks = map (λ k. Write Reg30 B4 k) ks ++ Halted ∷ []

-- what shows of it in n cycles, of which each event takes one
abbrev pub shown_in : ℕ → List ℕ → List Event
shown_in n ks = take n (meaning ks)

-- how many events the meaning has
abbrev pub event_count : List ℕ → ℕ
event_count ks = length ks + 1
