-- The cycles of a trace don't fall.
use Rattle.std.specs.Prelude.{◌≤◌, List, [], ◌∷◌}
use Rattle.std.specs.List.{AllByRecursion}
use Rattle.prutrace.specs.declared.event.Stamped.{Stamped}

-- no event has a later cycle than one behind it
abbrev pub Ascends : List Stamped → Type 0
Ascends [] = Unit {0}
Ascends (s ∷ trace) = AllByRecursion (λ r. s.cycle ≤ r.cycle) trace × Ascends trace
