-- How the declarations are kept: in a stack with the nearest last, with the place of the nearest one of each name beside it.
use Rattle.std.specs.Prelude.{ℕ, ◌≡◌, ◌==◌, ◌<◌, if◌then◌else◌, Option, Some, None, List, [], ◌∷◌, map, reverse, length, get_or}
use Rattle.cscope.specs.declared.entry.Entry.{Entry}
use Rattle.cscope.specs.declared.slot.Slot.{Slot}

abbrev pub entries : List Slot → List Entry
entries slots = map (λ s. s.entry) (reverse slots)

-- the place of the nearest slot of a name, of slots with the nearest first
abbrev pub place_of : ℕ → List Slot → Option ℕ
place_of _ [] = None
place_of n (s ∷ rest) = if s.entry.name.0 == n then Some (length rest) else place_of n rest

-- each slot has the place of what it hides
abbrev pub IsLinked : ℕ → List Slot → Type 0
IsLinked _ [] = Unit {0}
IsLinked names (s ∷ rest) = (s.entry.name.0 < names) × (s.hidden ≡ place_of s.entry.name.0 rest) × IsLinked names rest

pub record IsScope (slots : List Slot) (nearest : List (Option ℕ)) : Type 0 where
  pub linked : IsLinked (length nearest) (reverse slots)
  pub places : (n : ℕ) → n < length nearest → get_or nearest n None ≡ place_of n (reverse slots)
