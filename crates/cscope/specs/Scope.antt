-- The declarations that hold at a place, the nearest first (C99 6.2.1).
use Rattle.std.specs.Prelude.{ℕ, ◌==◌, nat_lt, if◌then◌else◌, Option, Some, None, List, [], ◌∷◌}
use Rattle.cscope.specs.declared.entry.Entry.{Entry}

-- of so many names
pub record Declared : Type 0 where
  pub names : ℕ
  pub entries : List Entry

-- the nearest declaration of a name
abbrev pub found : ℕ → List Entry → Option Entry
found _ [] = None
found n (e ∷ rest) = if e.name.0 == n then Some e else found n rest

-- the nearest of all
abbrev pub top : List Entry → Option Entry
top [] = None
top (e ∷ _) = Some e

-- those of blocks that aren't deeper
abbrev pub left : ℕ → List Entry → List Entry
left _ [] = []
left depth (e ∷ rest) = if nat_lt depth e.depth then left depth rest else e ∷ rest
