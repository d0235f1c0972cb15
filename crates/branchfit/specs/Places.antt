-- Where labels are found on the way to their places.
use Rattle.std.specs.Prelude.{◌≡◌, ℕ, ◌==◌, if◌then◌else◌, Option, Some, None, List}
use Rattle.std.specs.BTreeMap.{BTreeMap, get}
use Rattle.std.specs.Ordering.{nat_cmp}
use Rattle.isa.specs.declared.program.Item.{Item}
use Rattle.isa.specs.declared.program.Item.TheVariants as item
use Rattle.branchfit.specs.Aims.{place_in}

abbrev pub found : BTreeMap ℕ ℕ → ℕ → Option ℕ
found places l = get nat_cmp places l

-- the first of two answers
abbrev pub or_else : Option ℕ → Option ℕ → Option ℕ
or_else None b = b
or_else (Some a) b = Some a

-- what is found where one label more has its place
abbrev pub known_behind : BTreeMap ℕ ℕ → ℕ → ℕ → ℕ → Option ℕ
known_behind places label place l = or_else (found places l) (if label == l then Some place else None)

abbrev pub found_behind : BTreeMap ℕ ℕ → ℕ → Item → ℕ → Option ℕ
found_behind places p (item.Label m) l = known_behind places m p l
found_behind places p _ l = found places l

abbrev pub Knows : List Item → BTreeMap ℕ ℕ → Type 0
Knows items places = (l : ℕ) → found places l ≡ place_in items l
