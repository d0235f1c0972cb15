-- Which line may stand behind which: this project's own.
use Rattle.std.specs.Prelude.{◌≡◌, ℕ, ◌<◌, ◌⊎◌, List, [], ◌∷◌, Option, Some, None, IsSome, IfSome}
use Rattle.certtext.specs.declared.cert.Label.{Label}
use Rattle.certtext.specs.declared.order.Before.{Before}
use Rattle.certtext.specs.declared.order.Before.TheVariants as before
use Rattle.certtext.specs.declared.order.Place.{Place}
use Rattle.certtext.specs.declared.saying.Saying.{Saying}
use Rattle.certtext.specs.declared.saying.Saying.TheVariants.{Core, Certified, Labelled, Refused, Unbalanced}

-- labels by (entry, pc)
abbrev pub IsBefore : Label → Label → Type 0
IsBefore a b = (a.entry < b.entry) ⊎ ((a.entry ≡ b.entry) × (a.pc < b.pc))

-- Core 0 is named first, then core 1.
abbrev pub MayName : Option ℕ → ℕ → Type 0
MayName None core = core ≡ 0
MayName (Some named) core = (named ≡ 0) × (core ≡ 1)

-- The regions of a core ascend.
abbrev pub MayTell : Place → ℕ → Type 0
MayTell place region = IsSome place.core × IfSome place.region (λ last. last < region)

-- A label stands behind the bounds that it belongs to, or behind one that is before it.
abbrev pub MayLabel : Before → Label → Type 0
MayLabel before.Other label = ⊥
MayLabel before.Bounds label = Unit {0}
MayLabel (before.Label last) label = IsBefore last label

abbrev pub MayCome : Place → Saying → Type 0
MayCome place (Core core) = MayName place.core core
MayCome place (Certified region least most) = MayTell place region
MayCome place (Labelled label) = MayLabel place.before label
MayCome place (Refused region refusal) = MayTell place region
MayCome place (Unbalanced region pc first second) = MayTell place region

-- behind the first line of a file
abbrev pub start : Place
start = record { core = None; region = None; before = before.Other }

abbrev pub behind_region : Place → ℕ → Before → Place
behind_region place region what = record { core = place.core; region = Some region; before = what }

abbrev pub next : Place → Saying → Place
next place (Core core) = record { core = Some core; region = None; before = before.Other }
next place (Certified region least most) = behind_region place region before.Bounds
next place (Labelled label) = record { core = place.core; region = place.region; before = before.Label label }
next place (Refused region refusal) = behind_region place region before.Other
next place (Unbalanced region pc first second) = behind_region place region before.Other

-- each line may stand behind those before it
abbrev pub InOrder : Place → List Saying → Type 0
InOrder place [] = Unit {0}
InOrder place (s ∷ said) = MayCome place s × InOrder (next place s) said

abbrev pub place_behind : Place → List Saying → Place
place_behind place [] = place
place_behind place (s ∷ said) = place_behind (next place s) said
