-- What it is for a body of items to take the same cycles on every path through it, wherever it stands in a code and by either cycle table.
use Rattle.std.specs.Prelude.{◌≡◌, ℕ, ◌+◌, ◌≤◌, ◌<◌, true, List, Option, None}
use Rattle.isa.specs.declared.program.Item.{Item}
use Rattle.corestep.specs.declared.onward.Turning.{Turning}
use Rattle.corestep.specs.declared.table.Table.{Table}
use Rattle.corerun.specs.Code.{Code}
use Rattle.corepath.specs.Cause.{Passes, IsLoopOf}
use Rattle.corepath.specs.Certificate.{AnyCause}
use Rattle.corepath.specs.Flow.{Reaches, Returns, IsCalled}
use Rattle.corepath.specs.Loops.{Loop, holds}
use Rattle.corepath.specs.Path.{Path, Shares, own_cost}
use Rattle.helpers.specs.Runs.{StandsAt}

-- a place of a body of so many instructions whose first is at place `base`
abbrev pub IsWithin : ℕ → ℕ → ℕ → Type 0
IsWithin base count w = (base ≤ w) × (w < base + count)

-- Control comes into the body by calls of its first place alone, and a loop of the region that has one of its places has all of them.
pub record IsCalledOnly (code : Code) (region first base count : ℕ) : Type 0 where
  pub begins : IsWithin base count first → ⊥
  pub comes : (u v : ℕ) → Passes code region first u v → IsWithin base count v → IsWithin base count u
  pub called : (f : ℕ) → IsCalled code region first f → IsWithin base count f → f ≡ base
  pub loops : (p u : ℕ) (l : Loop) → IsLoopOf code region first p l → (IsWithin base count p → ⊥) → IsWithin base count u
      → holds l u ≡ true → (l.first ≤ base) × (base + count ≤ l.last + 1)

-- Each path from the first place stays in the body. All that come to a return take the same cycles, with the return's own, and run no LOOP
-- there. All that come to a place, with the LOOP that runs in its first turn, take the same. No place of it refuses a certificate.
pub record IsEven (count cycles : ℕ) (items : List Item) : Type 0 where
  pub stays : (code : Code) (region base w : ℕ) → StandsAt code base items → Reaches code region base w → IsWithin base count w
  pub returns : (table : Table) (code : Code) (region base w s : ℕ) (loops : List Loop) (t : Option Turning) (k : Loop → ℕ)
      → StandsAt code base items → Path table code region loops base w t k s → (r : Returns code region w)
      → (t ≡ None) × (s + own_cost table r.inst ≡ cycles)
  pub one_sum : (table : Table) (code : Code) (region base w s z : ℕ) (loops : List Loop) → StandsAt code base items
      → Shares table code region loops base w s → Shares table code region loops base w z → s ≡ z
  pub no_cause : (code : Code) (region first base w : ℕ) → StandsAt code base items → IsCalledOnly code region first base count
      → IsWithin base count w → AnyCause code region first w → ⊥
