-- The words that an assembly program is fitted to.
use Rattle.std.specs.Prelude.{◌≡◌, ℕ, ◌<◌, ◌≤◌, ◌-◌, ◌^◌, min, List, length}
use Rattle.isa.specs.declared.program.Item.{Item}
use Rattle.isa.specs.Fitted.{Fitted}
use Rattle.branchfit.specs.Aims.{spots_of}
use Rattle.branchfit.specs.Far.{AreFar, numbers_of}
use Rattle.branchfit.specs.Laid.{Layout, number_at, laid}

-- the places of the items, with the far ones among them and their numbers
pub record IsLayout (items : List Item) (layout : Layout) : Type 0 where
  pub spots : layout.spots ≡ spots_of items
  pub least : AreFar layout.spots layout.far
  pub numbers : layout.numbers ≡ numbers_of layout.spots layout.far

pub record Fits (items : List Item) (made : Fitted) : Type 0 where
  pub layout : Layout
  pub places : IsLayout items layout
  pub words : made ≡ laid layout items

-- the number of fitted words
pub record HasLength (items : List Item) (n : ℕ) : Type 0 where
  pub layout : Layout
  pub places : IsLayout items layout
  pub last : n ≡ number_at layout (length layout.spots)

-- a number, or the greatest of 32 bits in place of a larger one
abbrev pub named : ℕ → ℕ
named n = min n (2 ^ 32 - 1)

-- as many words as a core's code may have, or fewer
pub record IsShort (items : List Item) : Type 0 where
  pub all : ℕ
  pub fitted : HasLength items all
  pub within : all ≤ 2048

-- more words than a core's code may have
pub record IsTooLong (items : List Item) (n : ℕ) : Type 0 where
  pub all : ℕ
  pub fitted : HasLength items all
  pub above : 2048 < all
  pub count : n ≡ named all
