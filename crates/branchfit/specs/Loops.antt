-- LOOPs whose bodies a word can't tell.
use Rattle.std.specs.Prelude.{◌≡◌, ℕ, suc, ◌+◌, nat_lt, Bool, false, ◌||◌, if◌then◌else◌, Option, Some, None, option_map, List, [], ◌∷◌}
use Rattle.isa.specs.declared.inst.Inst.TheVariants as inst
use Rattle.isa.specs.declared.program.Item.{Item}
use Rattle.isa.specs.declared.program.Item.TheVariants as item
use Rattle.branchfit.specs.Laid.{Layout, number_at, there_at, place_behind}
use Rattle.branchfit.specs.Fits.{IsLayout, named}

-- no word stands between the word `here` and the word `there`, or more than 255
abbrev pub is_wide : ℕ → ℕ → Bool
is_wide here there = nat_lt there (here + 2) || nat_lt (here + 256) there

abbrev pub is_long_loop : Layout → ℕ → Item → Bool
is_long_loop layout p (item.Aimed (inst.Loop body) t) = is_wide (number_at layout p) (there_at layout p)
is_long_loop layout p _ = false

-- the number of the first such item
unfoldable pub first_long : Layout → ℕ → List Item → Option ℕ
first_long layout p [] = None
first_long layout p (i ∷ items) = if is_long_loop layout p i then Some 0 else option_map suc (first_long layout (place_behind p i) items)

-- the first item that is such a LOOP, or the greatest number of 32 bits in place of a larger one
pub record IsLongLoop (items : List Item) (answer : Option ℕ) : Type 0 where
  pub layout : Layout
  pub places : IsLayout items layout
  pub first : answer ≡ option_map named (first_long layout 0 items)

-- the body of each LOOP has 1 to 255 fitted words
abbrev pub HasShortLoops : List Item → Type 0
HasShortLoops items = IsLongLoop items None
