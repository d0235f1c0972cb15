-- Where the instructions of an assembly program go. An instruction's place is how many instructions stand before it.
use Rattle.std.specs.Prelude.{ℕ, suc, ◌==◌, if◌then◌else◌, Option, Some, None, option_map, List, [], ◌∷◌}
use Rattle.std.specs.List.{filter_map}
use Rattle.isa.specs.declared.inst.Inst.{Inst}
use Rattle.isa.specs.declared.inst.Inst.TheVariants as inst
use Rattle.isa.specs.declared.program.Item.{Item}
use Rattle.isa.specs.declared.program.Item.TheVariants as item
use Rattle.isa.specs.declared.program.Target.{Target}
use Rattle.isa.specs.declared.program.Target.TheVariants as target
use Rattle.branchfit.specs.declared.spot.Reach.{Reach}
use Rattle.branchfit.specs.declared.spot.Reach.TheVariants.{Anywhere, Always, Conditional}
use Rattle.branchfit.specs.declared.spot.Spot.{Spot}

abbrev pub reach_of : Inst → Reach
reach_of (inst.Branch condition offset a b) = Conditional
reach_of (inst.Qba offset) = Always
reach_of _ = Anywhere

-- the place that a target tells, where the labels tell theirs; a symbol's is settled when the program is linked
abbrev pub aim_of : (ℕ → Option ℕ) → Target → Option ℕ
aim_of places (target.Label l) = places l
aim_of places (target.Symbol s kind) = None

abbrev pub spot_of : (ℕ → Option ℕ) → Item → Option Spot
spot_of places (item.Label l) = None
spot_of places (item.Note kind value) = None
spot_of places (item.Source n) = None
spot_of places (item.Whole i) = Some (record { reach = Anywhere; aim = None })
spot_of places (item.Aimed i t) = Some (record { reach = reach_of i; aim = aim_of places t })

-- how many instructions stand before a label
abbrev pub place_in : List Item → ℕ → Option ℕ
place_in [] l = None
place_in (item.Label m ∷ items) l = if m == l then Some 0 else place_in items l
place_in (item.Source n ∷ items) l = place_in items l
place_in (item.Note kind value ∷ items) l = place_in items l
place_in (item.Whole i ∷ items) l = option_map suc (place_in items l)
place_in (item.Aimed i t ∷ items) l = option_map suc (place_in items l)

-- the instructions of a program, in their order
unfoldable pub spots_of : List Item → List Spot
spots_of items = filter_map (spot_of (place_in items)) items
