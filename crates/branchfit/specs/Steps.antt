-- How the far branches are found: this is no more than the way there.
use Rattle.std.specs.Prelude.{ℕ, ◌+◌, Bool, true, false, ◌||◌, List, [], ◌∷◌}
use Rattle.branchfit.specs.declared.spot.Spot.{Spot}
use Rattle.branchfit.specs.Far.{first, others, is_out, numbers_of}

-- the set, with the branches that go further
unfoldable pub grown_from : List ℕ → ℕ → List Spot → List Bool → List Bool
grown_from numbers p [] far = []
grown_from numbers p (s ∷ spots) far = (first far || is_out numbers p s) ∷ grown_from numbers (p + 1) spots (others far)

abbrev pub grown : List Spot → List Bool → List Bool
grown spots far = grown_from (numbers_of spots far) 0 spots far

-- how many are not in it
abbrev pub one_near : Bool → ℕ
one_near true = 0
one_near false = 1

unfoldable pub near_count : List Bool → ℕ
near_count [] = 0
near_count (f ∷ far) = one_near f + near_count far
