-- Which branches are far, this project's own. A word of a branch tells a distance of -512 to 511 words. A branch that goes further
-- takes the opposite branch over a JMP, which are two words in place of one; a QBA takes the JMP alone. So a branch that is far may
-- make others far, and the far ones are the least set in which each branch that goes further is.
use Rattle.std.specs.Prelude.{ℕ, ◌+◌, ◌-◌, min, nat_lt, Bool, true, false, ◌&&◌, ◌||◌, IsTrue, Option, Some, None, List, [], ◌∷◌, length}
use Rattle.std.specs.Prelude.{slice_index}
use Rattle.branchfit.specs.declared.spot.Reach.{Reach}
use Rattle.branchfit.specs.declared.spot.Reach.TheVariants.{Anywhere, Always, Conditional}
use Rattle.branchfit.specs.declared.spot.Spot.{Spot}

-- how many words an instruction takes
abbrev pub width : Reach → Bool → ℕ
width Conditional true = 2
width _ _ = 1

-- A set of places is a list of as many tests. A list that is too short has no more places.
abbrev pub first : List Bool → Bool
first [] = false
first (f ∷ far) = f

abbrev pub others : List Bool → List Bool
others [] = []
others (f ∷ far) = far

-- the number of each place's first word, and of the word behind the last place, from `here` on
unfoldable pub numbers_from : ℕ → List Spot → List Bool → List ℕ
numbers_from here [] far = here ∷ []
numbers_from here (s ∷ spots) far = here ∷ numbers_from (here + width s.reach (first far)) spots (others far)

abbrev pub numbers_of : List Spot → List Bool → List ℕ
numbers_of spots far = numbers_from 0 spots far

-- the number of a place; no place is behind the last
abbrev pub number_in : List ℕ → ℕ → ℕ
number_in numbers p = slice_index numbers (min p (length numbers - 1))

abbrev pub is_beyond : ℕ → ℕ → Bool
is_beyond here there = nat_lt (there + 512) here || nat_lt (here + 511) there

abbrev pub is_branch : Reach → Bool
is_branch Anywhere = false
is_branch Always = true
is_branch Conditional = true

abbrev pub aims_beyond : List ℕ → ℕ → Option ℕ → Bool
aims_beyond numbers p None = false
aims_beyond numbers p (Some q) = is_beyond (number_in numbers p) (number_in numbers q)

-- a branch that goes further than its word tells
abbrev pub is_out : List ℕ → ℕ → Spot → Bool
is_out numbers p s = is_branch s.reach && aims_beyond numbers p s.aim

-- from the place p on, each branch that goes further is in the set
abbrev pub HasAllOut : List ℕ → ℕ → List Spot → List Bool → Type 0
HasAllOut numbers p [] [] = Unit {0}
HasAllOut numbers p [] (f ∷ far) = ⊥
HasAllOut numbers p (s ∷ spots) [] = ⊥
HasAllOut numbers p (s ∷ spots) (f ∷ far) = (IsTrue (is_out numbers p s) → IsTrue f) × HasAllOut numbers (p + 1) spots far

abbrev pub IsClosed : List Spot → List Bool → Type 0
IsClosed spots far = HasAllOut (numbers_of spots far) 0 spots far

abbrev pub IsWithin : List Bool → List Bool → Type 0
IsWithin [] [] = Unit {0}
IsWithin [] (g ∷ larger) = ⊥
IsWithin (f ∷ far) [] = ⊥
IsWithin (f ∷ far) (g ∷ larger) = (IsTrue f → IsTrue g) × IsWithin far larger

pub record AreFar (spots : List Spot) (far : List Bool) : Type 0 where
  pub closed : IsClosed spots far
  pub least : (larger : List Bool) → IsClosed spots larger → IsWithin far larger
