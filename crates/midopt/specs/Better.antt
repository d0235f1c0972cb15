-- When a program may stand for another.
use Rattle.std.specs.Prelude.{◌≡◌, ℕ, ◌≤◌, ◌⊎◌, Bool, true, false, IsTrue, List, Option, Some, None}
use Rattle.std.specs.Prelude.{slice_get, slice_set, sum_by}
use Rattle.std.specs.List.{list_any}
use Rattle.behaviour.specs.declared.stop.Stop.{Stop}
use Rattle.behaviour.specs.declared.stop.Stop.TheVariants.{Undefined}
use Rattle.behaviour.specs.Ran.{Ran, Done, Stopped}
use Rattle.midcode.specs.Machine.{Wild}
use Rattle.midcode.specs.Function.{Function, kinds}
use Rattle.midcode.specs.Structure.{skeleton}
use Rattle.midcode.specs.Program.{Program, is_whole, IsValidProgram}
use Rattle.midcode.specs.Cost.{size, multiplies, divides}
use Rattle.midopt.specs.Weighed.{Weight, IsOfActs, Weighed, run}

-- ---- runs

-- The same is shown and read, with the same count, in no more cycles.
pub record IsShown (old new : Weighed) : Type 0 where
  pub events : new.state.events ≡ old.state.events
  pub values : new.state.values ≡ old.state.values
  pub weight : new.weight ≡ old.weight
  pub charge : new.state.charge ≤ old.state.charge

abbrev pub is_undefined : Stop Wild → Bool
is_undefined (Undefined w) = true
is_undefined c = false

-- It stopped at an operation that is wild.
abbrev pub is_wild : {S A : Type 0} → Ran Wild S A → Bool
is_wild (Done a s) = false
is_wild (Stopped c s) = is_undefined c

-- Both stand, and by the same cause.
abbrev pub StandsAs : Ran Wild Weighed (Unit {0}) → Ran Wild Weighed (Unit {0}) → Type 0
StandsAs (Done u s) (Done v t) = IsShown s t
StandsAs (Stopped c s) (Stopped d t) = (d ≡ c) × IsShown s t
StandsAs old new = ⊥

-- Wherever a run of the old program stands that wasn't wild, the new one's stands so after as many operations or fewer; and wherever
-- the new one's stands, the old one's stands so after as many or more, if it wasn't wild by then. Runs are by a budget of operations.
pub record IsBetterRun (old new : ℕ → Ran Wild Weighed (Unit {0})) : Type 0 where
  pub forth : (n : ℕ) → (is_wild (old n) ≡ true) ⊎ ((m : ℕ) × (m ≤ n) × StandsAs (old n) (new m))
  pub back : (m : ℕ) → (n : ℕ) × (m ≤ n) × ((is_wild (old n) ≡ true) ⊎ StandsAs (old n) (new m))

-- ---- functions

-- The operations that do more than compute a value are the same in the same order: so marks, turns, delays and calls, and which
-- accesses are own. None takes more room, and no helper is needed that wasn't.
pub record IsThinner (old new : Function) : Type 0 where
  pub signature : new.signature ≡ old.signature
  pub registers : new.registers ≡ old.registers
  pub labels : new.labels ≡ old.labels
  pub acts : skeleton (kinds new) ≡ skeleton (kinds old)
  pub size : sum_by size (kinds new) ≤ sum_by size (kinds old)
  pub multiplies : list_any multiplies (kinds old) ≡ false → list_any multiplies (kinds new) ≡ false
  pub divides : list_any divides (kinds old) ≡ false → list_any divides (kinds new) ≡ false

abbrev pub Both : Option Function → Option Function → Type 0
Both None None = Unit {0}
Both (Some f) (Some g) = IsThinner f g
Both _ _ = ⊥

-- ---- programs

-- The new program may stand for the old one: whatever is read, wherever the objects are, and whatever of its acts is counted.
pub record IsBetter (old new : Program) : Type 0 where
  pub objects : new.objects ≡ old.objects
  pub regions : new.regions ≡ old.regions
  pub main : new.main ≡ old.main
  pub functions : (f : ℕ) → Both (slice_get old.functions f) (slice_get new.functions f)
  pub valid : IsValidProgram old → IsValidProgram new
  pub whole : IsTrue (is_whole old) → IsTrue (is_whole new)
  pub runs : (w : Weight) (a values : List ℕ) → IsOfActs w → IsBetterRun (run w old a values) (run w new a values)

-- The function may stand for another in every program, under every number.
abbrev pub placed : Program → ℕ → Function → Program
placed p f function = record p { functions = slice_set p.functions f function }

pub record IsBetterFunction (old new : Function) : Type 0 where
  pub everywhere : (p : Program) (f : ℕ) → slice_get p.functions f ≡ Some old → IsBetter p (placed p f new)

-- The functions may stand for others, number by number, in every program of those.
pub record AreBetter (old new : List Function) : Type 0 where
  pub everywhere : (p : Program) → p.functions ≡ old → IsBetter p (record p { functions = new })
