-- What a machine owes to a meaning, and what more budget changes.
use Rattle.std.specs.Prelude.{◌≡◌, false}
use Rattle.behaviour.specs.declared.stop.Stop.{Stop}
use Rattle.behaviour.specs.Ran.{Ran, Done, Stopped, state_of, goes_on, Turn, Again, Over}
use Rattle.behaviour.specs.Machine.{Reaches}

module _ {U S A M : Type 0} where
  -- D of the value and both states where the run is done, E of the cause and both states where it stopped
  abbrev pub Stands : (A → S → M → Type 0) → (Stop U → S → M → Type 0) → Ran U S A → M → Type 0
  Stands D E (Done a s) m = D a s m
  Stands D E (Stopped c s) m = E c s m

  -- From m the machine comes to a state that stands to the run as D and E say.
  pub record Simulates {V : Type 0} (step : M → Ran V M (Unit {0})) (D : A → S → M → Type 0) (E : Stop U → S → M → Type 0)
      (run : Ran U S A) (m : M) : Type 0 where
    pub place : M
    pub reached : Reaches step m place
    pub stands : Stands D E run place

module _ {U S A : Type 0} where
  -- With more budget the run is the same, or it goes on from where it stood.
  pub record Extends (Later : S → S → Type 0) (run longer : Ran U S A) : Type 0 where
    pub settled : goes_on run ≡ false → longer ≡ run
    pub later : Later (state_of run) (state_of longer)

-- what a turn comes to: the invariant for the turns that are left, or the end
module _ {S A M : Type 0} where
  abbrev pub AfterTurn : (S → M → Type 0) → (A → S → M → Type 0) → Turn A → S → M → Type 0
  AfterTurn I D Again s m = I s m
  AfterTurn I D (Over a) s m = D a s m
