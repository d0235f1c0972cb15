-- How a run stands. The state has all that is counted and shown: steps, events, the values that are left to be read.
use Rattle.std.specs.Prelude.{ℕ, zero, suc, Bool, true, false}
use Rattle.behaviour.specs.declared.stop.Stop.{Stop}
use Rattle.behaviour.specs.declared.stop.Stop.TheVariants.{More}

-- done with a value, or stopped before
pub data Ran (U S A : Type 0) : Type 0 where
  Done : A → S → Ran U S A
  Stopped : Stop U → S → Ran U S A

module _ {U S : Type 0} where
  -- the state in which it stands
  abbrev pub state_of : {A : Type 0} → Ran U S A → S
  state_of (Done a s) = s
  state_of (Stopped c s) = s

  -- one run, and then what follows from its value in its state
  abbrev pub and_then : {A B : Type 0} → Ran U S A → (A → S → Ran U S B) → Ran U S B
  and_then (Done a s) f = f a s
  and_then (Stopped c s) f = Stopped c s

  -- more budget makes it go on
  abbrev pub goes_on : {A : Type 0} → Ran U S A → Bool
  goes_on (Stopped More s) = true
  goes_on r = false

-- what a turn of a loop comes to
pub data Turn (A : Type 0) : Type 0 where
  Again : Turn A
  Over : A → Turn A

module _ {U S A : Type 0} where
  abbrev pub turned : Turn A → (S → Ran U S A) → S → Ran U S A
  turned Again rest s = rest s
  turned (Over a) rest s = Done a s

  -- at most so many turns
  abbrev pub turns : ℕ → (S → Ran U S (Turn A)) → S → Ran U S A
  turns zero turn s = Stopped More s
  turns (suc n) turn s = and_then (turn s) (λ t. turned t (turns n turn))
