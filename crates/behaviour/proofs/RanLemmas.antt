-- One run after another.
use Rattle.std.proofs.Common.{◌≡◌, refl}
use Rattle.behaviour.specs.Ran.{Ran, Done, Stopped, and_then}

module _ {U S : Type 0} where
  pub and_then-assoc : {A B C : Type 0} (r : Ran U S A) (f : A → S → Ran U S B) (g : B → S → Ran U S C)
      → and_then (and_then r f) g ≡ and_then r (λ a s. and_then (f a s) g)
  and_then-assoc (Done a s) f g = refl
  and_then-assoc (Stopped c s) f g = refl

  pub and_then-done : {A : Type 0} (r : Ran U S A) → and_then r Done ≡ r
  and_then-done (Done a s) = refl
  and_then-done (Stopped c s) = refl

  -- what follows may be exchanged where it is the same at each value and state
  pub and_then-same : {A B : Type 0} (r : Ran U S A) (f g : A → S → Ran U S B)
      → ((a : A) (s : S) → f a s ≡ g a s) → and_then r f ≡ and_then r g
  and_then-same (Done a s) f g same = same a s
  and_then-same (Stopped c s) f g same = refl

pub ruleset and_then_rules = (and_then-assoc, and_then-done)
