-- Two runs that are alike: one of them is wild, or both come to the same.
use Rattle.std.proofs.Common.{◌≡◌, ◌≤◌, ◌⊎◌, inl, inr, Bool, true, false, refl, sym, subst}
use Rattle.behaviour.specs.Ran.{Ran, Done, Stopped, and_then}
use Rattle.midcode.specs.Machine.{Wild, State, sure}
use Rattle.midopt.specs.Better.{is_wild}

-- what is shown of a state
pub record Shown (s t : State) : Type 0 where
  pub events : t.events ≡ s.events
  pub values : t.values ≡ s.values
  pub charge : t.charge ≤ s.charge

abbrev pub Same : {A : Type 0} → (State → State → Type 0) → Ran Wild State A → Ran Wild State A → Type 0
Same R (Done a s) (Done b t) = (a ≡ b) × R s t
Same R (Stopped c s) (Stopped d t) = (d ≡ c) × Shown s t
Same R x y = ⊥

abbrev pub Alike : {A : Type 0} → (State → State → Type 0) → Ran Wild State A → Ran Wild State A → Type 0
Alike R x y = (is_wild x ≡ true) ⊎ Same R x y

module _ {A B : Type 0} (R R' : State → State → Type 0) where
  -- one after another
  pub then-alike : (x y : Ran Wild State A) (f g : A → State → Ran Wild State B) → Alike R x y
      → ((a : A) (s t : State) → R s t → Alike R' (f a s) (g a t)) → Alike R' (and_then x f) (and_then y g)
  then-alike (Done a s) y f g (inl w) on = cc
  then-alike (Stopped c s) y f g (inl w) on = inl w
  then-alike (Done a s) (Done b t) f g (inr same) on = subst (λ b. Alike R' (f a s) (g b t)) same.0 (on a s t same.1)
  then-alike (Stopped c s) (Stopped d t) f g (inr same) on = inr same
  then-alike (Done a s) (Stopped d t) f g (inr same) on = absurd same
  then-alike (Stopped c s) (Done b t) f g (inr same) on = absurd same

-- a test that is the same of both
pub sure-alike : (R : State → State → Type 0) (w : Wild) (b b' : Bool) (s t : State) → b' ≡ b → R s t → Alike R (sure w b s) (sure w b' t)
sure-alike R w b b' s t is at = subst (λ c. Alike R (sure w b s) (sure w c t)) (sym is) (here b)
  where
    here : (b : Bool) → Alike R (sure w b s) (sure w b t)
    here true = inr (refl, at)
    here false = inl refl
