-- A machine: a step from each state.
use Rattle.std.specs.Prelude.{◌≡◌, ℕ, zero, suc, ◌≤◌}
use Rattle.behaviour.specs.declared.stop.Stop.TheVariants.{More}
use Rattle.behaviour.specs.Ran.{Ran, Stopped, and_then}

module _ {V M : Type 0} where
  -- n steps
  abbrev pub exec : (M → Ran V M (Unit {0})) → ℕ → M → Ran V M (Unit {0})
  exec step zero m = Stopped More m
  exec step (suc n) m = and_then (step m) (λ _. exec step n)

  -- the machine comes from one state to the other: whatever it does from there in k steps, it does from here in k or more
  pub record Reaches (step : M → Ran V M (Unit {0})) (from to : M) : Type 0 where
    pub within : (k : ℕ) → (j : ℕ) × (k ≤ j) × (exec step j from ≡ exec step k to)
