-- Steps of a machine, and coming from one state to another.
use Rattle.std.proofs.Common.{◌≡◌, suc, refl, ◌∙◌, ap, arith}
use Rattle.behaviour.specs.Ran.{Ran, Done, and_then}
use Rattle.behaviour.specs.Machine.{exec, Reaches}

module _ {V M : Type 0} (step : M → Ran V M (Unit {0})) where
  pub reaches-refl : (m : M) → Reaches step m m
  reaches-refl m = record { within = λ k. (k, omega arith, refl) }

  pub reaches-trans : (a b c : M) → Reaches step a b → Reaches step b c → Reaches step a c
  reaches-trans a b c ab bc = record {
    within = λ k.
        let second = bc.within k in
        let first = ab.within second.0 in
        (first.0, omega (arith, second.1, first.1), first.2 ∙ second.2);
  }

  -- one step
  pub reaches-step : (m n : M) → step m ≡ Done tt n → Reaches step m n
  reaches-step m n at = record { within = λ k. (suc k, omega arith, ap (λ r. and_then r (λ _. exec step k)) at) }

pub ruleset reaches_rules = (reaches-refl, reaches-trans, reaches-step)
