-- Lists of steps of which one is longer.
use Rattle.std.proofs.Common.{◌≡◌, ℕ, ◌<◌, ◌≤◌, ◌==◌, false, List, [], ◌∷◌, length, refl, arith}
use Rattle.std.proofs.lemmas.Bool.{ne_eqb}
use Rattle.ctypes.specs.Convert.{steps_same}
use Rattle.ctypes.specs.declared.step.Step.{Step}

pub no_pair : (ss ts : List Step) → 0 < length ss → length ts ≡ 0 → false ≡ steps_same ss ts
no_pair [] ts p q = absurd (omega (arith, p))
no_pair (s ∷ ss) [] p q = refl
no_pair (s ∷ ss) (t ∷ ts) p q = absurd (omega (arith, q))

pub none_left : (ss ts : List Step) → length ss ≡ 0 → (length ts == 0) ≡ steps_same ss ts
none_left [] [] p = refl
none_left [] (t ∷ ts) p = ne_eqb (length (t ∷ ts)) 0 (λ e. omega (arith, e))
none_left (s ∷ ss) ts p = absurd (omega (arith, p))

pub ruleset pairs = (no_pair, none_left)
