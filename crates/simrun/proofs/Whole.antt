-- A run at once.
use Rattle.std.proofs.Common.{◌≡◌, ℕ, ◌+◌, ◌-◌, ap, ◌∙◌, arith}
use Rattle.twocore.specs.Machine.{Machine, cycles}

-- a run of so many cycles
pub whole : (n : ℕ) (before after : Machine) → after ≡ cycles (after.done - before.done) before → after.done ≡ before.done + n
    → after ≡ cycles n before
whole n before after is did =
    is ∙ ap (λ (k : ℕ). cycles k before) (let e : after.done - before.done ≡ n = omega (arith, did) in e)
