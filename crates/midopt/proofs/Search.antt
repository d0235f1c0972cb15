-- The search for a bit, a step at a time.
use Rattle.std.proofs.Common.{◌≡◌, ℕ, zero, suc, ◌-◌, ◌<◌, ◌==◌, ◌/◌, ◌%◌, ◌^◌, if◌then◌else◌, refl, arith}
use Rattle.midopt.specs.Search.{below}

pub none-left : (a bit : ℕ) → below 0 a bit ≡ 32
unfolding below
none-left a bit = refl

pub more-left : (a bit n : ℕ) → 0 < n
    → below n a bit ≡ (if a / 2 ^ (n - 1) % 2 == bit then n - 1 else below (n - 1) a bit)
unfolding below
more-left a bit zero h = absurd (omega arith)
more-left a bit (suc n) h = rw (let e : suc n - 1 ≡ n = omega arith in e) refl
