-- The search for a bit, a step at a time.
use Rattle.std.proofs.Common.{◌≡◌, ℕ, zero, suc, ◌-◌, ◌<◌, ◌==◌, if◌then◌else◌, refl, arith}
use Rattle.std.specs.Int.{bit_at}
use Rattle.corestep.specs.Compute.{leftmost_below}

pub below_none : (a bit : ℕ) → leftmost_below a bit 0 ≡ 32
unfolding leftmost_below
below_none a bit = refl

pub below_more : (a bit n : ℕ) → 0 < n → leftmost_below a bit n ≡ (if bit_at a (n - 1) == bit then n - 1 else leftmost_below a bit (n - 1))
unfolding leftmost_below
below_more a bit zero h = absurd (omega arith)
below_more a bit (suc n) h = rw (let e : suc n - 1 ≡ n = omega arith in e) refl
