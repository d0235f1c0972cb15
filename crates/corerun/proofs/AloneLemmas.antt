-- A run of a core alone, with more budget.
use Rattle.std.proofs.Common.{◌≡◌, ℕ, zero, suc, ◌≤◌, List, false, refl, arith}
use Rattle.isa.specs.Image.{Contents}
use Rattle.behaviour.specs.Ran.{Ran, Done, Stopped, and_then, goes_on}
use Rattle.behaviour.specs.Machine.{exec}
use Rattle.corerun.specs.Solo.{Alone, Went, solo, alone_step, alone_at_start}

after : (r : Went) (f h : Alone → Went) → ((s : Alone) → goes_on (f s) ≡ false → h s ≡ f s)
    → goes_on (and_then r (λ _. f)) ≡ false → and_then r (λ _. h) ≡ and_then r (λ _. f)
after (Done a s) f h same settled = same s settled
after (Stopped c s) f h same settled = refl

steps : (image : Contents) (n m : ℕ) (s : Alone) → n ≤ m → goes_on (exec (alone_step image) n s) ≡ false
    → exec (alone_step image) m s ≡ exec (alone_step image) n s
steps image zero m s le settled = cc
steps image (suc n) zero s le settled = absurd (omega arith)
steps image (suc n) (suc m) s le settled =
    after (alone_step image s) (exec (alone_step image) n) (exec (alone_step image) m)
    (λ t done. steps image n m t (omega arith) done) settled

pub settled : (image : Contents) (values : List ℕ) (n m : ℕ) → n ≤ m → goes_on (solo image values n) ≡ false
    → solo image values m ≡ solo image values n
settled image values n m le done = steps image n m (alone_at_start image values) le done
