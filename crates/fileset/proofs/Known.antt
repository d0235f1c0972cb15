-- What is known of a writer over several writes.
use Rattle.std.proofs.Common.{ℕ, List, ◌++◌, Option, Some, None, refl, append_assoc}
use Rattle.std.specs.Io.KnownBytes.{Appends}

-- known bytes that grow twice
pub Appends-append : (first second third : Option (List ℕ)) (front more : List ℕ) → Appends first second front
    → Appends second third more → Appends first third (front ++ more)
Appends-append None second third front more a b = tt
Appends-append (Some x) None third front more a b = absurd a
Appends-append (Some x) (Some y) None front more a b = absurd b
Appends-append (Some x) (Some y) (Some z) front more a b = rw (b, a, append_assoc) refl
