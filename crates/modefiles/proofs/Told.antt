-- What is told through several calls.
use Rattle.std.proofs.Common.{◌≡◌, ℕ, ◌≤◌, List, [], Option, Some, None, ap, ◌∙◌, arith}
use Rattle.std.specs.Prelude.{unwrap_or}
use Rattle.fileset.specs.Told.{Held, content, Tells, IsSameFiles}
use Rattle.fileset.specs.Faults.{Rose}

-- two calls, one after the other
pub Tells-then : {T : Type 0} (a b c : Option T) (P Q R : T → T → Type 0) → ((x y z : T) → P x y → Q y z → R x z) → Tells a b P
    → Tells b c Q → Tells a c R
Tells-then a b None P Q R f p q = tt
Tells-then a None (Some z) P Q R f p q = absurd q
Tells-then None (Some y) (Some z) P Q R f p q = absurd p
Tells-then (Some x) (Some y) (Some z) P Q R f p q = f x y z p q

pub Tells-weaker : {T : Type 0} (a b : Option T) (P Q : T → T → Type 0) → ((x y : T) → P x y → Q x y) → Tells a b P → Tells a b Q
Tells-weaker a None P Q f p = tt
Tells-weaker None (Some y) P Q f p = absurd p
Tells-weaker (Some x) (Some y) P Q f p = f x y p

pub Tells-both : {T : Type 0} (a b : Option T) (P Q : T → T → Type 0) → Tells a b P → Tells a b Q → Tells a b (λ x y. P x y × Q x y)
Tells-both a None P Q p q = tt
Tells-both None (Some y) P Q p q = absurd p
Tells-both (Some x) (Some y) P Q p q = (p, q)

pub same-then : (x y z : Held) → IsSameFiles x y → IsSameFiles y z → IsSameFiles x z
same-then x y z p q name = q name ∙ p name

pub same_twice : (a b c : Option Held) → Tells a b IsSameFiles → Tells b c IsSameFiles → Tells a c IsSameFiles
same_twice a b c p q = Tells-then a b c IsSameFiles IsSameFiles IsSameFiles same-then p q

-- what is held later was held before
pub content-same : (x y : Held) (name : List ℕ) → IsSameFiles x y → content y name ≡ content x name
content-same x y name same = ap (λ (o : Option (List ℕ)). unwrap_or o []) (same name)

pub rose-since : (f0 f1 f2 : ℕ) → f0 ≤ f1 → Rose f1 f2 → Rose f0 f2
rose-since f0 f1 f2 le rose = omega arith
