-- The table of numbers.
use Rattle.std.proofs.Common.{◌≡◌, ℕ, zero, suc, ◌+◌, ◌==◌, Bool, true, false, List, [], ◌∷◌, Option, None}
use Rattle.std.proofs.Common.{refl, ap, ◌∙◌, arith, map, replicate, slice_set, nat_le, if◌then◌else◌}
use Rattle.std.specs.List.{list_all}
use Rattle.std.proofs.lemmas.Bool.{and_parts, and_from, eq-eqb}
use Rattle.midfold.specs.declared.numbers.Noted.{Noted}
use Rattle.midfold.specs.Numbers.{held_in}

abbrev none : Noted
none = record { round = 0; number = None }

-- noted in this round or before
abbrev pub are_noted : ℕ → List Noted → Bool
are_noted round l = list_all (λ m. nat_le m.round round) l

pub all-new : (n : ℕ) → are_noted 0 (replicate n none) ≡ true
all-new zero = refl
all-new (suc n) = all-new n

pub held-new : (n : ℕ) → map (held_in 0) (replicate n none) ≡ replicate n None
held-new zero = refl
held-new (suc n) = ap (λ l. None ∷ l) (held-new n)

own-round : (round : ℕ) → nat_le round round ≡ true
own-round round = grind arith

pub all-set : (round : ℕ) (l : List Noted) (i : ℕ) (n : Option ℕ) → are_noted round l ≡ true
    → are_noted round (slice_set l i (record { round = round; number = n })) ≡ true
all-set round [] i n all = refl
all-set round (m ∷ l) zero n all =
    and_from (nat_le round round) (are_noted round l) (own-round round) (and_parts (nat_le m.round round) (are_noted round l) all).1
all-set round (m ∷ l) (suc i) n all =
    let parts = and_parts (nat_le m.round round) (are_noted round l) all in
    and_from (nat_le m.round round) (are_noted round (slice_set l i (record { round = round; number = n }))) parts.0
    (all-set round l i n parts.1)

pub held-set : (round : ℕ) (l : List Noted) (i : ℕ) (n : Option ℕ)
    → map (held_in round) (slice_set l i (record { round = round; number = n })) ≡ slice_set (map (held_in round) l) i n
held-set round [] i n = refl
held-set round (m ∷ l) zero n =
    ap (λ b. (if b then n else None) ∷ map (held_in round) l) (eq-eqb round round refl)
held-set round (m ∷ l) (suc i) n = ap (λ h. held_in round m ∷ h) (held-set round l i n)

-- what was noted in an earlier round counts no more
pub all-later : (round : ℕ) (l : List Noted) → are_noted round l ≡ true → are_noted (round + 1) l ≡ true
all-later round [] all = refl
all-later round (m ∷ l) all =
    let parts = and_parts (nat_le m.round round) (are_noted round l) all in
    and_from (nat_le m.round (round + 1)) (are_noted (round + 1) l) (later m.round parts.0) (all-later round l parts.1)
  where
    later : (n : ℕ) → nat_le n round ≡ true → nat_le n (round + 1) ≡ true
    later n h = grind (arith, h)

pub held-later : (round : ℕ) (l : List Noted) → are_noted round l ≡ true
    → map (held_in (round + 1)) l ≡ map (λ _. None) (map (held_in round) l)
held-later round [] all = refl
held-later round (m ∷ l) all =
    let parts = and_parts (nat_le m.round round) (are_noted round l) all in
    ap (λ b. (if b then m.number else None) ∷ map (held_in (round + 1)) l) (earlier m.round parts.0) ∙
    ap (λ h. None ∷ h) (held-later round l parts.1)
  where
    earlier : (n : ℕ) → nat_le n round ≡ true → (n == (round + 1)) ≡ false
    earlier n h = grind (arith, h)
