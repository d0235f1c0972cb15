-- Lists of operations of which none could be computed before the run, read from the first on; such a list with a value taken out that
-- nobody reads.
use Rattle.std.proofs.Common.{◌≡◌, ℕ, ◌==◌, Bool, true, false, not, ◌&&◌, List, [], ◌∷◌, ◌++◌, Option, Some, None}
use Rattle.std.proofs.Common.{refl, sym, subst, ap, ◌∙◌, arith, append-nil, append_assoc, reverse, if◌then◌else◌}
use Rattle.std.specs.Prelude.{is_some}
use Rattle.std.specs.List.{list_all, list_any}
use Rattle.std.proofs.lemmas.Bool.{and_parts, and_from, or_parts, not-true}
use Rattle.std.proofs.lemmas.List.{reverse-append}
use Rattle.midcode.specs.declared.register.VReg.{VReg}
use Rattle.midcode.specs.declared.op.OpKind.{OpKind}
use Rattle.midcode.specs.declared.op.OpKind.TheVariants as op
use Rattle.midcode.specs.Operation.{is_value, reads, writes}
use Rattle.midopt.specs.Tidy.{is_register, are_reading, is_result, is_unread, is_idle, number_of, known, is_foldable, is_plain_sum, Stands}
use Rattle.midopt.specs.Tidy.{IsFolded}

-- behind the operations before, the last of which comes first
abbrev pub all_folded : List OpKind → List OpKind → Bool
all_folded before [] = true
all_folded before (k ∷ ks) = not (is_plain_sum before k) && all_folded (k ∷ before) ks

pub reverse-cons : (k : OpKind) (ks before : List OpKind) → reverse (k ∷ ks) ++ before ≡ reverse ks ++ k ∷ before
reverse-cons k ks before =
    ap (λ l. l ++ before) (reverse-append (k ∷ []) ks) ∙ append_assoc (reverse ks) (k ∷ []) before

abbrev tail-of : OpKind → List OpKind → List OpKind
tail-of d [] = []
tail-of d (k ∷ ks) = ks

abbrev head-of : OpKind → List OpKind → OpKind
head-of d [] = d
head-of d (k ∷ ks) = k

folded-at : (before ks front : List OpKind) (k : OpKind) (back : List OpKind) → all_folded before ks ≡ true → ks ≡ front ++ k ∷ back
    → is_plain_sum (reverse front ++ before) k ≡ false
folded-at before [] [] k back all is = cc
folded-at before [] (j ∷ front) k back all is = cc
folded-at before (i ∷ ks) [] k back all is =
    subst (λ j. is_plain_sum before j ≡ false) (ap (head-of k) is)
    (not-true (is_plain_sum before i) (and_parts (not (is_plain_sum before i)) (all_folded (i ∷ before) ks) all).0)
folded-at before (i ∷ ks) (j ∷ front) k back all is =
    let same : i ≡ j = ap (head-of k) is in
    let rest : ks ≡ front ++ k ∷ back = ap (tail-of k) is in
    ap (λ b. is_plain_sum b k) (reverse-cons j front before) ∙
    folded-at (j ∷ before) ks front k back
    (subst (λ h. all_folded (h ∷ before) ks ≡ true) same
    (and_parts (not (is_plain_sum before i)) (all_folded (i ∷ before) ks) all).1) rest

folded-each : (before ks : List OpKind)
    → ((front : List OpKind) (k : OpKind) (back : List OpKind) → ks ≡ front ++ k ∷ back → is_plain_sum (reverse front ++ before) k ≡ false)
    → all_folded before ks ≡ true
folded-each before [] each = refl
folded-each before (k ∷ ks) each =
    and_from (not (is_plain_sum before k)) (all_folded (k ∷ before) ks) (ap not (each [] k ks refl))
    (folded-each (k ∷ before) ks
    (λ front j back is. ap (λ b. is_plain_sum b j) (sym (reverse-cons k front before)) ∙ each (k ∷ front) j back (ap (λ l. k ∷ l) is)))

pub folded-is : (ks : List OpKind) → all_folded [] ks ≡ true → IsFolded ks
folded-is ks all k at =
    ap (λ b. is_plain_sum b k) (sym (append-nil (reverse at.front))) ∙ folded-at [] ks at.front k at.back all at.at

pub folded-all : (ks : List OpKind) → IsFolded ks → all_folded [] ks ≡ true
folded-all ks folded =
    folded-each [] ks (λ front k back is. ap (λ b. is_plain_sum b k) (append-nil (reverse front)) ∙
    folded k (record { front = front; back = back; at = is }))

-- one more behind the others
pub folded-more : (before ks : List OpKind) (k : OpKind) → all_folded before ks ≡ true → is_plain_sum (reverse ks ++ before) k ≡ false
    → all_folded before (ks ++ k ∷ []) ≡ true
folded-more before [] k all one = and_from (not (is_plain_sum before k)) true (ap not one) refl
folded-more before (j ∷ ks) k all one =
    let parts = and_parts (not (is_plain_sum before j)) (all_folded (j ∷ before) ks) all in
    and_from (not (is_plain_sum before j)) (all_folded (j ∷ before) (ks ++ k ∷ [])) parts.0
    (folded-more (j ∷ before) ks k parts.1 (ap (λ b. is_plain_sum b k) (sym (reverse-cons j ks before)) ∙ one))

-- ---- a register that nobody reads

known-same : (b c : List OpKind) (k : OpKind) (r : ℕ) → known b r ≡ known c r → known (k ∷ b) r ≡ known (k ∷ c) r
known-same b c (op.Label l) r same = refl
known-same b c k r same = by k
  where
    by : (k : OpKind) → known (k ∷ b) r ≡ known (k ∷ c) r
    by (op.Label l) = refl
    by k = ap (λ z. if is_result r (writes k) then number_of k else z) same

all-known : (b c : List OpKind) (to : ℕ) (rs : List VReg) → ((r : ℕ) → (to == r) ≡ false → known b r ≡ known c r)
    → list_any (is_register to) rs ≡ false
    → list_all (λ r. is_some (known b r.0)) rs ≡ list_all (λ r. is_some (known c r.0)) rs
all-known b c to [] same none = refl
all-known b c to (r ∷ rs) same none =
    let parts = or_parts (r.0 == to) (list_any (is_register to) rs) none in
    ap (λ z. is_some z && list_all (λ r. is_some (known b r.0)) rs) (same r.0 (flip r.0 to parts.0)) ∙
    ap (λ z. is_some (known c r.0) && z) (all-known b c to rs same parts.1)
  where
    flip : (r to : ℕ) → (r == to) ≡ false → (to == r) ≡ false
    flip r to h = grind (arith, h)

same-folded : (b c : List OpKind) (to : ℕ) (ks : List OpKind) → ((r : ℕ) → (to == r) ≡ false → known b r ≡ known c r)
    → are_reading ks to ≡ false → all_folded b ks ≡ all_folded c ks
same-folded b c to [] same none = refl
same-folded b c to (k ∷ ks) same none =
    let parts = or_parts (list_any (is_register to) (reads k)) (are_reading ks to) none in
    ap (λ z. not (is_foldable k && z) && all_folded (k ∷ b) ks) (all-known b c to (reads k) same parts.0) ∙
    ap (λ z. not (is_plain_sum c k) && z)
    (same-folded (k ∷ b) (k ∷ c) to ks (λ r other. known-same b c k r (same r other)) parts.1)

-- behind a value for another register what is known of a register is the same
known-past : (k : OpKind) (b : List OpKind) (to : VReg) (r : ℕ) → is_value k ≡ true → writes k ≡ Some to → (to.0 == r) ≡ false
    → known (k ∷ b) r ≡ known b r
known-past (op.Label l) b to r value is other = cc
known-past k b to r value is other = by k value is
  where
    by : (k : OpKind) → is_value k ≡ true → writes k ≡ Some to → known (k ∷ b) r ≡ known b r
    by (op.Label l) value is = cc
    by k value is = ap (λ w. if is_result r w then number_of k else known b r) is ∙ ap (λ z. if z then number_of k else known b r) other

without-folded : (k : OpKind) (to : VReg) (back : List OpKind) → is_value k ≡ true → writes k ≡ Some to → (before front : List OpKind)
    → are_reading (front ++ k ∷ back) to.0 ≡ false → all_folded before (front ++ k ∷ back) ≡ true
    → all_folded before (front ++ back) ≡ true
without-folded k to back value is before [] none all =
    sym (same-folded (k ∷ before) before to.0 back (λ r other. known-past k before to r value is other)
    (or_parts (list_any (is_register to.0) (reads k)) (are_reading back to.0) none).1) ∙
    (and_parts (not (is_plain_sum before k)) (all_folded (k ∷ before) back) all).1
without-folded k to back value is before (j ∷ front) none all =
    let parts = and_parts (not (is_plain_sum before j)) (all_folded (j ∷ before) (front ++ k ∷ back)) all in
    and_from (not (is_plain_sum before j)) (all_folded (j ∷ before) (front ++ back)) parts.0
    (without-folded k to back value is (j ∷ before) front
    (or_parts (list_any (is_register to.0) (reads j)) (are_reading (front ++ k ∷ back) to.0) none).1 parts.1)

-- a list without a value that nobody reads
pub removed-folded : (front : List OpKind) (k : OpKind) (back : List OpKind) → is_idle (front ++ k ∷ back) k ≡ true
    → IsFolded (front ++ k ∷ back) → IsFolded (front ++ back)
removed-folded front k back idle folded = by (writes k) refl parts.1
  where
    parts : (is_value k ≡ true) × (is_unread (front ++ k ∷ back) (writes k) ≡ true)
    parts = and_parts (is_value k) (is_unread (front ++ k ∷ back) (writes k)) idle

    by : (w : Option VReg) → writes k ≡ w → is_unread (front ++ k ∷ back) w ≡ true → IsFolded (front ++ back)
    by None is un = cc
    by (Some to) is un =
        folded-is (front ++ back)
        (without-folded k to back parts.0 is [] front (not-true (are_reading (front ++ k ∷ back) to.0) un)
        (folded-all (front ++ k ∷ back) folded))
