-- Where labels stand.
use Rattle.std.proofs.Common.{◌≡◌, ℕ, zero, suc, ◌+◌, ◌<◌, ◌==◌, ◌||◌, ◌&&◌, Bool, true, false, not, IsTrue, inl, inr, ◌⊎◌}
use Rattle.std.proofs.Common.{List, [], ◌∷◌, take, refl, sym, subst, ap, ◌∙◌, arith, if◌then◌else◌, Option, Some, None, slice_get}
use Rattle.std.specs.List.{list_any}
use Rattle.std.proofs.lemmas.Bool.{eq-eqb, eqb-true, cases_Bool}
use Rattle.midcode.specs.declared.register.Label.{Label}
use Rattle.midcode.specs.declared.op.OpKind.{OpKind}
use Rattle.midcode.specs.declared.op.OpKind.TheVariants as op
use Rattle.midcode.specs.Function.{standing, are_distinct}
use Rattle.midcode.specs.Meaning.{standing_at}
use Rattle.midcode.specs.Region.{is_before}

-- an operation is a label, or stands for nothing in both lists
shape : (k : OpKind) (ks : List OpKind) (l : ℕ)
    → ((m : Label) × (k ≡ op.Label m)) ⊎ ((standing (k ∷ ks) ≡ standing ks) × (standing_at (k ∷ ks) l ≡ 1 + standing_at ks l))
shape (op.Label m) ks l = inl (m, refl)
shape _ ks l = inr (refl, refl)

or-right : (a b : Bool) → b ≡ true → (a || b) ≡ true
or-right true b is = refl
or-right false b is = is

-- it is among the labels
pub stands-there : (ks : List OpKind) (place : ℕ) (l : Label) → slice_get ks place ≡ Some (op.Label l)
    → list_any (λ m. m == l.0) (standing ks) ≡ true
stands-there [] place l is = absurd cc
stands-there (k ∷ ks) zero l is =
    let first : k ≡ op.Label l = cc in
    subst (λ k. list_any (λ m. m == l.0) (standing (k ∷ ks)) ≡ true) (sym first)
    (ap (λ b. b || list_any (λ m. m == l.0) (standing ks)) (eq-eqb l.0 l.0 refl))
stands-there (k ∷ ks) (suc place) l is = elim (shape k ks l.0) [
  | inl label ↦
      subst (λ k. list_any (λ m. m == l.0) (standing (k ∷ ks)) ≡ true) (sym label.1)
      (or-right (label.0.0 == l.0) (list_any (λ m. m == l.0) (standing ks)) (stands-there ks place l is))
  | inr other ↦
      ap (λ ls. list_any (λ m. m == l.0) ls) other.0 ∙ stands-there ks place l is
]

not-and : (a b : Bool) → IsTrue (not a && b) → a ≡ true → ⊥
not-and true b once is = absurd cc
not-and false b once is = cc

not-any : (n l : ℕ) (ls : List ℕ) → n ≡ l → IsTrue (not (list_any (λ m. m == n) ls) && are_distinct ls)
    → list_any (λ m. m == l) ls ≡ true → ⊥
not-any n l ls same once is = not-and (list_any (λ m. m == n) ls) (are_distinct ls) once (ap (λ n. list_any (λ m. m == n) ls) same ∙ is)

and-right : (a b : Bool) → IsTrue (a && b) → IsTrue b
and-right true b both = both
and-right false b both = absurd cc

if-one : (b : Bool) (n : ℕ) → b ≡ true → (if b then 0 else n) ≡ 0
if-one true n is = refl
if-one false n is = absurd cc

if-two : (b : Bool) (n : ℕ) → (b ≡ true → ⊥) → (if b then 0 else n) ≡ n
if-two true n other = absurd (other refl)
if-two false n other = refl

-- where each label stands once, a label's place is where it stands
pub label-at : (ks : List OpKind) (place : ℕ) (l : Label) → IsTrue (are_distinct (standing ks)) → slice_get ks place ≡ Some (op.Label l)
    → standing_at ks l.0 ≡ place
label-at [] place l once is = absurd cc
label-at (k ∷ ks) zero l once is =
    let first : k ≡ op.Label l = cc in
    ap (λ k. standing_at (k ∷ ks) l.0) first ∙ if-one (l.0 == l.0) (1 + standing_at ks l.0) (eq-eqb l.0 l.0 refl)
label-at (k ∷ ks) (suc place) l once is = elim (shape k ks l.0) [
  | inl label ↦
      let distinct = subst (λ k. IsTrue (are_distinct (standing (k ∷ ks)))) label.1 once in
      ap (λ k. standing_at (k ∷ ks) l.0) label.1
      ∙ (if-two (label.0.0 == l.0) (1 + standing_at ks l.0)
      (λ same. not-any label.0.0 l.0 (standing ks) (eqb-true label.0.0 l.0 same) distinct (stands-there ks place l is))
      ∙ (let e = label-at ks place l (and-right (not (list_any (λ m. m == label.0.0) (standing ks))) (are_distinct (standing ks)) distinct) is
      in omega (arith, e)))
  | inr other ↦
      other.1 ∙ (let e = label-at ks place l (subst (λ ls. IsTrue (are_distinct ls)) other.0 once) is in omega (arith, e))
]

get-taken : (ks : List OpKind) (at place : ℕ) (k : OpKind) → at < place → slice_get ks at ≡ Some k → slice_get (take place ks) at ≡ Some k
get-taken [] at place k before is = absurd cc
get-taken (o ∷ ks) at zero k before is = absurd (omega (arith, before))
get-taken (o ∷ ks) zero (suc place) k before is = is
get-taken (o ∷ ks) (suc at) (suc place) k before is = get-taken ks at place k (omega (arith, before)) is

-- a label that stands before a place
pub before-place : (ks : List OpKind) (at place : ℕ) (l : Label) → at < place → slice_get ks at ≡ Some (op.Label l)
    → is_before (standing (take place ks)) l.0 ≡ true
before-place ks at place l before is = stands-there (take place ks) at l (get-taken ks at place (op.Label l) before is)
