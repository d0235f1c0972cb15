-- A list of operations from which one that only computes a value is taken out.
use Rattle.std.proofs.Common.{◌≡◌, ℕ, zero, suc, ◌+◌, ◌-◌, ◌≤◌, ◌==◌, Bool, true, false, not, ◌&&◌, ◌||◌, List, [], ◌∷◌, ◌++◌}
use Rattle.std.proofs.Common.{length, take, Some, refl, sym, ap, ◌∙◌, arith, slice_get, if◌then◌else◌, nat_lt}
use Rattle.std.proofs.Common.{sum_by}
use Rattle.std.specs.List.{list_all, list_any}
use Rattle.std.proofs.lemmas.Bool.{and_parts, and_from, or_parts, or_from, true≢false}
use Rattle.std.proofs.lemmas.List.Folds.{list_all-append, list_any-append}
use Rattle.std.proofs.lemmas.List.Elements.{filter-append}
use Rattle.std.proofs.lemmas.List.Sums.{sum_by-append, sum_by-cons}
use Rattle.midcode.specs.declared.op.OpKind.{OpKind}
use Rattle.midcode.specs.declared.op.OpKind.TheVariants as op
use Rattle.midcode.specs.Operation.{is_value, is_last}
use Rattle.midcode.specs.Function.{standing}
use Rattle.midcode.specs.Structure.{skeleton}
use Rattle.midcode.specs.Program.{ends_well}
use Rattle.midcode.specs.Cost.{size}
use Rattle.midcode.specs.Meaning.{standing_at}

-- where a place is when the one at L is taken out
abbrev pub closed : ℕ → ℕ → ℕ
closed L x = if nat_lt L x then x - 1 else x

pub closed-first : (L : ℕ) → closed L 0 ≡ 0
closed-first L = grind arith

pub closed-next : (L x : ℕ) → (x == L) ≡ false → closed L (x + 1) ≡ closed L x + 1
closed-next L x other = grind arith

pub closed-skipped : (L : ℕ) → closed L (L + 1) ≡ closed L L
closed-skipped L = grind arith

pub closed-apart : (L x y : ℕ) → (x == L) ≡ false → (y == L) ≡ false → (closed L y == closed L x) ≡ (y == x)
closed-apart L x y other another = grind arith

closed-suc : (L x : ℕ) → closed (suc L) (suc x) ≡ suc (closed L x)
closed-suc L x = grind arith

closed-one : (L x : ℕ) → closed (suc L) (1 + x) ≡ 1 + closed L x
closed-one L x = grind arith

closed-zero : (x : ℕ) → closed 0 (suc x) ≡ x
closed-zero x = grind arith

closed-none : (x : ℕ) → closed 0 (1 + x) ≡ x
closed-none x = grind arith

-- ---- one operation

pub standing-value : (k : OpKind) (ks : List OpKind) → is_value k ≡ true → standing (k ∷ ks) ≡ standing ks
standing-value (op.Label l) ks h = cc
standing-value _ ks h = refl

pub standing-cons : (k : OpKind) (ks ls : List OpKind) → standing ks ≡ standing ls → standing (k ∷ ks) ≡ standing (k ∷ ls)
standing-cons (op.Label l) ks ls same = ap (λ s. l.0 ∷ s) same
standing-cons _ ks ls same = same

pub at-value : (k : OpKind) (ks : List OpKind) (l : ℕ) → is_value k ≡ true → standing_at (k ∷ ks) l ≡ 1 + standing_at ks l
at-value (op.Label m) ks l h = cc
at-value _ ks l h = refl

-- the place of a label behind an operation, which may be that label
at-cons : (k : OpKind) (L : ℕ) (ks ls : List OpKind) (l : ℕ) → standing_at ks l ≡ closed L (standing_at ls l)
    → standing_at (k ∷ ks) l ≡ closed (suc L) (standing_at (k ∷ ls) l)
at-cons (op.Label m) L ks ls l same = either (m.0 == l)
  where
    either : (b : Bool) → (if b then 0 else 1 + standing_at ks l) ≡ closed (suc L) (if b then 0 else 1 + standing_at ls l)
    either true = sym (closed-first (suc L))
    either false = ap (λ n. 1 + n) same ∙ sym (closed-one L (standing_at ls l))
at-cons _ L ks ls l same = ap (λ n. 1 + n) same ∙ sym (closed-one L (standing_at ls l))

pub not-last : (k : OpKind) → is_value k ≡ true → is_last k ≡ true → false ≡ true
not-last (op.Return v) h last = h
not-last (op.Jump l) h last = h
not-last op.Halt h last = h
not-last _ h last = last

-- ---- the list

module _ (k : OpKind) (value : is_value k ≡ true) (back : List OpKind) where
  pub labels-closed : (front : List OpKind) (l : ℕ)
      → standing_at (front ++ back) l ≡ closed (length front) (standing_at (front ++ k ∷ back) l)
  labels-closed [] l = sym (ap (closed 0) (at-value k back l value) ∙ closed-none (standing_at back l))
  labels-closed (j ∷ front) l = at-cons j (length front) (front ++ back) (front ++ k ∷ back) l (labels-closed front l)

  pub get-closed : (front : List OpKind) (x : ℕ) → (x == length front) ≡ false
      → slice_get (front ++ back) (closed (length front) x) ≡ slice_get (front ++ k ∷ back) x
  get-closed [] zero other = cc
  get-closed [] (suc x) other = ap (slice_get back) (closed-zero x)
  get-closed (j ∷ front) zero other = ap (slice_get (j ∷ (front ++ back))) (closed-first (suc (length front)))
  get-closed (j ∷ front) (suc x) other =
      ap (slice_get (j ∷ (front ++ back))) (closed-suc (length front) x) ∙ get-closed front x (grind (arith, other))

  pub get-taken : (front : List OpKind) → slice_get (front ++ k ∷ back) (length front) ≡ Some k
  get-taken [] = refl
  get-taken (j ∷ front) = get-taken front

  pub take-closed : (front : List OpKind) (x : ℕ) → (x == length front) ≡ false
      → standing (take (closed (length front) x) (front ++ back)) ≡ standing (take x (front ++ k ∷ back))
  take-closed [] zero other = cc
  take-closed [] (suc x) other = ap (λ n. standing (take n back)) (closed-zero x) ∙ sym (standing-value k (take x back) value)
  take-closed (j ∷ front) zero other = ap (λ n. standing (take n (j ∷ (front ++ back)))) (closed-first (suc (length front)))
  take-closed (j ∷ front) (suc x) other =
      ap (λ n. standing (take n (j ∷ (front ++ back)))) (closed-suc (length front) x) ∙
      standing-cons j (take (closed (length front) x) (front ++ back)) (take x (front ++ k ∷ back))
      (take-closed front x (grind (arith, other)))

  pub standing-closed : (front : List OpKind) → standing (front ++ back) ≡ standing (front ++ k ∷ back)
  standing-closed [] = sym (standing-value k back value)
  standing-closed (j ∷ front) = standing-cons j (front ++ back) (front ++ k ∷ back) (standing-closed front)

  pub skeleton-closed : (front : List OpKind) → skeleton (front ++ back) ≡ skeleton (front ++ k ∷ back)
  skeleton-closed front =
      filter-append (λ k. not (is_value k)) front back ∙
      ap (λ b. skeleton front ++ (if b then k ∷ skeleton back else skeleton back)) (sym (ap not value)) ∙
      sym (filter-append (λ k. not (is_value k)) front (k ∷ back))

  pub size-closed : (front : List OpKind) → sum_by size (front ++ back) ≤ sum_by size (front ++ k ∷ back)
  size-closed front =
      omega (arith, sum_by-append size front back, sum_by-append size front (k ∷ back), sum_by-cons size k back)

  pub any-closed : (test : OpKind → Bool) (front : List OpKind) → list_any test (front ++ k ∷ back) ≡ false
      → list_any test (front ++ back) ≡ false
  any-closed test front none =
      let parts = or_parts (list_any test front) (test k || list_any test back) (sym (list_any-append test front (k ∷ back)) ∙ none) in
      list_any-append test front back ∙
      or_from (list_any test front) (list_any test back) parts.0 (or_parts (test k) (list_any test back) parts.1).1

  pub all-closed : (test : OpKind → Bool) (front : List OpKind) → list_all test (front ++ k ∷ back) ≡ true
      → list_all test (front ++ back) ≡ true
  all-closed test front all =
      let parts = and_parts (list_all test front) (test k && list_all test back) (sym (list_all-append test front (k ∷ back)) ∙ all) in
      list_all-append test front back ∙
      and_from (list_all test front) (list_all test back) parts.0 (and_parts (test k) (list_all test back) parts.1).1

  pub ends-closed : (front : List OpKind) → ends_well (front ++ k ∷ back) ≡ true → ends_well (front ++ back) ≡ true
  ends-closed [] ends = here back ends
    where
      here : (back : List OpKind) → ends_well (k ∷ back) ≡ true → ends_well back ≡ true
      here [] last = not-last k value last
      here (b ∷ bs) ends = ends
  ends-closed (j ∷ []) ends = here back ends
    where
      here : (back : List OpKind) → ends_well (k ∷ back) ≡ true → ends_well (j ∷ back) ≡ true
      here [] last = absurd (true≢false (sym (not-last k value last)))
      here (b ∷ bs) ends = ends
  ends-closed (j ∷ i ∷ front) ends = ends-closed (i ∷ front) ends
