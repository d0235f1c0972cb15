-- A value that nobody reads is no longer computed: the function may stand for the one before.
use Rattle.std.proofs.Common.{◌≡◌, ℕ, zero, suc, ◌+◌, ◌==◌, Bool, true, false, not, ◌&&◌, List, [], ◌∷◌, ◌++◌}
use Rattle.std.proofs.Common.{length, take, Option, Some, None, refl, sym, subst, ap, ◌∙◌, arith}
use Rattle.std.proofs.Common.{slice_get, slice_set, if◌then◌else◌, sum_by}
use Rattle.std.specs.List.{list_all, list_any}
use Rattle.std.proofs.lemmas.Bool.{and_parts, and_from, or_parts, eqb-true, eqb-false, eq-eqb, not-true}
use Rattle.std.proofs.lemmas.List.{map-append}
use Rattle.midcode.specs.declared.op.Op.{Op}
use Rattle.midcode.specs.declared.op.OpKind.{OpKind}
use Rattle.midcode.specs.declared.register.VReg.{VReg}
use Rattle.midcode.specs.Operation.{is_value, reads, writes}
use Rattle.midcode.specs.Function.{Function, kinds, kinds_of, standing}
use Rattle.midcode.specs.Program.{Program}
use Rattle.midcode.specs.Meaning.{function_at, kinds_of_function, registers_of, standing_at}
use Rattle.midcode.specs.Structure.{skeleton}
use Rattle.midcode.specs.Cost.{size, multiplies, divides}
use Rattle.midcode.specs.Machine.{State}
use Rattle.midopt.specs.Weighed.{Weight, IsOfActs, run}
use Rattle.midopt.specs.Better.{IsBetterRun, IsThinner, Both, IsBetter, IsBetterFunction, placed}
use Rattle.midopt.specs.Tidy.{is_register, are_reading, is_unread, is_idle}
use Rattle.midopt.proofs.Relation.{get-set, both-same}
use Rattle.midopt.proofs.Effects.{Places, ops, IsEdit}
use Rattle.midopt.proofs.Runs.{Serves, Serve, serves-itself, serves-better}
use Rattle.midopt.proofs.Lists.{closed, closed-first, closed-next, closed-skipped, closed-apart}
use Rattle.midopt.proofs.Lists.{labels-closed, get-closed, get-taken, take-closed}
use Rattle.midopt.proofs.Lists.{skeleton-closed, size-closed, any-closed}
use Rattle.midopt.proofs.Whole.{removed-valid, removed-whole}

pub get-other : {A : Type 0} (l : List A) (n g : ℕ) (y : A) → (g ≡ n → ⊥) → slice_get (slice_set l n y) g ≡ slice_get l g
get-other [] n g y other = refl
get-other (z ∷ l) zero zero y other = absurd (other refl)
get-other (z ∷ l) zero (suc g) y other = refl
get-other (z ∷ l) (suc n) zero y other = refl
get-other (z ∷ l) (suc n) (suc g) y other = get-other l n g y (λ same. other (ap suc same))

-- operations that don't read a register
not-read : (rs : List VReg) (r : ℕ) → list_any (is_register r) rs ≡ false → list_all (λ v. not (v.0 == r)) rs ≡ true
not-read [] r none = refl
not-read (v ∷ rs) r none =
    let parts = or_parts (v.0 == r) (list_any (is_register r) rs) none in
    and_from (not (v.0 == r)) (list_all (λ v. not (v.0 == r)) rs) (ap not parts.0) (not-read rs r parts.1)

reads-at : (ks : List OpKind) (r x : ℕ) (k : OpKind) → are_reading ks r ≡ false → slice_get ks x ≡ Some k
    → list_any (is_register r) (reads k) ≡ false
reads-at [] r x k none at = cc
reads-at (j ∷ ks) r zero k none at =
    subst (λ i. list_any (is_register r) (reads i) ≡ false) (some j k at)
    (or_parts (list_any (is_register r) (reads j)) (are_reading ks r) none).0
  where
    get : OpKind → Option OpKind → OpKind
    get d None = d
    get d (Some i) = i

    some : (j k : OpKind) → Some j ≡ Some k → j ≡ k
    some j k same = ap (get j) same
reads-at (j ∷ ks) r (suc x) k none at =
    reads-at ks r x k (or_parts (list_any (is_register r) (reads j)) (are_reading ks r) none).1 at

module _ (q : Program) (n : ℕ) (f : Function) (at : slice_get q.functions n ≡ Some f)
    (front back : List (ℕ × Op)) (node : ℕ) (o : Op) (whole : f.nodes ≡ front ++ (node, o) ∷ back)
    (value : is_value o.kind ≡ true) (to : VReg) (writing : writes o.kind ≡ Some to) (unread : are_reading (kinds f) to.0 ≡ false) where
  abbrev pub without : Function
  without = record f { nodes = front ++ back }

  abbrev pub p : Program
  p = placed q n without

  abbrev before : List OpKind
  before = kinds_of front

  abbrev behind : List OpKind
  behind = kinds_of back

  old-kinds : kinds f ≡ before ++ o.kind ∷ behind
  old-kinds = ap kinds_of whole ∙ map-append (λ m. m.1.kind) front ((node, o) ∷ back)

  new-kinds : kinds without ≡ before ++ behind
  new-kinds = map-append (λ m. m.1.kind) front back

  abbrev place : ℕ
  place = length before

  abbrev pub places : Places
  places = record {
    moved = λ g x. if g == n then closed place x else x;
    gone = λ g x. (g == n) && (x == place);
    unread = λ g r. (g == n) && (r == to.0);
  }

  -- ---- the function at a number, which is this one or another

  here : (g : ℕ) → (g == n) ≡ true → (function_at q g ≡ Some f) × (function_at p g ≡ Some without)
  here g is =
      let same = sym (eqb-true g n is) in (
        subst (λ m. function_at q m ≡ Some f) same at,
        subst (λ m. function_at p m ≡ Some without) same (get-set q.functions n f without at),
      )

  there : (g : ℕ) → (g == n) ≡ false → function_at p g ≡ function_at q g
  there g other = get-other q.functions n g without (eqb-false g n other)

  old-ops : (g : ℕ) → (g == n) ≡ true → ops q g ≡ before ++ o.kind ∷ behind
  old-ops g is = ap kinds_of_function (here g is).0 ∙ old-kinds

  new-ops : (g : ℕ) → (g == n) ≡ true → ops p g ≡ before ++ behind
  new-ops g is = ap kinds_of_function (here g is).1 ∙ new-kinds

  other-ops : (g : ℕ) → (g == n) ≡ false → ops p g ≡ ops q g
  other-ops g other = ap kinds_of_function (there g other)

  -- ---- facts of each function

  widths-by : (g : ℕ) (b : Bool) → (g == n) ≡ b → registers_of (function_at p g) ≡ registers_of (function_at q g)
  widths-by g true is = ap registers_of (here g is).1 ∙ sym (ap registers_of (here g is).0)
  widths-by g false other = ap registers_of (there g other)

  starts-by : (b : Bool) → (if b then closed place 0 else 0) ≡ 0
  starts-by true = closed-first place
  starts-by false = refl

  labels-by : (g l : ℕ) (b : Bool) → (g == n) ≡ b
      → standing_at (ops p g) l ≡ (if b then closed place (standing_at (ops q g) l) else standing_at (ops q g) l)
  labels-by g l true is =
      ap (λ ks. standing_at ks l) (new-ops g is) ∙ labels-closed o.kind value behind before l ∙
      ap (λ ks. closed place (standing_at ks l)) (sym (old-ops g is))
  labels-by g l false other = ap (λ ks. standing_at ks l) (other-ops g other)

  next-by : (x : ℕ) (b : Bool) → (b && (x == place)) ≡ false
      → (if b then closed place (x + 1) else x + 1) ≡ (if b then closed place x else x) + 1
  next-by x true kept = closed-next place x kept
  next-by x false kept = refl

  apart-by : (x y : ℕ) (b : Bool) → (b && (x == place)) ≡ false → (b && (y == place)) ≡ false
      → ((if b then closed place y else y) == (if b then closed place x else x)) ≡ (y == x)
  apart-by x y true kept stays = closed-apart place x y kept stays
  apart-by x y false kept stays = refl

  edit : IsEdit q p places
  edit = record {
    widths = λ g. widths-by g (g == n) refl;
    objects = refl;
    starts = λ g. starts-by (g == n);
    labels = λ g l. labels-by g l (g == n) refl;
    next = λ g x kept. next-by x (g == n) kept;
    apart = λ g x y kept stays. apart-by x y (g == n) kept stays;
  }

  -- ---- operations

  seen-by : (g x : ℕ) (b : Bool) → (g == n) ≡ b → (k : OpKind) → slice_get (ops q g) x ≡ Some k
      → list_all (λ r. not (b && (r.0 == to.0))) (reads k) ≡ true
  seen-by g x true is k stands =
      not-read (reads k) to.0
      (reads-at (kinds f) to.0 x k unread (ap (λ o. slice_get (kinds_of_function o) x) (sym (here g is).0) ∙ stands))
  seen-by g x false other k stands = all (reads k)
    where
      all : (rs : List VReg) → list_all (λ r. not (false && (r.0 == to.0))) rs ≡ true
      all [] = refl
      all (r ∷ rs) = all rs

  same-by : (g x : ℕ) (b : Bool) → (g == n) ≡ b → (b && (x == place)) ≡ false
      → slice_get (ops p g) (if b then closed place x else x) ≡ slice_get (ops q g) x
  same-by g x true is kept =
      ap (λ ks. slice_get ks (closed place x)) (new-ops g is) ∙ get-closed o.kind value behind before x kept ∙
      ap (λ ks. slice_get ks x) (sym (old-ops g is))
  same-by g x false other kept = ap (λ ks. slice_get ks x) (other-ops g other)

  standing-by : (g x : ℕ) (b : Bool) → (g == n) ≡ b → (b && (x == place)) ≡ false
      → standing (take (if b then closed place x else x) (ops p g)) ≡ standing (take x (ops q g))
  standing-by g x true is kept =
      ap (λ ks. standing (take (closed place x) ks)) (new-ops g is) ∙ take-closed o.kind value behind before x kept ∙
      ap (λ ks. standing (take x ks)) (sym (old-ops g is))
  standing-by g x false other kept = ap (λ ks. standing (take x ks)) (other-ops g other)

  skipped-by : (x : ℕ) (b : Bool) → b ≡ true → x ≡ place
      → (if b then closed place (x + 1) else x + 1) ≡ (if b then closed place x else x)
  skipped-by x true is same = ap (λ y. closed place (y + 1)) same ∙ closed-skipped place ∙ ap (closed place) (sym same)
  skipped-by x false is same = cc

  -- ---- operations

  module _ (a : List ℕ) where
    abbrev Inv : State → Type 0
    Inv = λ s. Unit {0}

    served-same : (g x : ℕ) → places.gone g x ≡ false → (j : Option OpKind)
        → ((k : OpKind) → j ≡ Some k → list_all (λ r. not (places.unread g r.0)) (reads k) ≡ true)
        → Serves q p a places Inv g x j j
    served-same g x kept None own = tt
    served-same g x kept (Some k) own = serves-itself q p a places Inv edit g x kept k (own k refl)

    serve : Serve q p a places Inv
    serve = record {
      edit = edit;
      main = refl;
      inv = record { first = λ values. tt; next = λ s t inv is. tt };
      served = λ g x kept.
          subst (λ j. Serves q p a places Inv g x (slice_get (ops q g) x) j) (sym (same-by g x (g == n) refl kept))
          (served-same g x kept (slice_get (ops q g) x) (seen-by g x (g == n) refl));
      idle = λ g x gone.
          let parts = and_parts (g == n) (x == place) gone in
          let same = eqb-true x place parts.1 in (
            o.kind,
            ap (λ ks. slice_get ks x) (old-ops g parts.0) ∙ ap (slice_get (before ++ o.kind ∷ behind)) same ∙
                get-taken o.kind value behind before,
            record {
              value = value;
              to = to;
              writes = writing;
              unread = and_from (g == n) (to.0 == to.0) parts.0 (eq-eqb to.0 to.0 refl);
              skipped = skipped-by x (g == n) parts.0 same;
            },
          );
      standing = λ g x kept. standing-by g x (g == n) refl kept;
    }

    pub removed-runs : (w : Weight) → IsOfActs w → (values : List ℕ) → IsBetterRun (run w q a values) (run w p a values)
    removed-runs w acts values = serves-better q p a places Inv serve w acts values

  -- ---- the function

  thinner : IsThinner f without
  thinner = record {
    signature = refl;
    registers = refl;
    labels = refl;
    acts = ap skeleton new-kinds ∙ skeleton-closed o.kind value behind before ∙ ap skeleton (sym old-kinds);
    size =
        let less = size-closed o.kind value behind before in
        let old = ap (sum_by size) old-kinds in
        let new = ap (sum_by size) new-kinds in
        omega (arith, less, old, new);
    multiplies = λ none.
        ap (list_any multiplies) new-kinds ∙
        any-closed o.kind value behind multiplies before (ap (list_any multiplies) (sym old-kinds) ∙ none);
    divides = λ none.
        ap (list_any divides) new-kinds ∙
        any-closed o.kind value behind divides before (ap (list_any divides) (sym old-kinds) ∙ none);
  }

  functions-by : (g : ℕ) (b : Bool) → (g == n) ≡ b → Both (slice_get q.functions g) (slice_get p.functions g)
  functions-by g true is =
      subst (λ z. Both z (function_at p g)) (sym (here g is).0) (subst (λ z. Both (Some f) z) (sym (here g is).1) thinner)
  functions-by g false other = subst (λ z. Both (function_at q g) z) (sym (there g other)) (both-same (function_at q g))

  pub removed-better : IsBetter q p
  removed-better = record {
    objects = refl;
    regions = refl;
    main = refl;
    functions = λ g. functions-by g (g == n) refl;
    valid = λ valid. removed-valid f front back node o whole value q n at valid;
    whole = λ was. removed-whole f front back node o whole value q n at was;
    runs = λ w a values acts. removed-runs a w acts values;
  }

-- A function without an operation that only computes a value for a register that none reads may stand for it.
pub removed-function : (f : Function) (front back : List (ℕ × Op)) (node : ℕ) (o : Op) → f.nodes ≡ front ++ (node, o) ∷ back
    → is_idle (kinds f) o.kind ≡ true → IsBetterFunction f (record f { nodes = front ++ back })
removed-function f front back node o whole idle = by (writes o.kind) refl parts.1
  where
    parts : (is_value o.kind ≡ true) × (is_unread (kinds f) (writes o.kind) ≡ true)
    parts = and_parts (is_value o.kind) (is_unread (kinds f) (writes o.kind)) idle

    by : (w : Option VReg) → writes o.kind ≡ w → is_unread (kinds f) w ≡ true → IsBetterFunction f (record f { nodes = front ++ back })
    by None is idle = cc
    by (Some to) is idle = record {
      everywhere = λ q n at.
          removed-better q n f at front back node o whole parts.0 to is (not-true (are_reading (kinds f) to.0) idle);
    }

pub ruleset idle_rules = (removed-function)
