-- Every program may stand for itself, and what may stand for one that may stand for a third may stand for that.
use Rattle.std.proofs.Common.{◌≡◌, ℕ, zero, suc, ◌≤◌, ◌⊎◌, inl, inr, true, List, [], ◌∷◌, Option, Some, None}
use Rattle.std.proofs.Common.{refl, sym, subst, ap, ◌∙◌, arith, le_refl, slice_get, slice_set, sum_by}
use Rattle.behaviour.specs.Ran.{Ran, Done, Stopped}
use Rattle.midcode.specs.Machine.{Wild}
use Rattle.midcode.specs.Function.{Function, kinds}
use Rattle.midcode.specs.Cost.{size}
use Rattle.midcode.specs.Program.{Program}
use Rattle.midopt.specs.Weighed.{Weighed}
use Rattle.midopt.specs.Better.{IsShown, StandsAs, is_undefined, is_wild, IsBetterRun}
use Rattle.midopt.specs.Better.{IsThinner, Both, IsBetter, placed, IsBetterFunction, AreBetter}

-- ---- runs

abbrev Run : Type 0
Run = Ran Wild Weighed (Unit {0})

shown-same : (s : Weighed) → IsShown s s
shown-same s = record { events = refl; values = refl; weight = refl; charge = le_refl s.state.charge }

shown-more : (s t u : Weighed) → IsShown s t → IsShown t u → IsShown s u
shown-more s t u st tu = record {
  events = tu.events ∙ st.events;
  values = tu.values ∙ st.values;
  weight = tu.weight ∙ st.weight;
  charge = omega (arith, tu.charge, st.charge);
}

stands-same : (r : Run) → StandsAs r r
stands-same (Done u s) = shown-same s
stands-same (Stopped c s) = (refl, shown-same s)

stands-more : (x y z : Run) → StandsAs x y → StandsAs y z → StandsAs x z
stands-more (Done u s) (Done v t) (Done w q) xy yz = shown-more s t q xy yz
stands-more (Stopped c s) (Stopped d t) (Stopped e q) xy yz = (yz.0 ∙ xy.0, shown-more s t q xy.1 yz.1)
stands-more (Done u s) (Stopped d t) z xy yz = absurd xy
stands-more (Stopped c s) (Done v t) z xy yz = absurd xy
stands-more (Done u s) (Done v t) (Stopped e q) xy yz = absurd yz
stands-more (Stopped c s) (Stopped d t) (Done w q) xy yz = absurd yz

-- what stands as a run that is wild is wild
wild-back : (x y : Run) → StandsAs x y → is_wild y ≡ true → is_wild x ≡ true
wild-back (Done u s) (Done v t) xy w = w
wild-back (Stopped c s) (Stopped d t) xy w = subst (λ c. is_undefined c ≡ true) xy.0 w
wild-back (Done u s) (Stopped d t) xy w = absurd xy
wild-back (Stopped c s) (Done v t) xy w = absurd xy

run-same : (r : ℕ → Run) → IsBetterRun r r
run-same r = record {
  forth = λ n. inr (n, le_refl n, stands-same (r n));
  back = λ m. (m, le_refl m, inr (stands-same (r m)));
}

module _ (x y z : ℕ → Run) (xy : IsBetterRun x y) (yz : IsBetterRun y z) where
  forth-at : (n : ℕ) → (is_wild (x n) ≡ true) ⊎ ((m : ℕ) × (m ≤ n) × StandsAs (x n) (y m))
      → (is_wild (x n) ≡ true) ⊎ ((m : ℕ) × (m ≤ n) × StandsAs (x n) (z m))
  forth-at n (inl w) = inl w
  forth-at n (inr (m, few, same)) = rest (yz.forth m)
    where
      rest : (is_wild (y m) ≡ true) ⊎ ((l : ℕ) × (l ≤ m) × StandsAs (y m) (z l))
          → (is_wild (x n) ≡ true) ⊎ ((l : ℕ) × (l ≤ n) × StandsAs (x n) (z l))
      rest (inl w) = inl (wild-back (x n) (y m) same w)
      rest (inr (l, less, more)) = inr (l, omega (arith, less, few), stands-more (x n) (y m) (z l) same more)

  back-at : (m : ℕ) → (n : ℕ) × (m ≤ n) × ((is_wild (y n) ≡ true) ⊎ StandsAs (y n) (z m))
      → (n : ℕ) × (m ≤ n) × ((is_wild (x n) ≡ true) ⊎ StandsAs (x n) (z m))
  back-at m (n, more, at) = ((xy.back n).0, omega (arith, more, (xy.back n).1), rest (xy.back n).2 at)
    where
      k : ℕ
      k = (xy.back n).0

      rest : (is_wild (x k) ≡ true) ⊎ StandsAs (x k) (y n) → (is_wild (y n) ≡ true) ⊎ StandsAs (y n) (z m)
          → (is_wild (x k) ≡ true) ⊎ StandsAs (x k) (z m)
      rest (inl w) at = inl w
      rest (inr same) (inl w) = inl (wild-back (x k) (y n) same w)
      rest (inr same) (inr more) = inr (stands-more (x k) (y n) (z m) same more)

  run-more : IsBetterRun x z
  run-more = record { forth = λ n. forth-at n (xy.forth n); back = λ m. back-at m (yz.back m) }

-- ---- functions

thinner-same : (f : Function) → IsThinner f f
thinner-same f = record {
  signature = refl;
  registers = refl;
  labels = refl;
  acts = refl;
  size = le_refl (sum_by size (kinds f));
  multiplies = λ h. h;
  divides = λ h. h;
}

thinner-more : (f g h : Function) → IsThinner f g → IsThinner g h → IsThinner f h
thinner-more f g h fg gh = record {
  signature = gh.signature ∙ fg.signature;
  registers = gh.registers ∙ fg.registers;
  labels = gh.labels ∙ fg.labels;
  acts = gh.acts ∙ fg.acts;
  size = omega (arith, gh.size, fg.size);
  multiplies = λ none. gh.multiplies (fg.multiplies none);
  divides = λ none. gh.divides (fg.divides none);
}

pub both-same : (o : Option Function) → Both o o
both-same None = tt
both-same (Some f) = thinner-same f

both-more : (a b c : Option Function) → Both a b → Both b c → Both a c
both-more None None None ab bc = tt
both-more (Some f) (Some g) (Some h) ab bc = thinner-more f g h ab bc
both-more None (Some g) c ab bc = absurd ab
both-more (Some f) None c ab bc = absurd ab
both-more None None (Some h) ab bc = absurd bc
both-more (Some f) (Some g) None ab bc = absurd bc

-- ---- programs

pub better-same : (p : Program) → IsBetter p p
better-same p = record {
  objects = refl;
  regions = refl;
  main = refl;
  functions = λ f. both-same (slice_get p.functions f);
  valid = λ h. h;
  whole = λ h. h;
  runs = λ w a values acts. run-same _;
}

pub better-more : (p q r : Program) → IsBetter p q → IsBetter q r → IsBetter p r
better-more p q r pq qr = record {
  objects = qr.objects ∙ pq.objects;
  regions = qr.regions ∙ pq.regions;
  main = qr.main ∙ pq.main;
  functions = λ f. both-more (slice_get p.functions f) (slice_get q.functions f) (slice_get r.functions f)
      (pq.functions f) (qr.functions f);
  valid = λ h. qr.valid (pq.valid h);
  whole = λ h. qr.whole (pq.whole h);
  runs = λ w a values acts. run-more _ _ _ (pq.runs w a values acts) (qr.runs w a values acts);
}

-- ---- a function in a program

module _ {A : Type 0} where
  set-own : (l : List A) (i : ℕ) (x : A) → slice_get l i ≡ Some x → slice_set l i x ≡ l
  set-own [] i x at = refl
  set-own (y ∷ l) zero x at = cc
  set-own (y ∷ l) (suc i) x at = ap (λ m. y ∷ m) (set-own l i x at)

  set-again : (l : List A) (i : ℕ) (x y : A) → slice_set (slice_set l i x) i y ≡ slice_set l i y
  set-again [] i x y = refl
  set-again (z ∷ l) zero x y = refl
  set-again (z ∷ l) (suc i) x y = ap (λ m. z ∷ m) (set-again l i x y)

  pub get-set : (l : List A) (i : ℕ) (x y : A) → slice_get l i ≡ Some x → slice_get (slice_set l i y) i ≡ Some y
  get-set [] i x y at = cc
  get-set (z ∷ l) zero x y at = refl
  get-set (z ∷ l) (suc i) x y at = get-set l i x y at

pub function-same : (f : Function) → IsBetterFunction f f
function-same f = record {
  everywhere = λ p i at.
      subst (λ fs. IsBetter p (record p { functions = fs })) (sym (set-own p.functions i f at)) (better-same p);
}

pub function-more : (f g h : Function) → IsBetterFunction f g → IsBetterFunction g h → IsBetterFunction f h
function-more f g h fg gh = record {
  everywhere = λ p i at.
      let first = fg.everywhere p i at in
      let rest = gh.everywhere (placed p i g) i (get-set p.functions i f g at) in
      better-more p (placed p i g) (placed p i h) first
      (subst (λ fs. IsBetter (placed p i g) (record p { functions = fs })) (set-again p.functions i g h) rest);
}

-- ---- all functions

pub all-same : (fs : List Function) → AreBetter fs fs
all-same fs = record {
  everywhere = λ p is. subst (λ gs. IsBetter p (record p { functions = gs })) is (better-same p);
}

pub all-more : (fs gs : List Function) (i : ℕ) (f g : Function) → AreBetter fs gs → slice_get gs i ≡ Some f → IsBetterFunction f g
    → AreBetter fs (slice_set gs i g)
all-more fs gs i f g first at rest = record {
  everywhere = λ p is.
      better-more p (record p { functions = gs }) (record p { functions = slice_set gs i g }) (first.everywhere p is)
      (rest.everywhere (record p { functions = gs }) i at);
}

pub ruleset relation_rules = (better-same, better-more, function-same, function-more)
