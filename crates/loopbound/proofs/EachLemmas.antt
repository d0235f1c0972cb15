-- Facts of each element of a list.
use Rattle.std.proofs.Common.{◌≡◌, ℕ, zero, suc, ◌<◌, inl, inr, List, [], ◌∷◌, length, refl, sym, subst, arith, Contains}
use Rattle.std.specs.List.{AllByRecursion}
use Rattle.std.specs.Prelude.{slice_index_or}
use Rattle.std.proofs.lemmas.List.Elements.{All-from_recursion, All-contains}
use Rattle.std.proofs.lemmas.Bool.{eqb-true, eqb-false}
use Rattle.std.specs.Prelude.{◌==◌, ◌⊎◌, Bool, true, false}
use Rattle.loopbound.specs.declared.graph.Loop.{Loop}
use Rattle.loopbound.specs.declared.graph.Move.{Move}
use Rattle.loopbound.specs.declared.graph.Move.TheVariants.{Stay, Turn, Leave}
use Rattle.loopbound.specs.declared.graph.TimedLoop.{TimedLoop}
use Rattle.loopbound.specs.Loops.{move}
use Rattle.loopbound.specs.Table.{AnyOf, shapes, NoTurn, AtMostOne, LiesIn, Apart, InnerFirst}

module _ {X : Type 0} (P Q R : X → Type 0) where
  -- one fact from two
  pub each-both : ((x : X) → P x → Q x → R x) → (xs : List X) → AllByRecursion P xs → AllByRecursion Q xs → AllByRecursion R xs
  each-both f [] ps qs = tt
  each-both f (x ∷ xs) ps qs = (f x ps.0 qs.0, each-both f xs ps.1 qs.1)

module _ {X : Type 0} (P Q : X → Type 0) where
  pub each-map : ((x : X) → P x → Q x) → (xs : List X) → AllByRecursion P xs → AllByRecursion Q xs
  each-map f [] ps = tt
  each-map f (x ∷ xs) ps = (f x ps.0, each-map f xs ps.1)

-- ---- by index

pub contains_first : {X : Type 0} (x : X) (xs : List X) → Contains (x ∷ xs) x
contains_first x xs = (zero, omega arith, refl)

pub contains_later : {X : Type 0} (y x : X) (xs : List X) → Contains xs x → Contains (y ∷ xs) x
contains_later y x xs c = (suc c.0, let less = c.1 in omega (arith, less), c.2)

module _ {X : Type 0} (P : X → Type 0) where
  pub each-contained : (xs : List X) → AllByRecursion P xs → (x : X) → Contains xs x → P x
  each-contained xs all x has = All-contains P xs x (All-from_recursion P xs all) has

  pub contained-each : (xs : List X) → ((x : X) → Contains xs x → P x) → AllByRecursion P xs
  contained-each [] all = tt
  contained-each (x ∷ xs) all = (all x (contains_first x xs), contained-each xs (λ y has. all y (contains_later x y xs has)))

  pub any-contained : (xs : List X) → AnyOf P xs → (x : X) × Contains xs x × P x
  any-contained [] none = absurd none
  any-contained (x ∷ xs) (inl here) = (x, contains_first x xs, here)
  any-contained (x ∷ xs) (inr rest) =
      let r = any-contained xs rest in (r.0, contains_later x r.0 xs r.1, r.2)

  at_index : (xs : List X) (x : X) (k : ℕ) → k < length xs → slice_index_or xs k x ≡ x → P x → AnyOf P xs
  at_index [] x k less is p = absurd (omega (arith, less))
  at_index (y ∷ xs) x zero less is p = inl (subst P (sym is) p)
  at_index (y ∷ xs) x (suc k) less is p = inr (at_index xs x k (omega (arith, less)) is p)

  pub contained-any : (xs : List X) (x : X) → Contains xs x → P x → AnyOf P xs
  contained-any xs x has p = at_index xs x has.0 has.1 has.2 p

-- ---- loops and their shapes

module _ (P : Loop → Type 0) where
  pub shape-each : (loops : List TimedLoop) → AllByRecursion P (shapes loops) → AllByRecursion (λ l. P l.shape) loops
  shape-each [] all = tt
  shape-each (l ∷ loops) all = (all.0, shape-each loops all.1)

  pub each-shape : (loops : List TimedLoop) → AllByRecursion (λ l. P l.shape) loops → AllByRecursion P (shapes loops)
  each-shape [] all = tt
  each-shape (l ∷ loops) all = (all.0, each-shape loops all.1)

-- ---- decided

pub same_or : (a b : ℕ) → (a ≡ b) ⊎ (a ≡ b → ⊥)
same_or a b = by (a == b) refl
  where
    by : (t : Bool) → (a == b) ≡ t → (a ≡ b) ⊎ (a ≡ b → ⊥)
    by true is = inl (eqb-true a b is)
    by false is = inr (λ e. eqb-false a b is e)

pub turns_or : (m : Move) → (m ≡ Turn) ⊎ (m ≡ Turn → ⊥)
turns_or Stay = inr (λ is. let e : ◌≡◌ {A = Move} Stay Turn = is in cc)
turns_or Turn = inl refl
turns_or Leave = inr (λ is. let e : ◌≡◌ {A = Move} Leave Turn = is in cc)

-- ---- the loop that a step turns

abbrev pub Same : ℕ → ℕ → Loop → Loop → Type 0
Same w v l other = move other w v ≡ Turn → l ≡ other

module _ (w v : ℕ) where
  only_one : (loops : List Loop) → AtMostOne w v loops → AllByRecursion (λ l. move l w v ≡ Turn → AllByRecursion (Same w v l) loops) loops
  only_one [] one = tt
  only_one (l ∷ loops) one = by (turns_or (move l w v)) (only_one loops one.1)
    where
      here : move l w v ≡ Turn → AllByRecursion (Same w v l) (l ∷ loops)
      here it = (λ _. refl, each-map (NoTurn w v) (Same w v l) (λ o not turns. absurd (not turns)) loops (one.0 it))

      by : (move l w v ≡ Turn) ⊎ (move l w v ≡ Turn → ⊥)
          → AllByRecursion (λ m. move m w v ≡ Turn → AllByRecursion (Same w v m) loops) loops
          → AllByRecursion (λ m. move m w v ≡ Turn → AllByRecursion (Same w v m) (l ∷ loops)) (l ∷ loops)
      by (inl it) inner = (
        here,
        each-map (NoTurn w v) (λ m. move m w v ≡ Turn → AllByRecursion (Same w v m) (l ∷ loops)) (λ m not turns. absurd (not turns)) loops
            (one.0 it),
      )
      by (inr not) inner = (
        here,
        each-map (λ m. move m w v ≡ Turn → AllByRecursion (Same w v m) loops)
            (λ m. move m w v ≡ Turn → AllByRecursion (Same w v m) (l ∷ loops))
            (λ m rest turns. (λ it. absurd (not it), rest turns))
            loops inner,
      )

  pub only : (loops : List Loop) → AtMostOne w v loops → (l m : Loop) → Contains loops l → Contains loops m
      → move l w v ≡ Turn → move m w v ≡ Turn → l ≡ m
  only loops one l m has_l has_m turns_l turns_m =
      each-contained (Same w v l) loops
      (each-contained (λ l. move l w v ≡ Turn → AllByRecursion (Same w v l) loops) loops (only_one loops one) l has_l turns_l)
      m has_m turns_m

-- ---- two loops

-- one lies in the other, or they have no word together
abbrev pub Nests : Loop → Loop → Type 0
Nests a b = LiesIn a b ⊎ (LiesIn b a ⊎ ((a.last < b.first) ⊎ (b.last < a.first)))

nests : (a b : Loop) → Apart a b → Nests a b
nests a b (inl lies) = inl lies
nests a b (inr apart) = inr (inr apart)

nests_back : (a b : Loop) → Apart a b → Nests b a
nests_back a b (inl lies) = inr (inl lies)
nests_back a b (inr (inl before)) = inr (inr (inr before))
nests_back a b (inr (inr before)) = inr (inr (inl before))

all_pairs : (loops : List Loop) → InnerFirst loops → AllByRecursion (λ a. AllByRecursion (Nests a) loops) loops
all_pairs [] nest = tt
all_pairs (l ∷ loops) nest = (
  (inl (omega arith, omega arith), each-map (Apart l) (Nests l) (nests l) loops nest.0),
  each-both (Apart l) (λ a. AllByRecursion (Nests a) loops) (λ a. AllByRecursion (Nests a) (l ∷ loops))
      (λ a apart rest. (nests_back l a apart, rest)) loops nest.0 (all_pairs loops nest.1),
)

pub pairs : (loops : List Loop) → InnerFirst loops → (a b : Loop) → Contains loops a → Contains loops b → Nests a b
pairs loops nest a b has_a has_b =
    each-contained (Nests a) loops (each-contained (λ a. AllByRecursion (Nests a) loops) loops (all_pairs loops nest) a has_a) b has_b
