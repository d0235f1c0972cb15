-- The nodes at level 257 stand in the order of their places.
use Rattle.std.specs.Prelude.{◌≡◌, ℕ, ◌+◌, ◌≤◌, Bool, true, false, nat_eq, cond, List, [], ◌∷◌, ◌++◌}
use Rattle.std.specs.Prelude.{length, All, Contains, slice_get, Some, None, refl}
use Rattle.std.proofs.Common.{arith, sym, ap, subst, zero, suc, length-append}
use Rattle.std.proofs.lemmas.List.Elements.{All-contains}
use Rattle.cgrammar.specs.Grammar.{is_node}
use Rattle.cgrammar.specs.Text.{Written, leaf, node, Forest, none, more, spell, spells}
use Rattle.cparse.specs.Nodes.{deep, deep_of, deep_here, below, IsFirstDeep}

-- they never fall, from the one bound to the other
unfoldable pub Between : ℕ → ℕ → List ℕ → Type 0
Between low high [] = low ≤ high
Between low high (place ∷ places) = (low ≤ place) × Between place high places

between-lower : (low other high : ℕ) (places : List ℕ) → low ≤ other → Between other high places → Between low high places
unfolding Between
between-lower low other high [] less between = omega arith
between-lower low other high (place ∷ places) less between = let h = between.0 in (omega arith, between.1)

between-append : (low middle high : ℕ) (front back : List ℕ) → Between low middle front → Between middle high back
    → Between low high (front ++ back)
unfolding Between
between-append low middle high [] back first second = between-lower low middle high back first second
between-append low middle high (place ∷ front) back first second = (first.0, between-append place middle high front back first.1 second)

one-between : (here : Bool) (at : ℕ) → Between at at (cond here (at ∷ []) [])
unfolding Between
one-between true at = (omega arith, omega arith)
one-between false at = omega arith

deep-here-between : (own : Bool) (level at : ℕ) → Between at at (deep_here own level at)
unfolding Between
deep-here-between false level at = omega arith
deep-here-between true level at = one-between (nat_eq level 256) at

mutual
  unfolding Between deep deep_of

  -- the nodes too deep in what begins at a place begin there or behind, and no later than it ends
  pub deep-between : (level at : ℕ) (written : Written) → Between at (at + length (spell written)) (deep level at written)
  deep-between level at (leaf token) = omega arith
  deep-between level at (node production parts) =
      between-append at at (at + length (spells parts)) (deep_here (is_node production) level at)
      (deep_of (below (is_node production) level) at parts)
      (deep-here-between (is_node production) level at) (deep-of-between (below (is_node production) level) at parts)

  pub deep-of-between : (level at : ℕ) (parts : Forest) → Between at (at + length (spells parts)) (deep_of level at parts)
  deep-of-between level at none = omega arith
  deep-of-between level at (more written parts) =
      let behind = at + length (spell written) in
      let ends : behind + length (spells parts) ≡ at + length (spell written ++ spells parts) =
      omega (arith, length-append (spell written) (spells parts)) in
      subst (λ high. Between at high (deep level at written ++ deep_of level behind parts)) ends
      (between-append at behind (behind + length (spells parts)) (deep level at written) (deep_of level behind parts)
      (deep-between level at written) (deep-of-between level behind parts))

-- each is at or behind the lower bound
between-least : (low high : ℕ) (places : List ℕ) → Between low high places → All (λ other. low ≤ other) places
unfolding Between
between-least low high [] between k d less = absurd (omega arith)
between-least low high (place ∷ places) between zero d less = between.0
between-least low high (place ∷ places) between (suc k) d less =
    let first = between.0 in
    let later = between-least place high places between.1 k d (omega arith) in
    omega arith

first-least : (low high place : ℕ) (places : List ℕ) → Between low high (place ∷ places) → All (λ other. place ≤ other) (place ∷ places)
unfolding Between
first-least low high place places between = between-least place high (place ∷ places) (omega arith, between.1)

least-first : (low high : ℕ) (all : List ℕ) (place : ℕ) → Between low high all → Contains all place → All (λ other. place ≤ other) all
    → (others : List ℕ) × (all ≡ place ∷ others)
least-first low high [] place between contains least = let h = contains.1 in absurd (omega arith)
least-first low high (first ∷ others) place between contains least =
    let more : first ≤ place = All-contains (λ other. first ≤ other) (first ∷ others) place
    (first-least low high first others between) contains in
    let less : place ≤ first = least 0 0 (omega arith) in
    let same : first ≡ place = omega arith in
    (others, ap (λ n. n ∷ others) same)

-- the first of them is the least
pub first-is-least : (written : Written) (place : ℕ) (places : List ℕ) → deep 0 0 written ≡ place ∷ places → IsFirstDeep written place
first-is-least written place places e =
    let between = subst (Between 0 (0 + length (spell written))) e (deep-between 0 0 written) in
    record {
      begins = subst (λ all. Contains all place) (sym e) (0, omega arith, refl);
      least = subst (All (λ other. place ≤ other)) (sym e) (first-least 0 (0 + length (spell written)) place places between);
    }

-- the least of them is the first
pub least-is-first : (written : Written) (place : ℕ) → IsFirstDeep written place → (places : List ℕ) × (deep 0 0 written ≡ place ∷ places)
least-is-first written place first =
    least-first 0 (0 + length (spell written)) (deep 0 0 written) place (deep-between 0 0 written) first.begins first.least

-- the same of what `first_deep` gives
first-of : (places : List ℕ) (place : ℕ) → slice_get places 0 ≡ Some place → (others : List ℕ) × (places ≡ place ∷ others)
first-of [] place found = absurd (cc)
first-of (first ∷ others) place found = (others, cc)

none-of : (places : List ℕ) → slice_get places 0 ≡ None → places ≡ []
none-of [] found = refl
none-of (first ∷ others) found = absurd (cc)

pub found-is-least : (written : Written) (place : ℕ) → slice_get (deep 0 0 written) 0 ≡ Some place → IsFirstDeep written place
found-is-least written place found =
    let first = first-of (deep 0 0 written) place found in
    first-is-least written place first.0 first.1

pub least-is-found : (written : Written) (place : ℕ) → IsFirstDeep written place → slice_get (deep 0 0 written) 0 ≡ Some place
least-is-found written place least = ap (λ places. slice_get places 0) (least-is-first written place least).1

pub none-is-deep : (written : Written) → slice_get (deep 0 0 written) 0 ≡ None → deep 0 0 written ≡ []
none-is-deep written found = none-of (deep 0 0 written) found

-- there is one such place at most
pub one-first-deep : (written : Written) (a b : ℕ) → IsFirstDeep written a → IsFirstDeep written b → a ≡ b
one-first-deep written a b first second =
    let less : a ≤ b = All-contains (λ other. a ≤ other) (deep 0 0 written) b first.least second.begins in
    let more : b ≤ a = All-contains (λ other. b ≤ other) (deep 0 0 written) a second.least first.begins in
    omega arith
