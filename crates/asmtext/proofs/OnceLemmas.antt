-- Lists that have each thing once, by first appearance.
use Rattle.std.proofs.Common.{◌≡◌, ℕ, ◌+◌, ◌<◌, List, [], ◌∷◌, ◌++◌, Bool, true, false, cond, not, ◌||◌, Option, Some, None, refl, ap}
use Rattle.std.proofs.Common.{sym, ◌∙◌, subst, arith, length, get_or, append_assoc}
use Rattle.std.specs.Prelude.{fold, position, nat_lt, if◌then◌else◌}
use Rattle.std.specs.List.{list_any, prefix_len, position_or_len, AllByRecursion}
use Rattle.std.proofs.lemmas.Bool.Decides.{nat_tests}
use Rattle.std.proofs.lemmas.List.Quantifiers.{position-Some}

-- ---- tests

pub or_right : (t u : Bool) → u ≡ true → (t || u) ≡ true
or_right true u h = refl
or_right false u h = h

pub or_left : (t u : Bool) → t ≡ true → (t || u) ≡ true
or_left true u h = refl
or_left false u h = let e : true ≡ false = sym h in cc

or_step : (t u v : Bool) → (u ≡ true → v ≡ true) → (t || u) ≡ true → (t || v) ≡ true
or_step true u v f h = refl
or_step false u v f h = f h

-- ---- places

any_within : {X : Type 0} (p : X → Bool) (xs : List X) → list_any p xs ≡ true → position_or_len p xs < length xs
any_within p [] h = let e : false ≡ true = h in absurd (cc)
any_within p (x ∷ xs) h = by (p x) (any_within p xs) h
  where
    by : (t : Bool) → (list_any p xs ≡ true → position_or_len p xs < length xs) → (t || list_any p xs) ≡ true
        → cond (not t) (1 + position_or_len p xs) 0 < length (x ∷ xs)
    by true f h = omega arith
    by false f h = let e = f h in omega arith

pub placed_at : {X : Type 0} (p : X → Bool) (xs : List X) → list_any p xs ≡ true → position p xs ≡ Some (position_or_len p xs)
placed_at p xs h = by (position_or_len p xs) (length xs) (any_within p xs h)
  where
    true_test : (n m : ℕ) → n < m → nat_lt n m ≡ true
    true_test n m h = grind (arith, nat_tests)

    by : (n m : ℕ) → n < m → cond (nat_lt n m) (Some n) None ≡ Some n
    by n m h = ap (λ t. cond t (Some n) None) (true_test n m h)

any_front : {X : Type 0} (p : X → Bool) (xs ys : List X) → list_any p xs ≡ true → list_any p (xs ++ ys) ≡ true
any_front p [] ys h = let e : false ≡ true = h in cc
any_front p (x ∷ xs) ys h = or_step (p x) (list_any p xs) (list_any p (xs ++ ys)) (any_front p xs ys) h

-- a thing behind others, where none of them is equal to it
abbrev pub with_once : {X : Type 0} → (X → X → Bool) → List X → X → List X
with_once eq xs x = if list_any (eq x) xs then xs else xs ++ x ∷ []

module _ {X : Type 0} (eq : X → X → Bool) (same : (a b : X) → eq a b ≡ true → a ≡ b) (own : (a : X) → eq a a ≡ true) where
  any_end : (xs : List X) (a : X) → list_any (eq a) (xs ++ a ∷ []) ≡ true
  any_end [] a = or_left (eq a a) false (own a)
  any_end (b ∷ xs) a = or_right (eq a b) (list_any (eq a) (xs ++ a ∷ [])) (any_end xs a)

  kept : (xs : List X) (a b : X) → list_any (eq a) xs ≡ true → list_any (eq a) (with_once eq xs b) ≡ true
  kept xs a b h = by (list_any (eq b) xs)
    where
      by : (t : Bool) → list_any (eq a) (if t then xs else xs ++ b ∷ []) ≡ true
      by true = h
      by false = any_front (eq a) xs (b ∷ []) h

  added_has : (xs : List X) (a : X) → list_any (eq a) (with_once eq xs a) ≡ true
  added_has xs a = by (list_any (eq a) xs) refl
    where
      by : (t : Bool) → list_any (eq a) xs ≡ t → list_any (eq a) (if t then xs else xs ++ a ∷ []) ≡ true
      by true e = e
      by false e = any_end xs a

  pub kept_all : (xs more : List X) (a : X) → list_any (eq a) xs ≡ true → list_any (eq a) (fold (with_once eq) xs more) ≡ true
  kept_all xs [] a h = h
  kept_all xs (b ∷ more) a h = kept_all (with_once eq xs b) more a (kept xs a b h)

  pub all_once : (xs more : List X) → AllByRecursion (λ a. list_any (eq a) (fold (with_once eq) xs more) ≡ true) more
  all_once xs [] = tt
  all_once xs (b ∷ more) = (kept_all (with_once eq xs b) more b (added_has xs b), all_once (with_once eq xs b) more)

  -- what stands first at the same place is the same
  pub same_place : (xs : List X) (a b : X) (k : ℕ) → position (eq a) xs ≡ Some k → position (eq b) xs ≡ Some k → a ≡ b
  same_place xs a b k e f =
      same a (get_or xs k a) (position-Some (eq a) xs k a e).1 ∙ sym (same b (get_or xs k a) (position-Some (eq b) xs k a f).1)
