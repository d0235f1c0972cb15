-- Elements of lists by their places.
use Rattle.std.proofs.Common.{◌≡◌, ◌≢◌, ℕ, zero, suc, ◌<◌, List, [], ◌∷◌, ◌++◌, length, replicate, refl, ap, arith}
use Rattle.std.specs.Prelude.{slice_get, slice_set, slice_index, Some}

module _ {X : Type 0} where
  pub get-set_same : (xs : List X) (n : ℕ) (x : X) → n < length xs → slice_get (slice_set xs n x) n ≡ Some x
  get-set_same [] n x h = absurd (omega (arith, h))
  get-set_same (y ∷ ys) zero x h = refl
  get-set_same (y ∷ ys) (suc n) x h = get-set_same ys n x (omega (arith, h))

  pub get-set_other : (xs : List X) (n m : ℕ) (x : X) → m ≢ n → slice_get (slice_set xs n x) m ≡ slice_get xs m
  get-set_other [] n m x h = refl
  get-set_other (y ∷ ys) zero zero x h = absurd (h refl)
  get-set_other (y ∷ ys) zero (suc m) x h = refl
  get-set_other (y ∷ ys) (suc n) zero x h = refl
  get-set_other (y ∷ ys) (suc n) (suc m) x h = get-set_other ys n m x (λ e. h (ap suc e))

  pub get-push_front : (xs : List X) (n : ℕ) (x : X) → n < length xs → slice_get (xs ++ x ∷ []) n ≡ slice_get xs n
  get-push_front [] n x h = absurd (omega (arith, h))
  get-push_front (y ∷ ys) zero x h = refl
  get-push_front (y ∷ ys) (suc n) x h = get-push_front ys n x (omega (arith, h))

  pub get-push_last : (xs : List X) (x : X) → slice_get (xs ++ x ∷ []) (length xs) ≡ Some x
  get-push_last [] x = refl
  get-push_last (y ∷ ys) x = get-push_last ys x

pub zero-everywhere : (n byte : ℕ) → slice_index (replicate n 0) byte ≡ 0
zero-everywhere zero byte = refl
zero-everywhere (suc n) zero = refl
zero-everywhere (suc n) (suc byte) = zero-everywhere n byte
