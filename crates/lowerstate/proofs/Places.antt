-- Lists that stand in others.
use Rattle.std.proofs.Common.{◌≡◌, ℕ, zero, suc, ◌+◌, ◌<◌, List, [], ◌∷◌, ◌++◌, length, refl, sym, ap, ◌∙◌, arith}
use Rattle.std.proofs.Common.{Some, slice_get, slice_set, append_assoc, length-append}
use Rattle.lowerstate.specs.Piece.{StandsAt}

module _ {A : Type 0} where
  pub get-further : (front xs : List A) (i : ℕ) → slice_get (front ++ xs) (length front + i) ≡ slice_get xs i
  get-further [] xs i = let e : length {A = A} [] + i ≡ i = omega arith in ap (λ n. slice_get xs n) e
  get-further (x ∷ front) xs i =
      let e : length (x ∷ front) + i ≡ suc (length front + i) = omega arith in
      ap (λ n. slice_get (x ∷ (front ++ xs)) n) e ∙ get-further front xs i

  pub get-before : (part back : List A) (i : ℕ) (a : A) → slice_get part i ≡ Some a → slice_get (part ++ back) i ≡ Some a
  get-before [] back i a is = absurd cc
  get-before (x ∷ part) back zero a is = is
  get-before (x ∷ part) back (suc i) a is = get-before part back i a is

  -- an element of what stands in a list
  pub stands-at : (all part : List A) (place i : ℕ) (a : A) → StandsAt all part place → slice_get part i ≡ Some a
      → slice_get all (place + i) ≡ Some a
  stands-at all part place i a stands is =
      let at : place + i ≡ length stands.front + i = ap (λ n. n + i) (sym stands.before) in
      ap (λ xs. slice_get xs (place + i)) stands.whole
      ∙ (ap (λ n. slice_get (stands.front ++ (part ++ stands.back)) n) at
      ∙ (get-further stands.front (part ++ stands.back) i ∙ get-before part stands.back i a is))

  pub stands-first : (all part : List A) (place : ℕ) (a : A) → StandsAt all (a ∷ part) place → slice_get all place ≡ Some a
  stands-first all part place a stands =
      let e : place ≡ place + 0 = omega arith in
      ap (λ n. slice_get all n) e ∙ stands-at all (a ∷ part) place 0 a stands refl

  pub stands-left : (all part more : List A) (place : ℕ) → StandsAt all (part ++ more) place → StandsAt all part place
  stands-left all part more place stands = record {
    front = stands.front;
    back = more ++ stands.back;
    whole = stands.whole ∙ ap (λ xs. stands.front ++ xs) (append_assoc part more stands.back);
    before = stands.before;
  }

  pub stands-right : (all part more : List A) (place : ℕ) → StandsAt all (part ++ more) place → StandsAt all more (place + length part)
  stands-right all part more place stands = record {
    front = stands.front ++ part;
    back = stands.back;
    whole = stands.whole ∙ (ap (λ xs. stands.front ++ xs) (append_assoc part more stands.back)
        ∙ sym (append_assoc stands.front part (more ++ stands.back)));
    before = length-append stands.front part ∙ ap (λ n. n + length part) stands.before;
  }

  pub one-longer : (xs : List A) (a : A) → length (xs ++ a ∷ []) ≡ length xs + 1
  one-longer xs a = length-append xs (a ∷ [])

  -- the last of a list
  pub get-last : (xs : List A) (a : A) → slice_get (xs ++ a ∷ []) (length xs) ≡ Some a
  get-last [] a = refl
  get-last (x ∷ xs) a = get-last xs a

  -- a list of which one element is another
  pub get-set : (xs : List A) (i : ℕ) (a : A) → i < length xs → slice_get (slice_set xs i a) i ≡ Some a
  get-set [] i a within = absurd (omega (arith, within))
  get-set (x ∷ xs) zero a within = refl
  get-set (x ∷ xs) (suc i) a within = get-set xs i a (omega (arith, within))

  pub get-unset : (xs : List A) (i j : ℕ) (a : A) → (i ≡ j → ⊥) → slice_get (slice_set xs i a) j ≡ slice_get xs j
  get-unset [] i j a other = refl
  get-unset (x ∷ xs) zero zero a other = absurd (other refl)
  get-unset (x ∷ xs) zero (suc j) a other = refl
  get-unset (x ∷ xs) (suc i) zero a other = refl
  get-unset (x ∷ xs) (suc i) (suc j) a other = get-unset xs i j a (λ same. other (ap suc same))

  pub set-long : (xs : List A) (i : ℕ) (a : A) → length (slice_set xs i a) ≡ length xs
  set-long [] i a = refl
  set-long (x ∷ xs) zero a = refl
  set-long (x ∷ xs) (suc i) a = ap suc (set-long xs i a)
