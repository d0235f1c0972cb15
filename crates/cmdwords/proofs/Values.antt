-- The words that stand at a form's places, one after the other.
use Rattle.std.proofs.Common.{◌≡◌, ◌∙◌, ◌<◌, ℕ, zero, suc, List, [], ◌∷◌, ◌++◌, length, map, take, get_or, refl, sym, ap, ap₂, subst, arith}
use Rattle.cmdwords.specs.Form.{Text}
use Rattle.cmdwords.specs.Asks.{Fill, MayStand, Said, word_of}
use Rattle.cmdwords.specs.declared.place.Place.{Place}

module _ {B : Type 0} (text : B → Text) where
  -- values that fill the first n places, and are said by the first n words
  abbrev pub SoFar : List Place → List B → ℕ → List Said → Type 0
  SoFar places words n values = Fill (take n places) values × (map word_of values ≡ map text (take n words))

  pub one_more : (places : List Place) (words : List B) (n : ℕ) (values : List Said) (p : Place) (w : B) (s : Said)
      → n < length places → n < length words → ((d : Place) → p ≡ get_or places n d) → ((d : B) → w ≡ get_or words n d)
      → MayStand p s → word_of s ≡ text w → SoFar places words n values → SoFar places words (suc n) (values ++ (s ∷ []))
  one_more [] words n values p w s lt below at is may says far = absurd (omega arith)
  one_more (x ∷ xs) [] n values p w s lt below at is may says far = absurd (omega arith)
  one_more (x ∷ xs) (y ∷ ys) zero [] p w s lt below at is may says far =
      ((subst (λ q. MayStand q s) (at x) may, tt), ap (λ t. t ∷ []) (says ∙ ap text (is y)))
  one_more (x ∷ xs) (y ∷ ys) zero (v ∷ vs) p w s lt below at is may says far = absurd far.0
  one_more (x ∷ xs) (y ∷ ys) (suc n) [] p w s lt below at is may says far = absurd far.0
  one_more (x ∷ xs) (y ∷ ys) (suc n) (v ∷ vs) p w s lt below at is may says far =
      let first : word_of v ≡ text y = cc in
      let others : map word_of vs ≡ map text (take n ys) = cc in
      let more = one_more xs ys n vs p w s (omega (arith, lt)) (omega (arith, below)) at is may says (far.0.1, others) in
      ((far.0.0, more.0), ap₂ (λ (t : Text) (ts : List Text). t ∷ ts) first more.1)

  -- where words say values that fill the places, the one at an index says one that may stand there
  pub fills_at : (places : List Place) (words : List B) (n : ℕ) (values : List Said) (p : Place) (w : B)
      → n < length places → n < length words → ((d : Place) → p ≡ get_or places n d) → ((d : B) → w ≡ get_or words n d)
      → ((s : Said) → MayStand p s → word_of s ≡ text w → ⊥) → Fill places values → map word_of values ≡ map text words → ⊥
  fills_at [] words n values p w lt below at is never fill says = absurd (omega arith)
  fills_at (x ∷ xs) [] n values p w lt below at is never fill says = absurd (omega arith)
  fills_at (x ∷ xs) (y ∷ ys) n [] p w lt below at is never fill says = absurd fill
  fills_at (x ∷ xs) (y ∷ ys) zero (v ∷ vs) p w lt below at is never fill says =
      let first : word_of v ≡ text y = cc in
      never v (subst (λ q. MayStand q v) (sym (at x)) fill.0) (first ∙ sym (ap text (is y)))
  fills_at (x ∷ xs) (y ∷ ys) (suc n) (v ∷ vs) p w lt below at is never fill says =
      let others : map word_of vs ≡ map text ys = cc in
      fills_at xs ys n vs p w (omega (arith, lt)) (omega (arith, below)) at is never fill.1 others

  -- there are as many words as places
  pub fill_length : (places : List Place) (words : List B) (values : List Said) → Fill places values → map word_of values ≡ map text words
      → length places ≡ length words
  fill_length [] [] [] fill says = refl
  fill_length [] (y ∷ ys) [] fill says =
      let bad : [] ≡ text y ∷ map text ys = says in
      cc
  fill_length [] words (v ∷ vs) fill says = absurd fill
  fill_length (x ∷ xs) words [] fill says = absurd fill
  fill_length (x ∷ xs) [] (v ∷ vs) fill says =
      let bad : word_of v ∷ map word_of vs ≡ [] = says in
      cc
  fill_length (x ∷ xs) (y ∷ ys) (v ∷ vs) fill says =
      let others : map word_of vs ≡ map text ys = cc in
      ap suc (fill_length xs ys vs fill.1 others)

pub length_more : {A : Type 0} (xs : List A) (x : A) → length (xs ++ (x ∷ [])) ≡ suc (length xs)
length_more [] x = refl
length_more (y ∷ ys) x = ap suc (length_more ys x)
