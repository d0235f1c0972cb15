-- Tidying the functions of a program one after another.
use Rattle.std.proofs.Common.{◌≡◌, ℕ, zero, suc, ◌+◌, ◌<◌, ◌≤◌, ◌==◌, Bool, true, false, List, [], ◌∷◌, Some, length}
use Rattle.std.proofs.Common.{refl, sym, subst, ap, ◌∙◌, arith, slice_get, slice_set, get_or}
use Rattle.std.specs.Prelude.{All}
use Rattle.std.proofs.lemmas.Option.{slice_get-get_or}
use Rattle.std.proofs.lemmas.Bool.{eqb-true, eqb-false}
use Rattle.midcode.specs.Function.{Function, kinds}
use Rattle.midopt.specs.Better.{IsBetterFunction, AreBetter}
use Rattle.midopt.specs.Tidy.{IsTidy}
use Rattle.midopt.proofs.Relation.{all-same, all-more, get-set}
use Rattle.midopt.proofs.Removed.{get-other}

pub record Tidying (old now : List Function) (index : ℕ) : Type 0 where
  pub better : AreBetter old now
  pub tidy : (n : ℕ) (f : Function) → n < index → slice_get now n ≡ Some f → IsTidy (kinds f)
  pub long : length now ≡ length old

pub tidying-first : (fs : List Function) → Tidying fs fs 0
tidying-first fs = record { better = all-same fs; tidy = λ n f less at. absurd (omega (arith, less)); long = refl }

length-set : (l : List Function) (i : ℕ) (f : Function) → length (slice_set l i f) ≡ length l
length-set [] i f = refl
length-set (g ∷ l) zero f = refl
length-set (g ∷ l) (suc i) f = ap suc (length-set l i f)

pub tidying-next : (old now : List Function) (i : ℕ) (f g : Function) → Tidying old now i → slice_get now i ≡ Some f → IsBetterFunction f g
    → IsTidy (kinds g) → Tidying old (slice_set now i g) (i + 1)
tidying-next old now i f g w at better tidy = record {
  better = all-more old now i f g w.better at better;
  tidy = λ n h less stands. by n h less stands (n == i) refl;
  long = length-set now i g ∙ w.long;
}
  where
    same-function : (h g : Function) → Some h ≡ Some g → h ≡ g
    same-function h g e = cc

    by : (n : ℕ) (h : Function) → n < i + 1 → slice_get (slice_set now i g) n ≡ Some h → (b : Bool) → (n == i) ≡ b → IsTidy (kinds h)
    by n h less stands true is =
        let same = eqb-true n i is in
        let it = same-function g h (sym (get-set now i f g at) ∙ ap (slice_get (slice_set now i g)) (sym same) ∙ stands) in
        subst (λ k. IsTidy (kinds k)) it tidy
    by n h less stands false other =
        let apart = eqb-false n i other in
        w.tidy n h (smaller apart) (sym (get-other now i n g apart) ∙ stands)
      where
        smaller : (n ≡ i → ⊥) → n < i
        smaller apart = grind (arith, apart, less)

pub tidying-done : (old now : List Function) (i : ℕ) → Tidying old now i → length old ≤ i → All (λ f. IsTidy (kinds f)) now
tidying-done old now i w over n d less =
    w.tidy n (get_or now n d) (omega (arith, less, over, w.long)) (slice_get-get_or now n d less)
