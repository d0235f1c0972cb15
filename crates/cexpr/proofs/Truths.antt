-- What is made where a test passes. A fact has one proof.
use Rattle.std.proofs.Common.{◌≡◌, Bool, true, false, Option, None, refl, ap, subst}
use Rattle.std.specs.Prelude.{IsTrue}
use Rattle.std.proofs.Props.{props}
use Rattle.csize.specs.Elements.{where_true}

pub by_numbers : {A X : Type 0} (P : A → Type 0) → ((a : A) → IsProp (P a)) → (make : (a : A) → P a → X) → (a b : A) (p : P a) (q : P b) → a ≡ b → make a p ≡ make b q
by_numbers P once make a b p q e = (subst (λ x. (q : P x) → make a p ≡ make x q) e (λ q. ap (make a) (once a p q))) q

pub where_true-is : {X : Type 0} (b : Bool) (f : IsTrue b → Option X) (h : IsTrue b) → where_true b f ≡ f h
where_true-is true f h = let once : IsProp (IsTrue true) = hlevel props in ap f (once refl h)
where_true-is false f h = cc

pub where_true-none : {X : Type 0} (b : Bool) (f : IsTrue b → Option X) → b ≡ false → where_true b f ≡ None
where_true-none true f h = cc
where_true-none false f h = refl
