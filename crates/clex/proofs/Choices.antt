-- Which way a test went.
use Rattle.std.proofs.Common.{◌≡◌, Bool, true, false, cond, Option, Some, None, refl, ◌⊎◌, inl, inr, ℕ, List, [], ◌∷◌, ◌++◌, length, arith}

pub chosen : {X : Type 0} (t : Bool) (x y z : X) → cond t x y ≡ z → ((t ≡ true) × (x ≡ z)) ⊎ ((t ≡ false) × (y ≡ z))
chosen true x y z e = inl (refl, e)
chosen false x y z e = inr (refl, e)

pub if_some : {X : Type 0} (t : Bool) (o : Option X) (y : X) → cond t o None ≡ Some y → (t ≡ true) × (o ≡ Some y)
if_some true o y e = (refl, e)
if_some false o y e = absurd cc

-- fronts of one text of one length are the same
pub same_front : (a b x y : List ℕ) → a ++ x ≡ b ++ y → length a ≡ length b → (a ≡ b) × (x ≡ y)
same_front [] [] x y e l = (refl, e)
same_front [] (b ∷ bs) x y e l = absurd (omega arith)
same_front (a ∷ front) [] x y e l = absurd (omega arith)
same_front (a ∷ front) (b ∷ bs) x y e l =
    let tails : front ++ x ≡ bs ++ y = cc in
    let heads : a ≡ b = cc in
    let rest = same_front front bs x y tails (omega arith) in
    (cc, rest.1)
