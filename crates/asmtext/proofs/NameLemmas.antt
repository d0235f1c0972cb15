-- Names by first appearance.
use Rattle.std.proofs.Common.{◌≡◌, ℕ, ◌+◌, List, [], ◌∷◌, ◌++◌, Bool, true, false, Option, Some, None, refl, ap, sym, ◌∙◌, arith}
use Rattle.std.proofs.Common.{length, map}
use Rattle.std.specs.Prelude.{fold, position, if◌then◌else◌, ◌||◌}
use Rattle.std.specs.List.{list_any, prefix_len, position_or_len, flat_map}
use Rattle.std.specs.Prelude.{not, nat_lt, cond}

pub any_map : {X Y : Type 0} (f : X → Y) (p : Y → Bool) (xs : List X) → list_any p (map f xs) ≡ list_any (λ x. p (f x)) xs
any_map f p [] = refl
any_map f p (x ∷ xs) = ap (λ b. p (f x) || b) (any_map f p xs)

prefix_map : {X Y : Type 0} (f : X → Y) (p : Y → Bool) (xs : List X) → prefix_len p (map f xs) ≡ prefix_len (λ x. p (f x)) xs
prefix_map f p [] = refl
prefix_map f p (x ∷ xs) = ap (λ n. cond (p (f x)) (1 + n) 0) (prefix_map f p xs)

length_of_map : {X Y : Type 0} (f : X → Y) (xs : List X) → length (map f xs) ≡ length xs
length_of_map f [] = refl
length_of_map f (x ∷ xs) = let e = length_of_map f xs in omega arith

pub position_map : {X Y : Type 0} (f : X → Y) (p : Y → Bool) (xs : List X) → position p (map f xs) ≡ position (λ x. p (f x)) xs
position_map f p xs =
    ap (λ n. cond (nat_lt n (length (map f xs))) (Some n) None) (prefix_map f (λ y. not (p y)) xs)
    ∙ ap (λ n. cond (nat_lt (prefix_len (λ x. not (p (f x))) xs) n) (Some (prefix_len (λ x. not (p (f x))) xs)) None) (length_of_map f xs)

map_end : {X Y : Type 0} (f : X → Y) (xs : List X) (x : X) → map f (xs ++ x ∷ []) ≡ map f xs ++ f x ∷ []
map_end f [] x = refl
map_end f (y ∷ xs) x = ap (λ r. f y ∷ r) (map_end f xs x)

-- a name more, or the same names
pub added : {X Y : Type 0} (f : X → Y) (p : Y → Bool) (xs : List X) (x : X)
    → map f (if list_any (λ y. p (f y)) xs then xs else xs ++ x ∷ []) ≡ (if list_any p (map f xs) then map f xs else map f xs ++ f x ∷ [])
added f p xs x = by (list_any (λ y. p (f y)) xs) ∙ ap (λ b. if b then map f xs else map f xs ++ f x ∷ []) (sym (any_map f p xs))
  where
    by : (b : Bool) → map f (if b then xs else xs ++ x ∷ []) ≡ (if b then map f xs else map f xs ++ f x ∷ [])
    by true = refl
    by false = map_end f xs x

pub fold_join : {A B : Type 0} (f : B → A → B) (b : B) (xs ys : List A) → fold f b (xs ++ ys) ≡ fold f (fold f b xs) ys
fold_join f b [] ys = refl
fold_join f b (x ∷ xs) ys = fold_join f (f b x) xs ys
