-- The numbers behind a core, taken one by one.
use Rattle.std.proofs.Common.{◌≡◌, ℕ, ◌<◌, ◌≤◌, Bool, true, false, cond, ◌&&◌, List, [], ◌∷◌, ◌++◌, drop, Option, Some}
use Rattle.std.proofs.Common.{None, refl, sym, ap, ◌∙◌, arith, append_assoc, option_and_then, nat_le}
use Rattle.std.specs.Option.{option_map}
use Rattle.std.specs.List.{list_all, slice_get}
use Rattle.std.proofs.lemmas.Bool.Decides.{nat_tests}
use Rattle.std.proofs.lemmas.List.{append-nil}
use Rattle.std.proofs.lemmas.Option.{cond_some}
use Rattle.textline.specs.Numbers.{is_decimal, decimal_in}
use Rattle.hostscript.specs.Reading.{small_numbers}

-- both in a row, where both are there
abbrev pub joined : Option (List ℕ) → Option (List ℕ) → Option (List ℕ)
joined None ys = None
joined (Some xs) None = None
joined (Some xs) (Some ys) = Some (xs ++ ys)

pub joined_end : (xs : List ℕ) → joined (Some xs) (small_numbers []) ≡ Some xs
unfolding small_numbers
joined_end xs = ap Some (append-nil xs)

joined_none : (o : Option (List ℕ)) → joined o None ≡ None
joined_none None = refl
joined_none (Some xs) = refl

pub is_decimal_told : (word : List ℕ) (n : ℕ) → decimal_in word ≡ Some n → is_decimal word ≡ true
is_decimal_told word n e = (cond_some (is_decimal word) _ n e).0

pub forms_step : (fields : List (List ℕ)) (n : ℕ) → Some n ≡ option_and_then decimal_in (slice_get fields 0)
    → list_all is_decimal (drop 1 fields) ≡ list_all is_decimal fields
forms_step [] n e = absurd (cc)
forms_step (word ∷ words) n e = sym (ap (λ t. t && list_all is_decimal words) (is_decimal_told word n (sym e)))

join_one : (small : Bool) (front : List ℕ) (n : ℕ) (rest : Option (List ℕ))
    → joined (cond small (Some (front ++ n ∷ [])) None) rest ≡ joined (cond small (Some front) None) (option_map (λ ns. n ∷ ns) rest)
join_one true front n None = refl
join_one true front n (Some ns) = ap Some (append_assoc front (n ∷ []) ns)
join_one false front n None = refl
join_one false front n (Some ns) = refl

pub small_step : (word : List ℕ) (words : List (List ℕ)) (n : ℕ) → decimal_in word ≡ Some n → nat_le n 255 ≡ true
    → small_numbers (word ∷ words) ≡ option_map (λ ns. n ∷ ns) (small_numbers words)
unfolding small_numbers
small_step word words n e small =
    ap (λ o. option_and_then (λ n. cond (nat_le n 255) (option_map (λ ns. n ∷ ns) (small_numbers words)) None) o) e
    ∙ ap (λ t. cond t (option_map (λ ns. n ∷ ns) (small_numbers words)) None) small

pub large_step : (word : List ℕ) (words : List (List ℕ)) (n : ℕ) → decimal_in word ≡ Some n → nat_le n 255 ≡ false
    → small_numbers (word ∷ words) ≡ None
unfolding small_numbers
large_step word words n e large =
    ap (λ o. option_and_then (λ n. cond (nat_le n 255) (option_map (λ ns. n ∷ ns) (small_numbers words)) None) o) e
    ∙ ap (λ t. cond t (option_map (λ ns. n ∷ ns) (small_numbers words)) None) large

at_most_255 : (n : ℕ) → n ≤ 255 → nat_le n 255 ≡ true
at_most_255 n h = grind (arith, nat_tests)

above_255 : (n : ℕ) → 255 < n → nat_le n 255 ≡ false
above_255 n h = grind (arith, nat_tests)

pub values_small : (small : Bool) (front : List ℕ) (fields : List (List ℕ)) (n : ℕ)
    → Some n ≡ option_and_then decimal_in (slice_get fields 0) → n ≤ 255
    → joined (cond small (Some (front ++ n ∷ [])) None) (small_numbers (drop 1 fields))
    ≡ joined (cond small (Some front) None) (small_numbers fields)
values_small small front [] n e h = absurd (cc)
values_small small front (word ∷ words) n e h =
    join_one small front n (small_numbers words) ∙ ap (joined (cond small (Some front) None))
    (sym (small_step word words n (sym e) (at_most_255 n h)))

pub values_large : (o : Option (List ℕ)) (fields : List (List ℕ)) (n : ℕ) → Some n ≡ option_and_then decimal_in (slice_get fields 0)
    → 255 < n
    → joined None (small_numbers (drop 1 fields)) ≡ joined o (small_numbers fields)
values_large o [] n e h = absurd (cc)
values_large o (word ∷ words) n e h = sym (ap (joined o) (large_step word words n (sym e) (above_255 n h)) ∙ joined_none o)
