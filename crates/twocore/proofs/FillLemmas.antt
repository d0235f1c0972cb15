-- Lists that are filled up with zeros, one number or four more at a time.
use Rattle.std.proofs.Common.{◌≡◌, ℕ, zero, suc, ◌+◌, ◌-◌, ◌*◌, ◌<◌, ◌≤◌, List, [], ◌∷◌, ◌++◌, length, take, drop}
use Rattle.std.proofs.Common.{map, refl, sym, ap, ◌∙◌, arith, append_assoc, length-append}
use Rattle.std.specs.Prelude.{slice_set, replicate}
use Rattle.std.specs.List.{range_with_len}
use Rattle.std.proofs.lemmas.List.{append-nil, take_at, drop_at, drop-drop, replicate-append-replicate}
use Rattle.std.proofs.lemmas.List.FromFn.{map-range_with_len_more, length-map-range_with_len}
use Rattle.corestep.specs.Core.{zeros}
use Rattle.twocore.specs.Word.{filled}

set_behind : (xs ys : List ℕ) (y v : ℕ) → slice_set (xs ++ y ∷ ys) (length xs) v ≡ xs ++ v ∷ ys
set_behind [] ys y v = refl
set_behind (x ∷ xs) ys y v = ap (λ (l : List ℕ). x ∷ l) (set_behind xs ys y v)

zeros_suc : (n m : ℕ) → n ≡ suc m → zeros n ≡ 0 ∷ zeros m
unfolding zeros
zeros_suc n m e = ap (λ (k : ℕ). replicate k 0) e

zeros_more : (n m : ℕ) → zeros n ++ zeros m ≡ zeros (n + m)
unfolding zeros
zeros_more n m = replicate-append-replicate n m 0

length-zeros : (k : ℕ) → length (zeros k) ≡ k
unfolding zeros
length-zeros zero = refl
length-zeros (suc k) = ap suc (length-zeros k)

drop_zeros : (k n : ℕ) → drop k (zeros n) ≡ zeros (n - k)
unfolding zeros
drop_zeros zero n = ap zeros (let e : n ≡ n - 0 = omega arith in e)
drop_zeros (suc k) zero = ap zeros (let e : 0 ≡ 0 - suc k = omega arith in e)
drop_zeros (suc k) (suc n) = drop_zeros k n ∙ ap zeros (let e : n - k ≡ suc n - suc k = omega arith in e)

pub set_filled : (n : ℕ) (xs : List ℕ) (k v : ℕ) → k ≡ length xs → k < n → slice_set (filled n xs) k v ≡ filled n (xs ++ v ∷ [])
set_filled n xs k v is h =
    let more : length (xs ++ v ∷ []) ≡ length xs + 1 = length-append xs (v ∷ []) in
    let rest : ℕ = n - length (xs ++ v ∷ []) in
    ap (λ (l : List ℕ). slice_set (xs ++ l) k v) (zeros_suc (n - length xs) rest (omega arith))
    ∙ ap (λ (i : ℕ). slice_set (xs ++ 0 ∷ zeros rest) i v) is
    ∙ set_behind xs (zeros rest) 0 v
    ∙ sym (append_assoc xs (v ∷ []) (zeros rest))

-- bytes in a range of it, behind those that stand
pub range_filled : (n : ℕ) (xs bytes : List ℕ) (k : ℕ) → k ≡ length xs → k + length bytes ≤ n
    → take k (filled n xs) ++ (bytes ++ drop (k + length bytes) (filled n xs)) ≡ filled n (xs ++ bytes)
range_filled n xs bytes k is h =
    let behind : List ℕ = zeros (n - length xs) in
    let front : take k (filled n xs) ≡ xs = take_at xs behind k (sym is) in
    let back : drop k (filled n xs) ≡ behind = drop_at xs behind k (sym is) in
    let rest : drop (k + length bytes) (filled n xs) ≡ zeros (n - length (xs ++ bytes)) =
    sym (drop-drop (length bytes) k (filled n xs)) ∙ ap (drop (length bytes)) back ∙ drop_zeros (length bytes) (n - length xs)
    ∙ ap zeros (let e : n - length xs - length bytes ≡ n - length (xs ++ bytes) = omega (arith, length-append xs bytes) in e) in
    ap (λ (l : List ℕ). l ++ (bytes ++ drop (k + length bytes) (filled n xs))) front
    ∙ ap (λ (l : List ℕ). xs ++ (bytes ++ l)) rest
    ∙ sym (append_assoc xs bytes (zeros (n - length (xs ++ bytes))))

-- zeros behind change nothing
pub filled_zeros : (n r : ℕ) (xs : List ℕ) → length xs + r ≤ n → filled n (xs ++ zeros r) ≡ filled n xs
filled_zeros n r xs h =
    let long : length (zeros r) ≡ r = length-zeros r in
    append_assoc xs (zeros r) (zeros (n - length (xs ++ zeros r)))
    ∙ ap (λ (l : List ℕ). xs ++ l)
    (zeros_more r (n - length (xs ++ zeros r))
    ∙ ap zeros (let e : r + (n - length (xs ++ zeros r)) ≡ n - length xs = omega (arith, length-append xs (zeros r)) in e))

-- one number more of a function's
pub mapped_more : (n : ℕ) (f : ℕ → ℕ) (from k at v : ℕ) → k < n → at ≡ from + k → v ≡ f at
    → slice_set (filled n (map f (range_with_len from k))) k v ≡ filled n (map f (range_with_len from (k + 1)))
mapped_more n f from k at v h is e =
    set_filled n (map f (range_with_len from k)) k v (sym (length-map-range_with_len f from k)) h
    ∙ ap (λ (x : ℕ). filled n (map f (range_with_len from k) ++ x ∷ [])) e
    ∙ ap (filled n) (sym (map-range_with_len_more f from k at (sym is)))

-- what is full
pub filled_whole : (n : ℕ) (xs : List ℕ) → length xs ≡ n → filled n xs ≡ xs
unfolding zeros
filled_whole n xs is = ap (λ (k : ℕ). xs ++ replicate k 0) (let e : n - length xs ≡ 0 = omega arith in e) ∙ append-nil xs
