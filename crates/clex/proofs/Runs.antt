-- Runs of bytes that pass a test.
use Rattle.std.proofs.Common.{◌≡◌, ℕ, suc, ◌+◌, Bool, true, false, cond, List, [], ◌∷◌, ◌++◌, length, take, drop, refl, arith}
use Rattle.std.specs.List.{prefix_len, list_all}
use Rattle.std.proofs.lemmas.Bool.{and_parts}
use Rattle.clex.specs.Bytes.{StopsAt}

-- a run that stops is read whole
pub run_length : (p : ℕ → Bool) (run left : List ℕ) → list_all p run ≡ true → StopsAt p left → prefix_len p (run ++ left) ≡ length run
run_length p [] [] all stops = refl
run_length p [] (b ∷ left) all stops = rw stops refl
run_length p (b ∷ run) left all stops =
    let parts = and_parts (p b) (list_all p run) all in
    let one : 1 + length run ≡ suc (length run) = omega arith in
    rw (parts.0, run_length p run left parts.1 stops) one

-- the front that is read passes
pub front_passes : (p : ℕ → Bool) (text : List ℕ) → list_all p (take (prefix_len p text) text) ≡ true
front_passes p [] = refl
front_passes p (b ∷ text) = by_test (front_passes p text) (p b) refl
  where
    by_test : list_all p (take (prefix_len p text) text) ≡ true → (t : Bool) → p b ≡ t
        → list_all p (take (cond t (1 + prefix_len p text) 0) (b ∷ text)) ≡ true
    by_test rest true e =
        let one : 1 + prefix_len p text ≡ suc (prefix_len p text) = omega arith in
        rw (one, e) rest
    by_test rest false e = refl

-- and what is left doesn't go on
pub front_stops : (p : ℕ → Bool) (text : List ℕ) → StopsAt p (drop (prefix_len p text) text)
front_stops p [] = tt
front_stops p (b ∷ text) = by_test (front_stops p text) (p b) refl
  where
    by_test : StopsAt p (drop (prefix_len p text) text) → (t : Bool) → p b ≡ t
        → StopsAt p (drop (cond t (1 + prefix_len p text) 0) (b ∷ text))
    by_test rest true e =
        let one : 1 + prefix_len p text ≡ suc (prefix_len p text) = omega arith in
        rw one rest
    by_test rest false e = e

-- a front that begins with a byte that passes has that byte
pub front_begins : (p : ℕ → Bool) (b : ℕ) (text : List ℕ) → p b ≡ true
    → take (prefix_len p (b ∷ text)) (b ∷ text) ≡ b ∷ take (prefix_len p text) text
front_begins p b text e =
    let one : 1 + prefix_len p text ≡ suc (prefix_len p text) = omega arith in
    rw (e, one) refl
