-- Registers as a list: bytes before R14, four bytes of each register from R14 on, and bytes behind.
use Rattle.std.proofs.Common.{◌≡◌, ℕ, zero, suc, ◌+◌, ◌*◌, ◌^◌, ◌<◌, List, [], ◌∷◌, ◌++◌, length, take, drop, get_or, set}
use Rattle.std.proofs.Common.{sym, ap, ◌∙◌, arith, append_assoc}
use Rattle.std.proofs.Math.Seq.{take-append-add, drop-append-add, take-append_seam, drop-append_seam}
use Rattle.prunum.specs.Bytes.{little_bytes, little_number}
use Rattle.corestep.specs.Fields.{bytes_at, with_bytes}

abbrev pub joined : List (List ℕ) → List ℕ → List ℕ
joined [] back = back
joined (x ∷ v) back = x ++ joined v back

abbrev pub Fours : List (List ℕ) → Type 0
Fours [] = Unit {0}
Fours (x ∷ v) = (length x ≡ 4) × Fours v

-- ---- past some bytes

read_past : (x rest : List ℕ) (m n len : ℕ) → n ≡ length x + m → bytes_at n len (x ++ rest) ≡ bytes_at m len rest
read_past x rest m n len is = ap (λ i. take len (drop i (x ++ rest))) is ∙ ap (take len) (drop-append-add x rest m)

with_past : (x rest four : List ℕ) (m n : ℕ) → n ≡ length x + m → with_bytes n four (x ++ rest) ≡ x ++ with_bytes m four rest
with_past x rest four m n is =
    let front : take n (x ++ rest) ≡ x ++ take m rest = ap (λ i. take i (x ++ rest)) is ∙ take-append-add x rest m in
    let place : n + length four ≡ length x + (m + length four) = omega arith in
    let back : drop (n + length four) (x ++ rest) ≡ drop (m + length four) rest =
    ap (λ i. drop i (x ++ rest)) place ∙ drop-append-add x rest (m + length four) in
    ap (λ (l : List ℕ). l ++ (four ++ drop (n + length four) (x ++ rest))) front
    ∙ ap (λ (l : List ℕ). (x ++ take m rest) ++ (four ++ l)) back
    ∙ append_assoc x (take m rest) (four ++ drop (m + length four) rest)

-- ---- a register

read_joined : (v : List (List ℕ)) (back : List ℕ) (k : ℕ) → k < length v → Fours v → bytes_at (4 * k) 4 (joined v back) ≡ get_or v k []
read_joined [] back k less fours = absurd (omega arith)
read_joined (x ∷ v) back zero less fours =
    ap (λ n. take n (x ++ joined v back)) (sym fours.0) ∙ take-append_seam x (joined v back)
read_joined (x ∷ v) back (suc k) less fours =
    let size : length x ≡ 4 = fours.0 in
    read_past x (joined v back) (4 * k) (4 * suc k) 4 (omega arith) ∙ read_joined v back k (omega arith) fours.1

with_first : (x four rest : List ℕ) → length x ≡ 4 → length four ≡ 4 → with_bytes 0 four (x ++ rest) ≡ four ++ rest
with_first x four rest sx sf =
    ap (λ (l : List ℕ). four ++ l) (ap (λ n. drop n (x ++ rest)) (let e : 0 + length four ≡ length x = omega arith in e)
    ∙ drop-append_seam x rest)

with_joined : (v : List (List ℕ)) (back four : List ℕ) (k : ℕ) → k < length v → Fours v → length four ≡ 4
    → with_bytes (4 * k) four (joined v back) ≡ joined (set v k four) back
with_joined [] back four k less fours size = absurd (omega arith)
with_joined (x ∷ v) back four zero less fours size = with_first x four (joined v back) fours.0 size
with_joined (x ∷ v) back four (suc k) less fours size =
    let long : length x ≡ 4 = fours.0 in
    with_past x (joined v back) four (4 * k) (4 * suc k) (omega arith)
    ∙ ap (λ (l : List ℕ). x ++ l) (with_joined v back four k (omega arith) fours.1 size)

module _ (front back : List ℕ) (size : length front ≡ 56) where
  abbrev pub laid : List (List ℕ) → List ℕ
  laid v = front ++ joined v back

  pub read_laid : (v : List (List ℕ)) (k n : ℕ) → n ≡ 4 * (14 + k) → k < length v → Fours v → bytes_at n 4 (laid v) ≡ get_or v k []
  read_laid v k n is less fours = read_past front (joined v back) (4 * k) n 4 (omega arith) ∙ read_joined v back k less fours

  pub with_laid : (v : List (List ℕ)) (k n : ℕ) (four : List ℕ) → n ≡ 4 * (14 + k) → k < length v → Fours v → length four ≡ 4
      → with_bytes n four (laid v) ≡ laid (set v k four)
  with_laid v k n four is less fours long =
      with_past front (joined v back) four (4 * k) n (omega arith)
      ∙ ap (λ (l : List ℕ). front ++ l) (with_joined v back four k less fours long)

pub read_back : (n : ℕ) → n < 2 ^ 32 → little_number 4 (little_bytes 4 n) ≡ n
read_back n fits = omega arith
