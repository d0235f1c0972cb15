-- The interrupt controller, four bytes at a time.
use Rattle.std.proofs.Common.{◌≡◌, ℕ, zero, suc, ◌+◌, ◌-◌, ◌*◌, ◌/◌, ◌%◌, ◌^◌, ◌<◌, ◌≤◌, List, [], ◌∷◌, ◌++◌, length, take}
use Rattle.std.proofs.Common.{drop, refl, sym, ap, ◌∙◌, arith, append_assoc, length-append, add-one}
use Rattle.std.specs.Prelude.{replicate}
use Rattle.std.proofs.lemmas.List.{append-nil}
use Rattle.prunum.specs.declared.width.Width.TheVariants.{B4}
use Rattle.prunum.specs.Bytes.{little_bytes, little_number}
use Rattle.corestep.specs.Core.{zeros}
use Rattle.corestep.specs.Pieces.{pieces}
use Rattle.corerun.proofs.SizeLemmas.{little_size}
use Rattle.devices.specs.Controller.{Controller, read_at, written_at}
use Rattle.twocore.specs.World.{controller_bytes, controller_after}
use Rattle.twocore.specs.Word.{filled}
use Rattle.twocore.proofs.FillLemmas.{range_filled, filled_zeros}

-- ---- stores

pub controller_turn : (c : Controller) (at n : ℕ) (rest four behind : List ℕ) → 4 ≤ length rest → four ≡ take 4 rest → behind ≡ drop 4 rest
    → n ≡ length four
    → controller_after (written_at c at B4 (little_number n four)) (pieces ((at + 4) % 2 ^ 32) behind)
    ≡ controller_after c (pieces at rest)
controller_turn c at n [] four behind h f b l = absurd (omega arith)
controller_turn c at n (x ∷ []) four behind h f b l = absurd (omega arith)
controller_turn c at n (x ∷ y ∷ []) four behind h f b l = absurd (omega arith)
controller_turn c at n (x ∷ y ∷ z ∷ []) four behind h f b l = absurd (omega arith)
controller_turn c at n (x ∷ y ∷ z ∷ w ∷ rest) four behind h f b l =
    ap (λ (m : ℕ). controller_after (written_at c at B4 (little_number m four)) (pieces ((at + 4) % 2 ^ 32) behind)) (l ∙ ap length f)
    ∙ ap (λ (xs : List ℕ). controller_after (written_at c at B4 (little_number 4 xs)) (pieces ((at + 4) % 2 ^ 32) behind)) f
    ∙ ap (λ (xs : List ℕ). controller_after (written_at c at B4 (little_number 4 (x ∷ y ∷ z ∷ w ∷ []))) (pieces ((at + 4) % 2 ^ 32) xs)) b

pub controller_end : (c : Controller) (at : ℕ) (rest : List ℕ) → length rest < 4 → controller_after c (pieces at rest) ≡ c
controller_end c at [] h = refl
controller_end c at (x ∷ []) h = refl
controller_end c at (x ∷ y ∷ []) h = refl
controller_end c at (x ∷ y ∷ z ∷ []) h = refl
controller_end c at (x ∷ y ∷ z ∷ w ∷ rest) h = absurd (omega arith)

-- ---- loads

-- the bytes of so many registers
pub words : Controller → ℕ → ℕ → List ℕ
words c at zero = []
words c at (suc k) = words c at k ++ little_bytes 4 (read_at c (at + 4 * k) B4)

length-words : (c : Controller) (at k : ℕ) → length (words c at k) ≡ 4 * k
unfolding words
length-words c at zero = omega arith
length-words c at (suc k) =
    let ih = length-words c at k in
    let v : ℕ = read_at c (at + 4 * k) B4 in
    omega (arith, length-append (words c at k) (little_bytes 4 v), little_size 4 v)

words_cons : (c : Controller) (at k : ℕ) → words c at (suc k) ≡ little_bytes 4 (read_at c at B4) ++ words c (at + 4) k
unfolding words
words_cons c at zero = ap (λ (a : ℕ). little_bytes 4 (read_at c a B4)) (let e : at + 4 * 0 ≡ at = omega arith in e) ∙ sym (append-nil _)
words_cons c at (suc k) =
    ap (λ (xs : List ℕ). xs ++ little_bytes 4 (read_at c (at + 4 * suc k) B4)) (words_cons c at k)
    ∙ append_assoc (little_bytes 4 (read_at c at B4)) (words c (at + 4) k) (little_bytes 4 (read_at c (at + 4 * suc k) B4))
    ∙ ap (λ (a : ℕ). little_bytes 4 (read_at c at B4) ++ (words c (at + 4) k ++ little_bytes 4 (read_at c a B4)))
    (let e : at + 4 * suc k ≡ at + 4 + 4 * k = omega arith in e)

-- fewer than four bytes show no register
rest_zeros : (c : Controller) (at r : ℕ) → r < 4 → controller_bytes c at r ≡ zeros r
unfolding zeros
rest_zeros c at zero h = refl
rest_zeros c at (suc zero) h = refl
rest_zeros c at (suc (suc zero)) h = refl
rest_zeros c at (suc (suc (suc zero))) h = refl
rest_zeros c at (suc (suc (suc (suc r)))) h = absurd (omega arith)

by_words : (c : Controller) (at k r n : ℕ) → r < 4 → n ≡ 4 * k + r → at + n < 2 ^ 32 → controller_bytes c at n ≡ words c at k ++ zeros r
unfolding words
by_words c at zero r n h is small = ap (controller_bytes c at) (let e : n ≡ r = omega arith in e) ∙ rest_zeros c at r h
by_words c at (suc k) r n h is small =
    let m : ℕ = 4 * k + r in
    let next : (at + 4) % 2 ^ 32 ≡ at + 4 = omega arith in
    ap (controller_bytes c at) (let e : n ≡ suc (suc (suc (suc m))) = omega arith in e)
    ∙ ap (λ (a : ℕ). little_bytes 4 (read_at c at B4) ++ controller_bytes c a m) next
    ∙ ap (λ (xs : List ℕ). little_bytes 4 (read_at c at B4) ++ xs) (by_words c (at + 4) k r m h refl (omega arith))
    ∙ sym (append_assoc (little_bytes 4 (read_at c at B4)) (words c (at + 4) k) (zeros r))
    ∙ ap (λ (xs : List ℕ). xs ++ zeros r) (sym (words_cons c at k))

pub words_none : (c : Controller) (at : ℕ) → words c at 0 ≡ []
unfolding words
words_none c at = refl

pub word_turn : (c : Controller) (at k place : ℕ) (list bytes : List ℕ) → k < 31 → list ≡ filled 124 (words c at k) → place ≡ 4 * k
    → bytes ≡ little_bytes 4 (read_at c (at + 4 * k) B4)
    → take place list ++ (bytes ++ drop (place + length bytes) list) ≡ filled 124 (words c at (k + 1))
unfolding words
word_turn c at k place list bytes h is p b =
    let v : ℕ = read_at c (at + 4 * k) B4 in
    let long : length (words c at k) ≡ 4 * k = length-words c at k in
    let size : length (little_bytes 4 v) ≡ 4 = little_size 4 v in
    ap (λ (l : List ℕ). take place l ++ (bytes ++ drop (place + length bytes) l)) is
    ∙ ap (λ (xs : List ℕ). take place (filled 124 (words c at k)) ++ (xs ++ drop (place + length xs) (filled 124 (words c at k)))) b
    ∙ range_filled 124 (words c at k) (little_bytes 4 v) place (omega arith) (omega arith)
    ∙ ap (λ (n : ℕ). filled 124 (words c at n)) (let e : suc k ≡ k + 1 = omega arith in e)

pub words_are : (c : Controller) (at n : ℕ) → n ≤ 124 → at < 2 ^ 16 → filled 124 (words c at (n / 4)) ≡ filled 124 (controller_bytes c at n)
words_are c at n h small =
    let k : ℕ = n / 4 in
    let r : ℕ = n % 4 in
    let long : length (words c at k) ≡ 4 * k = length-words c at k in
    sym (filled_zeros 124 r (words c at k) (omega arith))
    ∙ ap (filled 124) (sym (by_words c at k r n (omega arith) (omega arith) (omega arith)))
