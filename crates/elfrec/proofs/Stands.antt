-- A text at a place in bytes, and its parts.
use Rattle.std.proofs.Common.{◌≡◌, ℕ, ◌+◌, ◌<◌, ◌≤◌, List, ◌++◌, length, take, drop, refl, sym, ap, ◌∙◌, arith, inl, inr}
use Rattle.std.proofs.lemmas.Bool.{cases_lt}
use Rattle.std.proofs.lemmas.List.{length-append, length-take, length-drop, take-take, take_at, drop-take, drop-drop, drop_at}
use Rattle.std.proofs.lemmas.List.{take-append-drop, take_all, get_or-drop, get_or-take, get_or_past}
use Rattle.elfrec.specs.Record.{IsBytes}

-- the text stands in the bytes at the place
abbrev pub TextStands : List ℕ → ℕ → List ℕ → Type 0
TextStands bytes at text = take (length text) (drop at bytes) ≡ text

pub IsBytes-drop : (n : ℕ) (bytes : List ℕ) → IsBytes bytes → IsBytes (drop n bytes)
IsBytes-drop n bytes h i = rw get_or-drop (h (n + i))

pub IsBytes-take : (n : ℕ) (bytes : List ℕ) → IsBytes bytes → IsBytes (take n bytes)
IsBytes-take n bytes h i =
    elim (cases_lt i n) [
      | inl lt ↦ rw (get_or-take n bytes i 0 lt) (h i)
      | inr le ↦ rw (get_or_past (take n bytes) i 0 (omega (arith, length-take n bytes))) (omega arith)
    ]

pub stands_within : (bytes : List ℕ) (at : ℕ) (text : List ℕ) → TextStands bytes at text → 0 < length text → at + length text ≤ length bytes
stands_within bytes at text h pos = omega (arith, ap length h, length-take (length text) (drop at bytes), length-drop at bytes)

pub stands_front : (bytes : List ℕ) (at : ℕ) (x y : List ℕ) → TextStands bytes at (x ++ y) → TextStands bytes at x
stands_front bytes at x y h =
    let e : take (length x) (take (length (x ++ y)) (drop at bytes)) ≡ take (length x) (drop at bytes) =
    take-take (length x) (length (x ++ y)) (drop at bytes) (omega (arith, length-append x y)) in
    sym e ∙ ap (take (length x)) h ∙ take_at x y (length x) refl

pub stands_back : (bytes : List ℕ) (at : ℕ) (x y : List ℕ) → TextStands bytes at (x ++ y) → TextStands bytes (at + length x) y
stands_back bytes at x y h =
    let h' : take (length x + length y) (drop at bytes) ≡ x ++ y = ap (λ (n : ℕ). take n (drop at bytes)) (sym (length-append x y)) ∙ h in
    ap (take (length y)) (sym (drop-drop (length x) at bytes)) ∙ sym (drop-take (length x) (length y) (drop at bytes))
    ∙ ap (drop (length x)) h' ∙ drop_at x y (length x) refl

pub take_add : (m n : ℕ) (l : List ℕ) → take (m + n) l ≡ take m l ++ take n (drop m l)
take_add m n l =
    sym (take-append-drop m (take (m + n) l)) ∙ ap (λ (t : List ℕ). t ++ drop m (take (m + n) l))
    (take-take m (m + n) l (omega arith)) ∙ ap (λ (t : List ℕ). take m l ++ t) (drop-take m n l)

pub stands_both : (bytes : List ℕ) (at : ℕ) (x y : List ℕ) → TextStands bytes at x → TextStands bytes (at + length x) y
    → TextStands bytes at (x ++ y)
stands_both bytes at x y hx hy =
    ap (λ (n : ℕ). take n (drop at bytes)) (length-append x y) ∙ take_add (length x) (length y) (drop at bytes)
    ∙ ap (λ (t : List ℕ). t ++ take (length y) (drop (length x) (drop at bytes))) hx
    ∙ ap (λ (t : List ℕ). x ++ t) (ap (take (length y)) (drop-drop (length x) at bytes) ∙ hy)

-- a text that is all of the bytes
pub stands_whole : (text : List ℕ) → TextStands text 0 text
stands_whole text = take_all (length text) text (omega arith)

pub whole_stands : (bytes text : List ℕ) → length text ≡ length bytes → TextStands bytes 0 text → text ≡ bytes
whole_stands bytes text e h = sym h ∙ take_all (length text) bytes (omega arith)

-- what stands in a part of the bytes stands in them
pub stands_in_part : (bytes : List ℕ) (at size : ℕ) (text : List ℕ) → length text ≡ size → take size (drop at bytes) ≡ text
    → TextStands bytes at text
stands_in_part bytes at size text e h = ap (λ (n : ℕ). take n (drop at bytes)) e ∙ h
