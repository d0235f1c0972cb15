-- Bytes put into a memory one by one are a range of it.
use Rattle.std.proofs.Common.{◌≡◌, ℕ, zero, suc, ◌+◌, ◌-◌, ◌<◌, ◌≤◌, List, [], ◌∷◌, ◌++◌, length, take}
use Rattle.std.proofs.Common.{drop, refl, sym, ap, ◌∙◌, arith, inl, inr, append_assoc}
use Rattle.std.specs.Prelude.{slice_set}
use Rattle.std.proofs.Math.ListN.{drop_of_length-le, set}
use Rattle.std.proofs.Math.Seq.{take-suc-set, set_out, take-length}
use Rattle.std.proofs.lemmas.Bool.{cases_lt}
use Rattle.std.proofs.lemmas.List.{length-set, drop-set-lt, take-append-drop, append-nil, take_more_set}
use Rattle.twocore.specs.Memory.{put}

pub put_size : (memory : List ℕ) (at : ℕ) (bytes : List ℕ) → length (put memory at bytes) ≡ length memory
put_size memory at [] = refl
put_size memory at (b ∷ bytes) = put_size (slice_set memory at b) (at + 1) bytes ∙ length-set memory at b

pub put_out : (memory : List ℕ) (at : ℕ) (bytes : List ℕ) → length memory ≤ at → put memory at bytes ≡ memory
put_out memory at [] h = refl
put_out memory at (b ∷ bytes) h =
    ap (λ (m : List ℕ). put m (at + 1) bytes) (set_out memory at b h) ∙ put_out memory (at + 1) bytes (omega arith)

-- what is put at a place in the memory
abbrev ranged : List ℕ → ℕ → List ℕ → List ℕ
ranged memory at kept = take at memory ++ (kept ++ drop (at + length kept) memory)

take_suc_zero : (bytes : List ℕ) (b n : ℕ) → n ≡ 1 → take n (b ∷ bytes) ≡ b ∷ []
take_suc_zero bytes b n e = ap (λ (k : ℕ). take k (b ∷ bytes)) e

take_suc : (bytes : List ℕ) (b n m : ℕ) → n ≡ suc m → take n (b ∷ bytes) ≡ b ∷ take m bytes
take_suc bytes b n m e = ap (λ (k : ℕ). take k (b ∷ bytes)) e

pub put_range : (memory : List ℕ) (at : ℕ) (bytes : List ℕ) → at < length memory
    → put memory at bytes ≡ ranged memory at (take (length memory - at) bytes)
put_range memory at [] h =
    let none : ◌≡◌ {A = List ℕ} (take (length memory - at) []) [] = nothing (length memory - at) in
    sym (take-append-drop at memory)
    ∙ ap (λ (n : ℕ). take at memory ++ ([] ++ drop n memory)) (let e : at ≡ at + 0 = omega arith in e)
    ∙ ap (ranged memory at) (sym none)
  where
    nothing : (n : ℕ) → ◌≡◌ {A = List ℕ} (take n []) []
    nothing zero = refl
    nothing (suc n) = refl
put_range memory at (b ∷ bytes) h =
    elim (cases_lt (at + 1) (length memory)) [
      | inl more ↦
          let memory' : List ℕ = slice_set memory at b in
          let long : length memory' ≡ length memory = length-set memory at b in
          let rest : List ℕ = take (length memory' - (at + 1)) bytes in
          let kept : take (length memory - at) (b ∷ bytes) ≡ b ∷ rest =
          take_suc bytes b (length memory - at) (length memory' - (at + 1)) (omega arith) in
          let front : take (at + 1) memory' ≡ take at memory ++ b ∷ [] =
          ap (λ (n : ℕ). take n memory') (let e : at + 1 ≡ suc at = omega arith in e) ∙ take-suc-set memory at b h in
          let back : drop (at + 1 + length rest) memory' ≡ drop (at + length (b ∷ rest)) memory =
          drop-set-lt (at + 1 + length rest) memory at b (omega arith)
          ∙ ap (λ (n : ℕ). drop n memory) (let e : at + 1 + length rest ≡ at + length (b ∷ rest) = omega arith in e) in
          put_range memory' (at + 1) bytes (omega arith)
          ∙ ap (λ (xs : List ℕ). xs ++ (rest ++ drop (at + 1 + length rest) memory')) front
          ∙ ap (λ (xs : List ℕ). (take at memory ++ b ∷ []) ++ (rest ++ xs)) back
          ∙ append_assoc (take at memory) (b ∷ []) (rest ++ drop (at + length (b ∷ rest)) memory)
          ∙ ap (ranged memory at) (sym kept)
      | inr last ↦
          let memory' : List ℕ = slice_set memory at b in
          let long : length memory' ≡ length memory = length-set memory at b in
          let kept : take (length memory - at) (b ∷ bytes) ≡ b ∷ [] = take_suc_zero bytes b (length memory - at) (omega arith) in
          let whole : memory' ≡ take at memory ++ b ∷ [] =
          sym (take-length memory') ∙ ap (λ (n : ℕ). take n memory') (let e : length memory' ≡ suc at = omega arith in e)
          ∙ take-suc-set memory at b h in
          let none : drop (at + length (b ∷ [])) memory ≡ [] = drop_of_length-le memory (omega arith) in
          put_out memory' (at + 1) bytes (omega arith) ∙ whole
          ∙ ap (λ (xs : List ℕ). take at memory ++ (b ∷ xs)) (sym none)
          ∙ ap (ranged memory at) (sym kept)
    ]

-- as the code writes it
pub put_is : (memory : List ℕ) (at : ℕ) (bytes kept after : List ℕ) → at < length memory → kept ≡ take (length memory - at) bytes
    → after ≡ ranged memory at kept → after ≡ put memory at bytes
put_is memory at bytes kept after h is wrote =
    wrote ∙ ap (ranged memory at) is ∙ sym (put_range memory at bytes h)
