-- The places of the nearest declarations.
use Rattle.std.proofs.Common.{◌≡◌, ℕ, ◌<◌, suc, Bool, true, false, cond, eqb, List, [], ◌∷◌, ◌++◌, map, reverse}
use Rattle.std.proofs.Common.{length, get_or, Option, Some, None, refl, ap, sym, ◌∙◌, arith}
use Rattle.std.proofs.lemmas.List.{reverse-append, reverse-reverse, length-reverse, append_assoc, append-nil}
use Rattle.std.proofs.Math.Seq.{get_or-append_seam}
use Rattle.cscope.specs.Scope.{found}
use Rattle.cscope.specs.Slots.{place_of, IsScope, entries}
use Rattle.cscope.specs.declared.entry.Entry.{Entry}
use Rattle.cscope.specs.declared.slot.Slot.{Slot}

-- ---- one choice

below_cases : (b : Bool) (len at : ℕ) (r : Option ℕ) → cond b (Some len) r ≡ Some at → (r ≡ Some at → at < len) → at < suc len
below_cases true len at r h more = let e : len ≡ at = cc in omega (arith, e)
below_cases false len at r h more = omega (arith, more h)

found_cases : (b : Bool) (len at : ℕ) (r : Option ℕ) (s : Slot) (later : Option Entry) (e : Entry) → cond b (Some len) r ≡ Some at →
    (len ≡ at → s.entry ≡ e) → (r ≡ Some at → later ≡ Some e) → cond b (Some s.entry) later ≡ Some e
found_cases true len at r s later e h here more = let same : len ≡ at = cc in ap Some (here same)
found_cases false len at r s later e h here more = more h

none_cases : (b : Bool) (len : ℕ) (r : Option ℕ) (s : Slot) (later : Option Entry) → cond b (Some len) r ≡ None → (r ≡ None →
    later ≡ None) → cond b (Some s.entry) later ≡ None
none_cases true len r s later h more = cc
none_cases false len r s later h more = more h

-- ---- what a place says, of slots with the nearest first

pub place_below : (n : ℕ) (slots : List Slot) (at : ℕ) → place_of n slots ≡ Some at → at < length slots
place_below n [] at h = cc
place_below n (s ∷ rest) at h = below_cases (eqb s.entry.name.0 n) (length rest) at (place_of n rest) h (place_below n rest at)

pub place_none : (n : ℕ) (slots : List Slot) → place_of n slots ≡ None → found n (map (λ s. s.entry) slots) ≡ None
place_none n [] h = refl
place_none n (s ∷ rest) h =
    none_cases (eqb s.entry.name.0 n) (length rest) (place_of n rest) s (found n (map (λ t. t.entry) rest)) h (place_none n rest)

-- with the slots of the stack that are nearer
pub place_found : (n : ℕ) (slots : List Slot) (at : ℕ) (d : Slot) (nearer : List Slot) → place_of n slots ≡ Some at →
    found n (map (λ s. s.entry) slots) ≡ Some (get_or (reverse slots ++ nearer) at d).entry
place_found n [] at d nearer h = cc
place_found n (s ∷ rest) at d nearer h =
    let all : reverse (s ∷ rest) ++ nearer ≡ reverse rest ++ (s ∷ nearer) =
    ap (λ xs. xs ++ nearer) (reverse-append (s ∷ []) rest) ∙ append_assoc (reverse rest) (s ∷ []) nearer in
    let here : length rest ≡ at → s.entry ≡ (get_or (reverse rest ++ (s ∷ nearer)) at d).entry =
    λ e. sym (ap (λ t. t.entry) (ap (λ k. get_or (reverse rest ++ (s ∷ nearer)) k d) (sym e ∙ sym (length-reverse rest))
    ∙ get_or-append_seam (reverse rest) s nearer d)) in
    rw all (found_cases (eqb s.entry.name.0 n) (length rest) at (place_of n rest) s (found n (map (λ t. t.entry) rest)) _ h here
    (place_found n rest at d (s ∷ nearer)))

-- ---- the stack

pub at_below : (slots : List Slot) (nearest : List (Option ℕ)) (n at : ℕ) → IsScope slots nearest → n < length nearest →
    get_or nearest n None ≡ Some at → at < length slots
at_below slots nearest n at h p e = omega (arith, place_below n (reverse slots) at (sym (h.places n p) ∙ e), length-reverse slots)

pub found_at : (slots : List Slot) (nearest : List (Option ℕ)) (n at : ℕ) (d : Slot) → IsScope slots nearest → n < length nearest →
    get_or nearest n None ≡ Some at → found n (entries slots) ≡ Some (get_or slots at d).entry
found_at slots nearest n at d h p e =
    place_found n (reverse slots) at d [] (sym (h.places n p) ∙ e) ∙ ap (λ xs. Some (get_or xs at d).entry) (append-nil (reverse
    (reverse slots)) ∙ reverse-reverse slots)

pub found_none : (slots : List Slot) (nearest : List (Option ℕ)) (n : ℕ) → IsScope slots nearest → n < length nearest →
    get_or nearest n None ≡ None → found n (entries slots) ≡ None
found_none slots nearest n h p e = place_none n (reverse slots) (sym (h.places n p) ∙ e)
