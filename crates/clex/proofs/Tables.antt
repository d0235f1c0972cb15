-- Looking up in tables of spellings: what every entry has, the entry at the front of a text, and that it is the longest.
use Rattle.std.proofs.Common.{◌≡◌, ℕ, ◌≤◌, Bool, true, false, leb, ◌&&◌, List, [], ◌∷◌, ◌++◌, length, take, drop}
use Rattle.std.proofs.Common.{Some, None, refl, sym, ap, ◌∙◌, subst, arith, inl, inr, nat_eq}
use Rattle.std.specs.List.{list_all, starts_with}
use Rattle.std.specs.Str.{bytes_eq}
use Rattle.std.proofs.lemmas.Bool.{and_parts, and_from, leb-true, le-leb, false_from_ne_true, both_ways}
use Rattle.std.proofs.lemmas.Slice.Eq.{bytes_eq-Decides}
use Rattle.std.proofs.lemmas.List.{take_at, take-append-drop}
use Rattle.csyn.specs.Table.{spelled}
use Rattle.csyn.specs.declared.punctuator.Punctuator.{Punctuator}
use Rattle.clex.specs.Reading.{front_in}
use Rattle.clex.proofs.Choices.{chosen}

same_bytes : (a b : List ℕ) → bytes_eq a b ≡ true → a ≡ b
same_bytes a b = (bytes_eq-Decides a b).0

bytes_same : (a b : List ℕ) → a ≡ b → bytes_eq a b ≡ true
bytes_same a b = (bytes_eq-Decides a b).1

-- what all spellings of a table pass
pub spelling_passes : {K : Type 0} (passes : List ℕ → Bool) (table : List (List ℕ × K)) (bytes : List ℕ) (k : K)
    → list_all (λ e. passes e.0) table ≡ true → spelled table bytes ≡ Some k → passes bytes ≡ true
spelling_passes passes [] bytes k all e = absurd cc
spelling_passes passes (entry ∷ entries) bytes k all e =
    let parts = and_parts (passes entry.0) (list_all (λ e. passes e.0) entries) all in
    elim (chosen (bytes_eq entry.0 bytes) (Some entry.1) (spelled entries bytes) (Some k) e) [
      | inl h ↦ subst (λ (b : List ℕ). passes b ≡ true) (same_bytes entry.0 bytes h.0) parts.0
      | inr h ↦ spelling_passes passes entries bytes k parts.1 h.1
    ]

-- ---- fronts

pub front_from : (text front : List ℕ) → starts_with nat_eq text front ≡ true → text ≡ front ++ drop (length front) text
front_from text front e =
    let taken = same_bytes front (take (length front) text) e in
    sym (ap (λ (t : List ℕ). t ++ drop (length front) text) taken ∙ take-append-drop (length front) text)

pub front_is : (front left : List ℕ) → starts_with nat_eq (front ++ left) front ≡ true
front_is front left = bytes_same front (take (length front) (front ++ left)) (sym (take_at front left (length front) refl))

abbrev Entry : Type 0
Entry = List ℕ × Punctuator

-- no spelling is longer than those before it
abbrev pub is_descending : List Entry → Bool
is_descending [] = true
is_descending (entry ∷ entries) = list_all (λ e. leb (length e.0) (length entry.0)) entries && is_descending entries

-- none stands at the front
pub none_front : (table : List Entry) (text bytes : List ℕ) (p : Punctuator) → front_in table text ≡ None
    → spelled table bytes ≡ Some p → starts_with nat_eq text bytes ≡ false
none_front [] text bytes p none e = absurd cc
none_front (entry ∷ entries) text bytes p none e =
    elim (chosen (starts_with nat_eq text entry.0) (Some entry) (front_in entries text) None none) [
      | inl h ↦ absurd cc
      | inr h ↦ elim (chosen (bytes_eq entry.0 bytes) (Some entry.1) (spelled entries bytes) (Some p) e) [
        | inl k ↦ subst (λ (b : List ℕ). starts_with nat_eq text b ≡ false) (same_bytes entry.0 bytes k.0) h.0
        | inr k ↦ none_front entries text bytes p h.1 k.1
      ]
    ]

-- the entry at the front is a front, by its own spelling
pub record IsEntryAt (table : List Entry) (text : List ℕ) (entry : Entry) : Type 0 where
  pub front : starts_with nat_eq text entry.0 ≡ true
  pub is : spelled table entry.0 ≡ Some entry.1

pub entry_at : (table : List Entry) (text : List ℕ) (found : Entry) → front_in table text ≡ Some found → IsEntryAt table text found
entry_at [] text found e = absurd cc
entry_at (entry ∷ entries) text found e =
    elim (chosen (starts_with nat_eq text entry.0) (Some entry) (front_in entries text) (Some found) e) [
      | inl h ↦ here h.0 h.1
      | inr h ↦ behind h.0 (entry_at entries text found h.1)
    ]
  where
    here : starts_with nat_eq text entry.0 ≡ true → Some entry ≡ Some found → IsEntryAt (entry ∷ entries) text found
    here front is =
        let same : entry ≡ found = cc in
        subst (λ (f : Entry). IsEntryAt (entry ∷ entries) text f) same
        (record { front = front; is = rw (bytes_same entry.0 entry.0 refl) refl })

    behind : starts_with nat_eq text entry.0 ≡ false → IsEntryAt entries text found → IsEntryAt (entry ∷ entries) text found
    behind apart rest =
        let other = false_from_ne_true (bytes_eq entry.0 found.0)
        (λ h. both_ways _ apart (ap (λ (b : List ℕ). starts_with nat_eq text b) (same_bytes entry.0 found.0 h) ∙ rest.front)) in
        record { front = rest.front; is = rw other rest.is }

pub entry_longest : (table : List Entry) (text bytes : List ℕ) (found : Entry) (p : Punctuator) → is_descending table ≡ true
    → front_in table text ≡ Some found
    → spelled table bytes ≡ Some p → starts_with nat_eq text bytes ≡ true → length bytes ≤ length found.0
entry_longest [] text bytes found p order e is front = absurd cc
entry_longest (entry ∷ entries) text bytes found p order e is front =
    let parts = and_parts (list_all (λ e. leb (length e.0) (length entry.0)) entries) (is_descending entries) order in
    elim (chosen (starts_with nat_eq text entry.0) (Some entry) (front_in entries text) (Some found) e) [
      | inl h ↦ here parts.0 h.1
      | inr h ↦ elim (chosen (bytes_eq entry.0 bytes) (Some entry.1) (spelled entries bytes) (Some p) is) [
        | inl k ↦ absurd (both_ways _ h.0 (ap (λ (b : List ℕ). starts_with nat_eq text b) (same_bytes entry.0 bytes k.0) ∙ front))
        | inr k ↦ entry_longest entries text bytes found p parts.1 h.1 k.1 front
      ]
    ]
  where
    here : list_all (λ e. leb (length e.0) (length entry.0)) entries ≡ true → Some entry ≡ Some found → length bytes ≤ length found.0
    here shorter same =
        let own : leb (length entry.0) (length entry.0) ≡ true = le-leb (length entry.0) (length entry.0) (omega arith) in
        let all : list_all (λ e. leb (length e.0) (length entry.0)) (entry ∷ entries) ≡ true = and_from _ _ own shorter in
        let le = leb-true (length bytes) (length entry.0) (spelling_passes (λ b. leb (length b) (length entry.0)) (entry ∷ entries)
        bytes p all is) in
        let eq : entry ≡ found = cc in
        omega (arith, le, ap (λ (f : Entry). length f.0) eq)
