-- Parts that are put at their places one after the other stand there in the end.
use Rattle.std.proofs.Common.{◌≡◌, ◌≢◌, ℕ, zero, suc, ◌+◌, ◌<◌, ◌≤◌, cond, eqb, List, [], ◌∷◌, ◌++◌, length, get_or, set, take}
use Rattle.std.proofs.Common.{drop, sym, subst, ◌∙◌, arith, inl, inr, get_or-set_other, get_or-set_same, below_more}
use Rattle.std.specs.List.{AllByRecursion}
use Rattle.std.proofs.lemmas.Bool.{cases_lt, cond-false, ne_eqb}
use Rattle.std.proofs.lemmas.List.{ext_get_or, get_or-take, get_or-drop, length-take, length-drop}
use Rattle.elfrec.specs.declared.file.Part.{Part}
use Rattle.elfrec.specs.File.{Stands, Covers, AreApart, end_of, IsLaidOut}

-- the first n bytes of the part are put, and the file is as it was elsewhere
pub record IsPut (p : Part) (n : ℕ) (before after : List ℕ) : Type 0 where
  pub inside : (k : ℕ) → k < n → get_or after (p.offset + k) 0 ≡ get_or p.bytes k 0
  pub outside : (i : ℕ) → (Covers p i → ⊥) → get_or after i 0 ≡ get_or before i 0

pub put_more : (p : Part) (n : ℕ) (before after : List ℕ) (byte : ℕ) → n < length p.bytes → p.offset + n < length after
    → byte ≡ get_or p.bytes n 0
    → IsPut p n before after → IsPut p (n + 1) before (set after (p.offset + n) byte)
put_more p n before after byte lt within e put = record {
  inside = below_more _ _
      (λ k below. let ne : p.offset + k ≢ p.offset + n = omega arith in
      get_or-set_other after (p.offset + n) (p.offset + k) byte 0 ne ∙ put.inside k below)
      (get_or-set_same after (p.offset + n) byte 0 within ∙ e);
  outside = λ i free. let ne : i ≢ p.offset + n = λ same. free (omega arith, omega arith) in
      get_or-set_other after (p.offset + n) i byte 0 ne ∙ put.outside i free;
}

-- the part stands in the file, byte by byte
abbrev pub StandsIn : List ℕ → Part → Type 0
StandsIn file p = (k : ℕ) → k < length p.bytes → get_or file (p.offset + k) 0 ≡ get_or p.bytes k 0

-- these parts are put, and nothing else
pub record ArePut (ps : List Part) (file : List ℕ) : Type 0 where
  pub stand : AllByRecursion (StandsIn file) ps
  pub zeros : (i : ℕ) → AllByRecursion (λ p. ¬ Covers p i) ps → get_or file i 0 ≡ 0

-- the part has no byte in common with any of these
abbrev pub IsApartFrom : Part → List Part → Type 0
IsApartFrom p qs = AllByRecursion (λ q. (i : ℕ) → Covers q i → Covers p i → ⊥) qs

pub all_push : {X : Type 0} (P : X → Type 0) (xs : List X) (x : X) → AllByRecursion P xs → P x → AllByRecursion P (xs ++ x ∷ [])
all_push P [] x all last = (last, tt)
all_push P (y ∷ xs) x all last = (all.0, all_push P xs x all.1 last)

all_front : {X : Type 0} (P : X → Type 0) (xs : List X) (x : X) → AllByRecursion P (xs ++ x ∷ []) → AllByRecursion P xs
all_front P [] x all = tt
all_front P (y ∷ xs) x all = (all.0, all_front P xs x all.1)

all_last : {X : Type 0} (P : X → Type 0) (xs : List X) (x : X) → AllByRecursion P (xs ++ x ∷ []) → P x
all_last P [] x all = all.0
all_last P (y ∷ xs) x all = all_last P xs x all.1

-- parts apart from one that is put still stand
still_stand : (qs : List Part) (p : Part) (before after : List ℕ) → IsApartFrom p qs → IsPut p (length p.bytes) before after
    → AllByRecursion (StandsIn before) qs → AllByRecursion (StandsIn after) qs
still_stand [] p before after apart put all = tt
still_stand (q ∷ qs) p before after apart put all = (
  λ k lt. put.outside (q.offset + k) (apart.0 (q.offset + k) (omega arith, omega arith))
      ∙ all.0 k lt,
  still_stand qs p before after apart.1 put all.1,
)

pub put_one : (qs : List Part) (p : Part) (before after : List ℕ) → IsApartFrom p qs → IsPut p (length p.bytes) before after
    → ArePut qs before → ArePut (qs ++ p ∷ []) after
put_one qs p before after apart put are = record {
  stand = all_push (StandsIn after) qs p (still_stand qs p before after apart put are.stand) put.inside;
  zeros = λ i free. put.outside i (all_last (λ q. ¬ Covers q i) qs p free) ∙ are.zeros i (all_front (λ q. ¬ Covers q i) qs p free);
}

apart_head : (ps : List Part) (i : ℕ) (p q : Part) → i < length ps → p ≡ get_or ps i p
    → AllByRecursion (λ r. (j : ℕ) → Covers q j → Covers r j → ⊥) ps → (j : ℕ) → Covers q j → Covers p j → ⊥
apart_head [] i p q lt e all j = absurd (omega arith)
apart_head (r ∷ ps) zero p q lt e all j = subst (λ (x : Part). Covers q j → Covers x j → ⊥) (sym e) (all.0 j)
apart_head (r ∷ ps) (suc i) p q lt e all j = apart_head ps i p q (omega arith) e all.1 j

-- a part is apart from those before it
pub apart_before : (ps : List Part) (i : ℕ) (p : Part) → i < length ps → p ≡ get_or ps i p → AreApart ps → IsApartFrom p (take i ps)
apart_before [] i p lt e apart = absurd (omega arith)
apart_before (q ∷ ps) zero p lt e apart = tt
apart_before (q ∷ ps) (suc i) p lt e apart = (apart_head ps i p q (omega arith) e apart.0, apart_before ps i p (omega arith) e apart.1)

not_empty : (n x : ℕ) → 0 < n → cond (eqb n 0) 0 x ≡ x
not_empty n x lt = cond-false (eqb n 0) 0 x (ne_eqb n 0 (λ e. omega arith))

-- a part ends where the last one does, or before
pub within_end : (ps : List Part) (i : ℕ) (p : Part) → i < length ps → p ≡ get_or ps i p → 0 < length p.bytes
    → p.offset + length p.bytes ≤ end_of ps
within_end [] i p lt e pos = absurd (omega arith)
within_end (q ∷ ps) zero p lt e pos =
    let pos' : 0 < length q.bytes = subst (λ (r : Part). 0 < length r.bytes) e pos in
    let here : q.offset + length q.bytes ≤ end_of (q ∷ ps) = omega (arith, not_empty (length q.bytes) (q.offset + length q.bytes) pos') in
    subst (λ (r : Part). r.offset + length r.bytes ≤ end_of (q ∷ ps)) (sym e) here
within_end (q ∷ ps) (suc i) p lt e pos = omega (arith, within_end ps i p (omega arith) e pos)

stands_from : (p : Part) (file : List ℕ) → (0 < length p.bytes → p.offset + length p.bytes ≤ length file) → StandsIn file p → Stands file p
stands_from p file within stands =
    let text : List ℕ = take (length p.bytes) (drop p.offset file) in
    let long : length text ≡ length p.bytes = elim (cases_lt 0 (length p.bytes)) [
      | inl pos ↦ omega (arith, within pos, length-take (length p.bytes) (drop p.offset file), length-drop p.offset file)
      | inr none ↦ omega (arith, length-take (length p.bytes) (drop p.offset file))
    ] in
    ext_get_or 0 text p.bytes long (λ i lt.
    let below : i < length p.bytes = omega arith in
    get_or-take (length p.bytes) (drop p.offset file) i 0 below ∙ get_or-drop p.offset file i 0 ∙ stands i below)

each_within : (ps : List Part) (size : ℕ) → end_of ps ≤ size
    → AllByRecursion (λ p. 0 < length p.bytes → p.offset + length p.bytes ≤ size) ps
each_within [] size le = tt
each_within (p ∷ ps) size le =
    (λ pos. omega (arith, not_empty (length p.bytes) (p.offset + length p.bytes) pos), each_within ps size (omega arith))

all_stand : (ps : List Part) (file : List ℕ) → AllByRecursion (λ p. 0 < length p.bytes → p.offset + length p.bytes ≤ length file) ps
    → AllByRecursion (StandsIn file) ps → AllByRecursion (Stands file) ps
all_stand [] file within all = tt
all_stand (p ∷ ps) file within all = (stands_from p file within.0 all.0, all_stand ps file within.1 all.1)

pub laid_out : (ps : List Part) (file : List ℕ) → length file ≡ end_of ps → ArePut ps file → IsLaidOut ps file
laid_out ps file end are = record {
  stands = all_stand ps file (each_within ps (length file) (omega arith)) are.stand;
  zeros = are.zeros;
  end = end;
}
