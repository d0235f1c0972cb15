-- What marking functions does to the marks, and to the functions that wait.
use Rattle.std.proofs.Common.{◌≡◌, ℕ, ◌+◌, ◌<◌, ◌⊎◌, inl, inr, Bool, true, false, List, [], ◌∷◌, ◌++◌, length, get_or, set, sum_by}
use Rattle.std.proofs.Common.{refl, sym, ap, ◌∙◌, subst, arith, length-append, length-set, replicate, take}
use Rattle.std.specs.Prelude.{Contains}
use Rattle.std.proofs.lemmas.Bool.{cases_eq, cases_lt, false≢true}
use Rattle.std.proofs.lemmas.List.{get_or-set_same, get_or-set_other, get_or_past, get_or-replicate, take_more}
use Rattle.std.proofs.lemmas.List.Elements.{Contains-append_left, Contains-push, Contains-push_cases}
use Rattle.std.proofs.lemmas.List.Sums.{sum_by-set}
use Rattle.std.proofs.lemmas.List.{length-replicate}
use Rattle.callcycle.specs.declared.call.Call.{Call}
use Rattle.callcycle.specs.Search.{IsMarked, waits, left, IsTaken, AreTaken}

pub marked-within : (m : List Bool) (g : ℕ) → IsMarked m g → g < length m
marked-within m g k = elim (cases_lt g (length m)) [
  | inl l ↦ l
  | inr past ↦ absurd (false≢true (sym (get_or_past m g false past) ∙ k))
]

mark-same : (m : List Bool) (f : ℕ) → f < length m → IsMarked (set m f true) f
mark-same m f within = get_or-set_same m f true false within

mark-kept : (m : List Bool) (f g : ℕ) → f < length m → IsMarked m g → IsMarked (set m f true) g
mark-kept m f g within k = elim (cases_eq g f) [
  | inl e ↦ subst (IsMarked (set m f true)) (sym e) (mark-same m f within)
  | inr other ↦ get_or-set_other m f g true false other ∙ k
]

mark-cases : (m : List Bool) (f g : ℕ) → IsMarked (set m f true) g → IsMarked m g ⊎ (f ≡ g)
mark-cases m f g k = elim (cases_eq g f) [
  | inl e ↦ inr (sym e)
  | inr other ↦ inl (sym (get_or-set_other m f g true false other) ∙ k)
]

mark-paid : (m : List Bool) (w : List ℕ) (f : ℕ) → f < length m → get_or m f false ≡ false
    → left (set m f true) (w ++ f ∷ []) ≡ left m w
mark-paid m w f within free =
    let all : sum_by waits (set m f true) + waits (get_or m f false) ≡ sum_by waits m + 0 = sum_by-set waits m f true false within in
    let one : waits (get_or m f false) ≡ 1 = ap waits free in
    let more : length (w ++ f ∷ []) ≡ length w + 1 = length-append w (f ∷ []) in
    omega (arith, all, one, more)

pub none-taken : (m : List Bool) (w : List ℕ) → AreTaken [] m m w w
none-taken m w = record {
  same = refl;
  kept = λ g k. k;
  callees = λ c k b. absurd (omega (arith, k.1));
  found = λ g k. inl k;
  waiting = λ g k. k;
  marked = λ g k. inl k;
  paid = refl;
}

taken-kept : (cs : List Call) (c : Call) (m0 m : List Bool) (w0 w : List ℕ) → AreTaken cs m0 m w0 w
    → (c.callee < length m → IsMarked m c.callee) → AreTaken (cs ++ c ∷ []) m0 m w0 w
taken-kept cs c m0 m w0 w t here = record {
  same = t.same;
  kept = t.kept;
  callees = λ d k b. elim (Contains-push_cases cs c d k) [
    | inl before ↦ t.callees d before b
    | inr e ↦ subst (λ (x : Call). x.callee < length m0 → IsMarked m x.callee) e (λ b'. here (omega (arith, t.same, b'))) b
  ];
  found = λ g k. elim (t.found g k) [
    | inl old ↦ inl old
    | inr new ↦ inr ((new.0.0, Contains-append_left cs (c ∷ []) new.0.0 new.0.1, new.0.2), new.1)
  ];
  waiting = t.waiting;
  marked = t.marked;
  paid = t.paid;
}

taken-new : (cs : List Call) (c : Call) (m0 m : List Bool) (w0 w : List ℕ) → AreTaken cs m0 m w0 w
    → c.callee < length m → get_or m c.callee false ≡ false
    → AreTaken (cs ++ c ∷ []) m0 (set m c.callee true) w0 (w ++ c.callee ∷ [])
taken-new cs c m0 m w0 w t within free =
    let f = c.callee in
    record {
      same = length-set m f true ∙ t.same;
      kept = λ g k. mark-kept m f g within (t.kept g k);
      callees = λ d k b. elim (Contains-push_cases cs c d k) [
        | inl before ↦ mark-kept m f d.callee within (t.callees d before b)
        | inr e ↦ subst (λ (x : Call). IsMarked (set m f true) x.callee) e (mark-same m f within)
      ];
      found = λ g k. elim (mark-cases m f g k) [
        | inl old ↦ elim (t.found g old) [
          | inl first ↦ inl first
          | inr new ↦ inr ((new.0.0, Contains-append_left cs (c ∷ []) new.0.0 new.0.1, new.0.2), Contains-append_left w (f ∷ []) g new.1)
        ]
        | inr e ↦ inr ((c, Contains-push cs c, e), subst (Contains (w ++ f ∷ [])) e (Contains-push w f))
      ];
      waiting = λ g k. Contains-append_left w (f ∷ []) g (t.waiting g k);
      marked = λ g k. elim (Contains-push_cases w f g k) [
        | inl before ↦ elim (t.marked g before) [
          | inl first ↦ inl first
          | inr old ↦ inr (mark-kept m f g within old)
        ]
        | inr e ↦ inr (subst (IsMarked (set m f true)) e (mark-same m f within))
      ];
      paid = mark-paid m w f within free ∙ t.paid;
    }

pub taken-more : (cs : List Call) (c : Call) (m0 m m' : List Bool) (w0 w w' : List ℕ) → AreTaken cs m0 m w0 w
    → IsTaken c.callee m m' w w' → AreTaken (cs ++ c ∷ []) m0 m' w0 w'
taken-more cs c m0 m m' w0 w w' t (inl same) =
    subst (λ (x : List Bool). AreTaken (cs ++ c ∷ []) m0 x w0 w') (sym same.1)
    (subst (AreTaken (cs ++ c ∷ []) m0 m w0) (sym same.2) (taken-kept cs c m0 m w0 w t same.0))
taken-more cs c m0 m m' w0 w w' t (inr new) =
    subst (λ (x : List Bool). AreTaken (cs ++ c ∷ []) m0 x w0 w') (sym new.2)
    (subst (AreTaken (cs ++ c ∷ []) m0 (set m c.callee true) w0) (sym new.3) (taken-new cs c m0 m w0 w t new.0 new.1))

-- ---- the first function alone

pub record IsBegun (f : ℕ) (m : List Bool) (w : List ℕ) : Type 0 where
  pub here : f < length m → IsMarked m f
  pub alone : (g : ℕ) → IsMarked m g → (f ≡ g) × Contains w g
  pub marked : (g : ℕ) → Contains w g → IsMarked m g

begun-kept : (f : ℕ) (m : List Bool) (w : List ℕ) → ((g : ℕ) → IsMarked m g → ⊥) → w ≡ [] → (f < length m → IsMarked m f) → IsBegun f m w
begun-kept f m w free none here = record {
  here = here;
  alone = λ g k. absurd (free g k);
  marked = λ g k. absurd (omega (arith, k.1, ap length none));
}

begun-new : (f : ℕ) (m : List Bool) → ((g : ℕ) → IsMarked m g → ⊥) → f < length m → IsBegun f (set m f true) (f ∷ [])
begun-new f m free within = record {
  here = λ b. mark-same m f within;
  alone = λ g k. elim (mark-cases m f g k) [
    | inl old ↦ absurd (free g old)
    | inr e ↦ (e, subst (Contains (f ∷ [])) e (Contains-push [] f))
  ];
  marked = λ g k. elim (Contains-push_cases [] f g k) [
    | inl none ↦ absurd (omega (arith, none.1))
    | inr e ↦ subst (IsMarked (set m f true)) e (mark-same m f within)
  ];
}

pub begun : (f : ℕ) (m m' : List Bool) (w w' : List ℕ) → ((g : ℕ) → IsMarked m g → ⊥) → w ≡ [] → IsTaken f m m' w w' → IsBegun f m' w'
begun f m m' w w' free none (inl same) =
    subst (λ (x : List Bool). IsBegun f x w') (sym same.1) (begun-kept f m w' free (same.2 ∙ none) same.0)
begun f m m' w w' free none (inr new) =
    subst (λ (x : List Bool). IsBegun f x w') (sym new.2)
    (subst (IsBegun f (set m f true)) (sym (new.3 ∙ ap (λ (x : List ℕ). x ++ f ∷ []) none)) (begun-new f m free new.0))

unmarked : (n g : ℕ) → IsMarked (replicate n false) g → ⊥
unmarked n g k = elim (cases_lt g n) [
  | inl l ↦ false≢true (sym (get_or-replicate n g false false l) ∙ k)
  | inr past ↦ false≢true (sym (get_or_past (replicate n false) g false (omega (arith, past, length-replicate n false))) ∙ k)
]

pub begun-from_none : (f n : ℕ) (m0 m : List Bool) (w0 w : List ℕ) → m0 ≡ replicate n false → w0 ≡ [] → IsTaken f m0 m w0 w
    → IsBegun f m w
begun-from_none f n m0 m w0 w marks none t =
    begun f m0 m w0 w (λ g k. unmarked n g (subst (λ (x : List Bool). IsMarked x g) marks k)) none t

pub length-taken : (f : ℕ) (m m' : List Bool) (w w' : List ℕ) → IsTaken f m m' w w' → length m' ≡ length m
length-taken f m m' w w' (inl same) = ap length same.1
length-taken f m m' w w' (inr new) = ap length new.2 ∙ length-set m f true

pub taken-at : (cs : List Call) (i : ℕ) (d : Call) (m0 m m' : List Bool) (w0 w w' : List ℕ) → i < length cs
    → AreTaken (take i cs) m0 m w0 w → IsTaken (get_or cs i d).callee m m' w w' → AreTaken (take (i + 1) cs) m0 m' w0 w'
taken-at cs i d m0 m m' w0 w w' within t one =
    subst (λ (x : List Call). AreTaken x m0 m' w0 w') (sym (take_more cs i d within))
    (taken-more (take i cs) (get_or cs i d) m0 m m' w0 w w' t one)
