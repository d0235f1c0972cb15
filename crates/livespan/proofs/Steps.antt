-- Goals, loops and starts, operation by operation.
use Rattle.std.proofs.Common.{◌≡◌, ℕ, ◌+◌, ◌<◌, ◌≤◌, inl, inr, List, [], ◌∷◌, ◌++◌, length, sym, ap, ◌∙◌, subst}
use Rattle.std.proofs.Common.{arith, Option, Some, None, leb-true, leb-false}
use Rattle.std.specs.Prelude.{slice_get, nat_le}
use Rattle.std.proofs.lemmas.Bool.{cases_lt, cases_eq, cases_Bool, cond-true, cond-false}
use Rattle.std.proofs.lemmas.Option.{same_Some, none-some, slice_get_within}
use Rattle.midcode.specs.declared.register.Label.{Label}
use Rattle.midcode.specs.declared.op.OpKind.{OpKind}
use Rattle.midcode.specs.Operation.{label_of, target_of}
use Rattle.subreg.specs.Span.{Stands}
use Rattle.subreg.proofs.Elements.{get-push_front, get-push_last}
use Rattle.livespan.specs.declared.area.Area.{Area}
use Rattle.livespan.specs.Live.{ArePlaces, GoesBack, AreLoops, IsPlain, goal_at, goal_in, with_loop, start_at}
use Rattle.livespan.proofs.Goes.{goal-is}
use Rattle.livespan.proofs.Listing.{push-cases, push-old}

-- ---- goals

pub goals-more : (ks : List OpKind) (places : List ℕ) (goals : List (Option ℕ)) (i : ℕ) (k : OpKind) (g : Option ℕ) → Stands ks i k
    → ArePlaces ks places → ((l : Label) → target_of k ≡ Some l → l.0 < length places) → g ≡ goal_in places (target_of k)
    → length goals ≡ i
    → ((p : ℕ) (j : OpKind) → p < i → Stands ks p j → slice_get goals p ≡ Some (goal_at ks (target_of j)))
    → (p : ℕ) (j : OpKind) → p < i + 1 → Stands ks p j → slice_get (goals ++ g ∷ []) p ≡ Some (goal_at ks (target_of j))
goals-more ks places goals i k g stands are named is len below p j less at =
    elim (cases_lt p i) [
      | inl before ↦ get-push_front goals p g (omega (arith, before, len)) ∙ below p j before at
      | inr behind ↦
          let here : p ≡ i = omega (arith, behind, less) in
          let same : j ≡ k = same_Some j k (sym at ∙ ap (slice_get ks) here ∙ stands) in
          ap (slice_get (goals ++ g ∷ [])) (here ∙ sym len) ∙ get-push_last goals g ∙
          ap Some (is ∙ goal-is ks places (target_of k) are named ∙ ap (λ x. goal_at ks (target_of x)) (sym same))
    ]

-- ---- loops

pub record LoopsBelow (goals : List (Option ℕ)) (loops : List Area) (i : ℕ) : Type 0 where
  pub sound : (n : ℕ) (a : Area) → slice_get loops n ≡ Some a → GoesBack goals a
  pub whole : (a : Area) → GoesBack goals a → a.last < i → (n : ℕ) × (slice_get loops n ≡ Some a)

pub loops-none : (goals : List (Option ℕ)) → LoopsBelow goals [] 0
loops-none goals = record {
  sound = λ n a at. absurd (none-some a at);
  whole = λ a turn below. absurd (omega (arith, below));
}

-- no loop ends here
loops-same : (goals : List (Option ℕ)) (loops : List Area) (i : ℕ) → ((a : Area) → GoesBack goals a → a.last ≡ i → ⊥)
    → LoopsBelow goals loops i → LoopsBelow goals loops (i + 1)
loops-same goals loops i none are = record {
  sound = are.sound;
  whole = λ a turn below.
      elim (cases_eq a.last i) [
        | inl same ↦ absurd (none a turn same)
        | inr other ↦ are.whole a turn (omega (arith, below, other))
      ];
}

same-goal : (goals : List (Option ℕ)) (i : ℕ) (o : Option ℕ) (a : Area) → slice_get goals i ≡ Some o → GoesBack goals a → a.last ≡ i
    → o ≡ Some a.first
same-goal goals i o a at turn same = same_Some o (Some a.first) (sym at ∙ ap (slice_get goals) (sym same) ∙ turn.goes)

loops-push : (goals : List (Option ℕ)) (loops : List Area) (i first : ℕ) → slice_get goals i ≡ Some (Some first) → first ≤ i
    → LoopsBelow goals loops i → LoopsBelow goals (loops ++ record { first = first; last = i } ∷ []) (i + 1)
loops-push goals loops i first at back are =
    let new : Area = record { first = first; last = i } in
    record {
      sound = λ n a there.
          elim (push-cases loops new n a there) [
            | inl old ↦ are.sound n a old
            | inr last ↦
                let P : Area → Type 0 = λ x. GoesBack goals x in
                subst P last.1 (record { back = back; goes = at })
          ];
      whole = λ a turn below.
          elim (cases_eq a.last i) [
            | inl same ↦
                let first-is : first ≡ a.first = same_Some first a.first (same-goal goals i (Some first) a at turn same) in
                let make : ℕ → ℕ → Area = λ x y. record { first = x; last = y } in
                let e : new ≡ a = ap (λ x. make x i) first-is ∙ ap (λ y. make a.first y) (sym same) in
                (length loops, get-push_last loops new ∙ ap Some e)
            | inr other ↦
                let old = are.whole a turn (omega (arith, below, other)) in
                (old.0, push-old loops new old.0 a old.1)
          ];
    }

pub loops-more : (goals : List (Option ℕ)) (loops : List Area) (i : ℕ) (o : Option ℕ) → slice_get goals i ≡ Some o
    → LoopsBelow goals loops i → LoopsBelow goals (with_loop loops o i) (i + 1)
loops-more goals loops i None at are =
    loops-same goals loops i (λ a turn same. none-some a.first (same-goal goals i None a at turn same)) are
loops-more goals loops i (Some first) at are =
    let new : List Area = loops ++ record { first = first; last = i } ∷ [] in
    let P : List Area → Type 0 = λ xs. LoopsBelow goals xs (i + 1) in
    elim (cases_Bool (nat_le first i)) [
      | inl is ↦ subst P (sym (cond-true (nat_le first i) new loops is)) (loops-push goals loops i first at (leb-true first i is) are)
      | inr is ↦
          subst P (sym (cond-false (nat_le first i) new loops is))
          (loops-same goals loops i
          (λ a turn same.
          omega (
            arith,
            leb-false first i is,
            turn.back,
            same,
            same_Some first a.first (same-goal goals i (Some first) a at turn same),
          )) are)
    ]

pub loops-all : (goals : List (Option ℕ)) (loops : List Area) (i : ℕ) → length goals ≤ i → LoopsBelow goals loops i → AreLoops goals loops
loops-all goals loops i all are = record {
  sound = are.sound;
  whole = λ a turn. are.whole a turn (omega (arith, all, slice_get_within goals a.last (Some a.first) turn.goes));
}

-- ---- starts

-- no label stands behind the start and before a place
abbrev pub IsBare : List OpKind → ℕ → ℕ → Type 0
IsBare ks start place = (p : ℕ) (k : OpKind) (l : Label) → start < p → p < place → Stands ks p k → label_of k ≡ Some l → ⊥

pub bare-more : (ks : List OpKind) (start i : ℕ) (k : OpKind) (o : Option Label) → Stands ks i k → label_of k ≡ o → IsBare ks start i
    → IsBare ks (start_at o i start) (i + 1)
bare-more ks start i k None stands is bare p j l from below at label =
    elim (cases_lt p i) [
      | inl before ↦ bare p j l from before at label
      | inr behind ↦
          let here : p ≡ i = omega (arith, behind, below) in
          let same : j ≡ k = same_Some j k (sym at ∙ ap (slice_get ks) here ∙ stands) in
          none-some l (sym is ∙ ap label_of (sym same) ∙ label)
    ]
bare-more ks start i k (Some m) stands is bare p j l from below at label = omega (arith, from, below)

pub starts-more : (ks : List OpKind) (starts : List ℕ) (start i : ℕ) → length starts ≡ i → IsBare ks start (i + 1)
    → ((n s : ℕ) → slice_get starts n ≡ Some s → IsPlain ks s n)
    → (n s : ℕ) → slice_get (starts ++ start ∷ []) n ≡ Some s → IsPlain ks s n
starts-more ks starts start i len bare plain n s at p k l from to stands label =
    elim (push-cases starts start n s at) [
      | inl old ↦ plain n s old p k l from to stands label
      | inr last ↦ bare p k l (omega (arith, from, last.1)) (omega (arith, to, last.0, len)) stands label
    ]
