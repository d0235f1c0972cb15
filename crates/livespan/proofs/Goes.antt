-- Where operations go to.
use Rattle.std.proofs.Common.{◌≡◌, ℕ, zero, suc, ◌+◌, ◌<◌, ◌⊎◌, inl, inr, List, [], ◌∷◌, length, get_or, drop}
use Rattle.std.proofs.Common.{refl, sym, ap, ◌∙◌, subst, arith, Option, Some, None, length-set}
use Rattle.std.specs.Prelude.{slice_get, slice_set, ◌==◌, if◌then◌else◌, IsTrue}
use Rattle.std.proofs.lemmas.Bool.{cases_eq, eq-eqb, ne_eqb, cond-true, cond-false}
use Rattle.std.proofs.lemmas.Option.{same_Some, none-some, slice_get_within}
use Rattle.std.proofs.lemmas.List.{get_or-set_other, get_or-set_same}
use Rattle.midcode.specs.declared.register.Label.{Label}
use Rattle.midcode.specs.declared.op.OpKind.{OpKind}
use Rattle.midcode.specs.declared.op.OpKind.TheVariants as op
use Rattle.midcode.specs.Operation.{label_of, target_of}
use Rattle.midcode.specs.Meaning.{standing_at}
use Rattle.subreg.specs.Span.{Stands, Follows, next, goes, IsLoop, is_onward}
use Rattle.livespan.specs.declared.area.Area.{Area}
use Rattle.livespan.specs.Live.{AreGoals, GoesBack, ArePlaces, goal_at, goal_in, with_label}

-- ---- labels

abbrev stops_at : Option Label → ℕ → ℕ → ℕ
stops_at None l rest = rest
stops_at (Some m) l rest = if m.0 == l then 0 else rest

standing-first : (k : OpKind) (ks : List OpKind) (l : ℕ) → standing_at (k ∷ ks) l ≡ stops_at (label_of k) l (1 + standing_at ks l)
standing-first (op.Label m) ks l = refl
standing-first k ks l = refl

placed : (places : List ℕ) (o : Option Label) (n m rest : ℕ) → m < length places → get_or places m 0 ≡ n + 1 + rest
    → get_or (with_label places o n) m 0 ≡ n + stops_at o m (1 + rest)
placed places None n m rest within at = omega (arith, at)
placed places (Some l) n m rest within at =
    elim (cases_eq l.0 m) [
      | inl same ↦
          let stops : (if l.0 == m then 0 else (1 + rest)) ≡ 0 = cond-true (l.0 == m) 0 (1 + rest) (eq-eqb l.0 m same) in
          let here : get_or (slice_set places l.0 n) m 0 ≡ n =
          ap (λ x. get_or (slice_set places x n) m 0) same ∙ get_or-set_same places m n 0 within in
          omega (arith, stops, here)
      | inr other ↦
          let goes : (if l.0 == m then 0 else (1 + rest)) ≡ 1 + rest = cond-false (l.0 == m) 0 (1 + rest) (ne_eqb l.0 m other) in
          let there : get_or (slice_set places l.0 n) m 0 ≡ get_or places m 0 =
          get_or-set_other places l.0 m n 0 (λ e. other (sym e)) in
          omega (arith, goes, there, at)
    ]

pub place-before : (ks : List OpKind) (places : List ℕ) (k : OpKind) (n m : ℕ) → drop n ks ≡ k ∷ drop (n + 1) ks → m < length places
    → get_or places m 0 ≡ n + 1 + standing_at (drop (n + 1) ks) m
    → get_or (with_label places (label_of k) n) m 0 ≡ n + standing_at (drop n ks) m
place-before ks places k n m split within at =
    placed places (label_of k) n m (standing_at (drop (n + 1) ks) m) within at ∙
    ap (λ x. n + x) (sym (ap (λ xs. standing_at xs m) split ∙ standing-first k (drop (n + 1) ks) m))

pub length-label : (places : List ℕ) (o : Option Label) (n : ℕ) → length (with_label places o n) ≡ length places
length-label places None n = refl
length-label places (Some l) n = length-set places l.0 n

-- at the place of a label it stands
pub record StandsAt (ks : List OpKind) (place : ℕ) : Type 0 where
  pub kind : OpKind
  pub label : Label
  pub stands : Stands ks place kind
  pub is : label_of kind ≡ Some label

stands-first : (o : Option Label) (k : OpKind) (ks : List OpKind) (l : ℕ) → label_of k ≡ o → standing_at (k ∷ ks) l < length (k ∷ ks)
    → (standing_at ks l < length ks → StandsAt ks (standing_at ks l)) → StandsAt (k ∷ ks) (standing_at (k ∷ ks) l)
stands-first None k ks l is below behind =
    let e : standing_at (k ∷ ks) l ≡ 1 + standing_at ks l = standing-first k ks l ∙ ap (λ o. stops_at o l (1 + standing_at ks l)) is in
    let next : standing_at (k ∷ ks) l ≡ suc (standing_at ks l) = omega (arith, e) in
    let b = behind (omega (arith, below, e)) in
    record { kind = b.kind; label = b.label; stands = ap (slice_get (k ∷ ks)) next ∙ b.stands; is = b.is }
stands-first (Some m) k ks l is below behind =
    let e : standing_at (k ∷ ks) l ≡ (if m.0 == l then 0 else (1 + standing_at ks l)) =
    standing-first k ks l ∙ ap (λ o. stops_at o l (1 + standing_at ks l)) is in
    elim (cases_eq m.0 l) [
      | inl same ↦
          let none : standing_at (k ∷ ks) l ≡ 0 = e ∙ cond-true (m.0 == l) 0 (1 + standing_at ks l) (eq-eqb m.0 l same) in
          record { kind = k; label = m; stands = ap (slice_get (k ∷ ks)) none; is = is }
      | inr other ↦
          let more : standing_at (k ∷ ks) l ≡ 1 + standing_at ks l =
          e ∙ cond-false (m.0 == l) 0 (1 + standing_at ks l) (ne_eqb m.0 l other) in
          let next : standing_at (k ∷ ks) l ≡ suc (standing_at ks l) = omega (arith, more) in
          let b = behind (omega (arith, below, more)) in
          record { kind = b.kind; label = b.label; stands = ap (slice_get (k ∷ ks)) next ∙ b.stands; is = b.is }
    ]

pub standing-stands : (ks : List OpKind) (l : ℕ) → standing_at ks l < length ks → StandsAt ks (standing_at ks l)
standing-stands [] l below = absurd (omega (arith, below))
standing-stands (k ∷ ks) l below = stands-first (label_of k) k ks l refl below (standing-stands ks l)

-- ---- goals

pub goal-is : (ks : List OpKind) (places : List ℕ) (o : Option Label) → ArePlaces ks places
    → ((l : Label) → o ≡ Some l → l.0 < length places) → goal_in places o ≡ goal_at ks o
goal-is ks places None are below = refl
goal-is ks places (Some l) are below = ap Some (are l.0 (below l refl))

goal-some : (ks : List OpKind) (o : Option Label) (g : ℕ) → goal_at ks o ≡ Some g → (l : Label) × (o ≡ Some l) × (standing_at ks l.0 ≡ g)
goal-some ks None g is = absurd (none-some g is)
goal-some ks (Some l) g is = (l, refl, same_Some (standing_at ks l.0) g is)

pub get-some : {X : Type 0} (xs : List X) (n : ℕ) → n < length xs → (x : X) × (slice_get xs n ≡ Some x)
get-some [] n below = absurd (omega (arith, below))
get-some (x ∷ xs) zero below = (x, refl)
get-some (x ∷ xs) (suc n) below = get-some xs n (omega (arith, below))

-- the operation that goes to a place
pub record GoesTo (ks : List OpKind) (place goal : ℕ) : Type 0 where
  pub kind : OpKind
  pub label : Label
  pub stands : Stands ks place kind
  pub target : target_of kind ≡ Some label
  pub is : standing_at ks label.0 ≡ goal

pub goes-to : (ks : List OpKind) (goals : List (Option ℕ)) (place goal : ℕ) → AreGoals ks goals → slice_get goals place ≡ Some (Some goal)
    → GoesTo ks place goal
goes-to ks goals place goal are at =
    let here = get-some ks place (omega (arith, are.len, slice_get_within goals place (Some goal) at)) in
    let same : Some (goal_at ks (target_of here.0)) ≡ Some (Some goal) = sym (are.goes place here.0 here.1) ∙ at in
    let to = goal-some ks (target_of here.0) goal (same_Some (goal_at ks (target_of here.0)) (Some goal) same) in
    record { kind = here.0; label = to.0; stands = here.1; target = to.1; is = to.2 }

pub loop-goes : (ks : List OpKind) (goals : List (Option ℕ)) (first last : ℕ) → AreGoals ks goals → IsLoop ks first last
    → GoesBack goals (record { first = first; last = last })
loop-goes ks goals first last are loop = record {
  back = loop.back;
  goes = are.goes last loop.kind loop.stands ∙ ap Some (ap (goal_at ks) loop.target ∙ ap Some (sym loop.head));
}

pub loop-is : (ks : List OpKind) (goals : List (Option ℕ)) (a : Area) → AreGoals ks goals → GoesBack goals a → IsLoop ks a.first a.last
loop-is ks goals a are turn =
    let to = goes-to ks goals a.last a.first are turn.goes in
    record { kind = to.kind; label = to.label; stands = to.stands; target = to.target; head = sym to.is; back = turn.back }

pub loop-within : (ks : List OpKind) (goals : List (Option ℕ)) (a : Area) → AreGoals ks goals → GoesBack goals a → a.last < length ks
loop-within ks goals a are turn = omega (arith, are.len, slice_get_within goals a.last (Some a.first) turn.goes)

pub follows-goal : (ks : List OpKind) (goals : List (Option ℕ)) (place goal : ℕ) → AreGoals ks goals
    → slice_get goals place ≡ Some (Some goal) → Follows ks place goal
follows-goal ks goals place goal are at =
    let to = goes-to ks goals place goal are at in
    let P : ℕ → Type 0 = λ n. Follows ks place n in
    subst P to.is (goes place to.kind to.label to.stands to.target)

pub follows-next : (ks : List OpKind) (place : ℕ) (k : OpKind) → Stands ks place k → IsTrue (is_onward k) → Follows ks place (place + 1)
follows-next ks place k stands onward = next place k stands onward

pub follows-cases : (ks : List OpKind) (place behind : ℕ) → Follows ks place behind → (goals : List (Option ℕ)) (k : OpKind)
    → AreGoals ks goals → Stands ks place k
    → (IsTrue (is_onward k) × (behind ≡ place + 1)) ⊎ (slice_get goals place ≡ Some (Some behind))
follows-cases ks place behind (next p j at onward) goals k are stands =
    let P : OpKind → Type 0 = λ x. IsTrue (is_onward x) in
    inl (subst P (same_Some j k (sym at ∙ stands)) onward, refl)
follows-cases ks place behind (goes p j l at target) goals k are stands =
    inr (are.goes p j at ∙ ap Some (ap (goal_at ks) target))
