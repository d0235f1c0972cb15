-- A step that turns nothing, joined to the label of the word that it comes to.
use Rattle.std.proofs.Common.{◌≡◌, ℕ, ◌<◌, ◌≤◌, ◌⊎◌, inl, inr, Bool, true, false, List, Option, Some, IsSome}
use Rattle.std.proofs.Common.{refl, sym, ap, ◌∙◌, subst, arith, Contains}
use Rattle.std.specs.List.{AllByRecursion}
use Rattle.loopbound.specs.declared.graph.Bounds.{Bounds}
use Rattle.loopbound.specs.declared.graph.Loop.{Loop}
use Rattle.loopbound.specs.declared.graph.Move.TheVariants.{Turn}
use Rattle.loopbound.specs.declared.graph.Side.{Side}
use Rattle.loopbound.specs.declared.graph.Side.TheVariants.{Least, Most}
use Rattle.loopbound.specs.declared.graph.Step.{Step}
use Rattle.loopbound.specs.declared.graph.TimedLoop.{TimedLoop}
use Rattle.loopbound.specs.Loops.{holds, move}
use Rattle.loopbound.specs.Path.{at}
use Rattle.loopbound.specs.Table.{shapes, side_of, dues, CanGo, Labels, KeepsBounds, Meets, TurnsNone, NoTurn, Enters}
use Rattle.loopbound.specs.Table.{Reason, at_entry, by_step, TurnReason}
use Rattle.loopbound.specs.Joining.{joined, sum_behind}
use Rattle.loopbound.proofs.EachLemmas.{contained-each, each-contained, each-shape, shape-each, same_or}
use Rattle.loopbound.proofs.ExactLemmas.{held}
use Rattle.loopbound.proofs.JoinLemmas.{low_old, high_old, low_new, high_new, one_of, least_joined, no_dues, no_turns}
use Rattle.loopbound.proofs.Made.{Made, Rises}

module _ (Has More : Step → Type 0) (loops : List TimedLoop) (label after : Labels) (entry : ℕ) (s : Step) (v : Bounds)
    (old : (t : Step) → Has t → More t) (new : More s) (either : (t : Step) → More t → Has t ⊎ (t ≡ s))
    (made : Made Has loops label entry)
    (enters : (l : Loop) → Contains (shapes loops) l → Enters s.from s.to l)
    (begins : (l : Loop) → Contains (shapes loops) l → holds l entry ≡ true → entry ≡ l.first)
    (upwards : s.from < s.to)
    (below : (t : Step) → Has t → t.from < s.to)
    (turns_below : (t : Step) (l : Loop) → Has t → Contains (shapes loops) l → move l t.from t.to ≡ Turn → t.to < s.to)
    (words_below : (t : Step) → Has t → TurnsNone loops t → t.to ≤ s.to)
    (none : TurnsNone loops s) (known : IsSome (label s.from)) (can : CanGo s.from s.to loops)
    (value : (side : Side) → at side v ≡ sum_behind side loops label s)
    (here : after s.to ≡ Some (joined (label s.to) v)) (there : (w : ℕ) → (w ≡ s.to → ⊥) → after w ≡ label w) where
  side_there : (side : Side) (w : ℕ) → (w ≡ s.to → ⊥) → side_of side (after w) ≡ side_of side (label w)
  side_there side w other = ap (side_of side) (there w other)

  side_here : (side : Side) → side_of side (after s.to) ≡ at side (joined (label s.to) v)
  side_here side = ap (side_of side) here

  known_there : (w : ℕ) → (w ≡ s.to → ⊥) → IsSome (label w) → IsSome (after w)
  known_there w other some = subst (λ (o : Option Bounds). IsSome o) (sym (there w other)) some

  known_here : IsSome (after s.to)
  known_here = subst (λ (o : Option Bounds). IsSome o) (sym here) refl

  known_before : (w : ℕ) → (w ≡ s.to → ⊥) → IsSome (after w) → IsSome (label w)
  known_before w other some = subst (λ (o : Option Bounds). IsSome o) (there w other) some

  -- ---- labels grow wider

  record Wide (w : ℕ) : Type 0 where
    some : IsSome (after w)
    low : side_of Least (after w) ≤ side_of Least (label w)
    high : side_of Most (label w) ≤ side_of Most (after w)

  wide : (w : ℕ) → IsSome (label w) → Wide w
  wide w some = by (same_or w s.to) some
    where
      at_it : IsSome (label s.to) → Wide s.to
      at_it some =
          let low = side_here Least in let high = side_here Most in
          let a = low_old (label s.to) v some in let b = high_old (label s.to) v in
          record { some = known_here; low = omega (arith, low, a); high = omega (arith, high, b) }

      by : (w ≡ s.to) ⊎ (w ≡ s.to → ⊥) → IsSome (label w) → Wide w
      by (inl it) some = subst (λ (x : ℕ). IsSome (label x) → Wide x) (sym it) at_it some
      by (inr other) some =
          let low = side_there Least w other in let high = side_there Most w other in
          record { some = known_there w other some; low = omega (arith, low); high = omega (arith, high) }

  from_other : (t : Step) → Has t → t.from ≡ s.to → ⊥
  from_other t has is = let less = below t has in omega (arith, less, is)

  s_from_other : s.from ≡ s.to → ⊥
  s_from_other is = omega (arith, upwards, is)

  -- ---- it fits

  old_keeps : (t : Step) → Has t → KeepsBounds loops after t
  old_keeps t has some can =
      let other = from_other t has in
      let f = made.fits.steps t has (known_before t.from other some) can in
      let behind = wide t.to f.known in
      let low = f.low in let high = f.high in
      let lower = behind.low in let higher = behind.high in
      let least = side_there Least t.from other in let most = side_there Most t.from other in
      record {
        known = behind.some;
        turns = f.turns;
        low = omega (arith, low, lower, least);
        high = omega (arith, high, higher, most);
      }

  none_shapes : AllByRecursion (NoTurn s.from s.to) (shapes loops)
  none_shapes = each-shape (NoTurn s.from s.to) loops none

  no_due : (side : Side) → dues side s.from s.to loops ≡ 0
  no_due side = no_dues s.from s.to side loops none_shapes

  new_keeps : KeepsBounds loops after s
  new_keeps some can =
      let low = low_new (label s.to) v in let high = high_new (label s.to) v in
      let least_here = side_here Least in let most_here = side_here Most in
      let least = side_there Least s.from s_from_other in let most = side_there Most s.from s_from_other in
      let no_least = no_due Least in let no_most = no_due Most in
      let least_value = value Least in let most_value = value Most in
      record {
        known = known_here;
        turns = no_turns s.from s.to loops none_shapes;
        low = omega (arith, low, least_here, least, no_least, least_value);
        high = omega (arith, high, most_here, most, no_most, most_value);
      }

  keeps : (t : Step) → More t → KeepsBounds loops after t
  keeps t more = by (either t more)
    where
      by : Has t ⊎ (t ≡ s) → KeepsBounds loops after t
      by (inl has) = old_keeps t has
      by (inr is) = subst (λ (x : Step). KeepsBounds loops after x) (sym is) new_keeps

  -- ---- it is tight

  old_meets : (side : Side) (t : Step) → Has t → side_of side (after t.to) ≡ side_of side (label t.to) → Meets loops label side t
      → Meets loops after side t
  old_meets side t has to m =
      let other = from_other t has in
      let from = side_there side t.from other in
      let same = m.same in
      record { known = known_there t.from other m.known; can = m.can; same = omega (arith, to, from, same) }

  old_reason : (side : Side) (w : ℕ) → side_of side (after w) ≡ side_of side (label w) → Reason Has loops label entry side w
      → Reason More loops after entry side w
  old_reason side w same (at_entry is zero) = at_entry is (omega (arith, same, zero))
  old_reason side w same (by_step t has to meets none) =
      by_step t (old t has) to
      (old_meets side t has (subst (λ (x : ℕ). side_of side (after x) ≡ side_of side (label x)) (sym to) same) meets)
      none

  new_meets : (side : Side) → at side (joined (label s.to) v) ≡ at side v → Meets loops after side s
  new_meets side is =
      let it = side_here side in
      let from = side_there side s.from s_from_other in
      let none = no_due side in
      let sum = value side in
      record { known = known_there s.from s_from_other known; can = can; same = omega (arith, is, it, from, none, sum) }

  words : (side : Side) (w : ℕ) → IsSome (after w) → Reason More loops after entry side w
  words side w some = by (same_or w s.to) some
    where
      here_by : (IsSome (label s.to) × (at side (joined (label s.to) v) ≡ side_of side (label s.to)))
          ⊎ (at side (joined (label s.to) v) ≡ at side v)
          → Reason More loops after entry side s.to
      here_by (inl was) = old_reason side s.to (side_here side ∙ was.1) ((made.tight side).words s.to was.0)
      here_by (inr is) = by_step s new refl (new_meets side is) none

      by : (w ≡ s.to) ⊎ (w ≡ s.to → ⊥) → IsSome (after w) → Reason More loops after entry side w
      by (inl it) some = subst (λ (x : ℕ). Reason More loops after entry side x) (sym it) (here_by (one_of side (label s.to) v))
      by (inr other) some =
          old_reason side w (side_there side w other) ((made.tight side).words w (known_before w other some))

  abbrev Turns : Labels → (Step → Type 0) → Side → TimedLoop → Type 0
  Turns label Has side l = IsSome l.turn → TurnReason Has loops label side l.shape

  turns : (side : Side) → AllByRecursion (Turns after More side) loops
  turns side =
      contained-each (Turns after More side) loops
      (λ l has some.
      let r = each-contained (Turns label Has side) loops (made.tight side).turns l has some in
      let t = r.step in
      let less = each-contained (λ l. move l.shape t.from t.to ≡ Turn → t.to < s.to) loops (turning t r.has) l has r.turns in
      record {
        step = t;
        has = old t r.has;
        meets = old_meets side t r.has (side_there side t.to (λ is. omega (arith, less, is))) r.meets;
        turns = r.turns;
      })
    where
      turning : (t : Step) → Has t → AllByRecursion (λ l. move l.shape t.from t.to ≡ Turn → t.to < s.to) loops
      turning t has =
          shape-each (λ l. move l t.from t.to ≡ Turn → t.to < s.to) loops
          (contained-each (λ l. move l t.from t.to ≡ Turn → t.to < s.to) (shapes loops) (λ l in_it turns. turns_below t l has in_it turns))

  -- ---- no label in a loop is below its first word's

  abbrev RisesAt : Loop → ℕ → Type 0
  RisesAt l w = IsSome (after l.first) × ((side : Side) → side_of side (after l.first) ≤ side_of side (after w))

  rise_first : (l : Loop) → RisesAt l l.first → (w : ℕ) → w ≡ l.first → RisesAt l w
  rise_first l r w is = subst (λ (x : ℕ). RisesAt l x) (sym is) r

  -- the step stays in the loop
  inside : (l : Loop) → Contains (shapes loops) l → holds l s.to ≡ true → (s.to ≡ l.first → ⊥) → holds l s.from ≡ true
  inside l has holds_it other = by (holds l s.from) refl
    where
      by : (b : Bool) → holds l s.from ≡ b → holds l s.from ≡ true
      by true is = is
      by false is = absurd (other (enters l has is holds_it))

  rise_here : (l : Loop) → Contains (shapes loops) l → holds l s.to ≡ true → RisesAt l s.to
  rise_here l has holds_it = by (same_or s.to l.first)
    where
      by : (s.to ≡ l.first) ⊎ (s.to ≡ l.first → ⊥) → RisesAt l s.to
      by (inl it) = (
        subst (λ (x : ℕ). IsSome (after x)) it known_here,
        λ side. let e : side_of side (after s.to) ≡ side_of side (after l.first) = ap (λ (x : ℕ). side_of side (after x)) it in
            omega (arith, e),
      )
      by (inr other) =
          let back : l.first ≡ s.to → ⊥ = λ e. other (sym e) in
          let r = made.rises l has s.from (inside l has holds_it other) known in (
            known_there l.first back r.0,
            λ side.
                let first = side_there side l.first back in
                let it = side_here side in
                let from = r.1 side in
                let sum = value side in
                let least = least_joined side (label s.to) v (side_of side (label l.first))
                (λ some. (made.rises l has s.to holds_it some).1 side) (omega (arith, from, sum)) in
                omega (arith, first, it, least),
          )

  -- where the first word's label changes, the others have none yet
  early : (l : Loop) → Contains (shapes loops) l → (w : ℕ) → holds l w ≡ true → IsSome (label w) → l.first ≡ s.to → w ≡ s.to
  early l has w holds_it some first = by ((made.tight Least).words w some)
    where
      from_first : l.first ≤ w
      from_first = (held l w holds_it).0

      by : Reason Has loops label entry Least w → w ≡ s.to
      by (at_entry is zero) = is ∙ (begins l has (subst (λ (x : ℕ). holds l x ≡ true) is holds_it) ∙ first)
      by (by_step t had to meets turns_none) =
          let less = words_below t had turns_none in
          omega (arith, less, to, first, from_first)

  rises : (l : Loop) → Contains (shapes loops) l → Rises after l
  rises l has w holds_it some = by (same_or w s.to) (same_or l.first s.to)
    where
      by : (w ≡ s.to) ⊎ (w ≡ s.to → ⊥) → (l.first ≡ s.to) ⊎ (l.first ≡ s.to → ⊥) → RisesAt l w
      by (inl it) first =
          subst (λ (x : ℕ). RisesAt l x) (sym it) (rise_here l has (subst (λ (x : ℕ). holds l x ≡ true) it holds_it))
      by (inr other) (inl first) = absurd (other (early l has w holds_it (known_before w other some) first))
      by (inr other) (inr not_first) =
          let r = made.rises l has w holds_it (known_before w other some) in (
            known_there l.first not_first r.0,
            λ side.
                let a = side_there side l.first not_first in
                let b = side_there side w other in
                let c = r.1 side in
                omega (arith, a, b, c),
          )

  pub word_made : Made More loops after entry
  word_made = record {
    fits = record {
      known = (wide entry made.fits.known).some;
      zero = let low = (wide entry made.fits.known).low in let zero = made.fits.zero in omega (arith, low, zero);
      steps = keeps;
    };
    tight = λ side. record { words = words side; turns = turns side };
    rises = rises;
  }
