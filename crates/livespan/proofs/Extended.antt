-- Spans, loop by loop.
use Rattle.std.proofs.Common.{◌≡◌, ℕ, ◌+◌, ◌<◌, ◌≤◌, inl, inr, List, length, sym, ap, ◌∙◌, subst, arith}
use Rattle.std.specs.Prelude.{slice_get, Some, Option}
use Rattle.std.proofs.lemmas.Bool.{cases_lt}
use Rattle.std.proofs.lemmas.Option.{same_Some, slice_get_within}
use Rattle.midcode.specs.declared.op.OpKind.{OpKind}
use Rattle.midcode.specs.declared.register.VReg.{VReg}
use Rattle.midcode.specs.Function.{Function, kinds}
use Rattle.subreg.specs.Span.{Crosses, Holds, IsSpan, MentionedAt}
use Rattle.livespan.specs.declared.area.Area.{Area}
use Rattle.livespan.specs.Live.{IsHull, IsOver, AreLoops, AreGoals}
use Rattle.livespan.proofs.Goes.{loop-goes}

-- the hull, extended over the first of the loops
pub record IsExtended (f : Function) (v : VReg) (hull : Area) (loops : List Area) (i : ℕ) (a : Area) : Type 0 where
  pub first : a.first ≤ hull.first
  pub last : hull.last ≤ a.last
  pub covers : (n : ℕ) (turn : Area) → n < i → slice_get loops n ≡ Some turn → Crosses f v turn.first turn.last
      → (a.first ≤ turn.first) × (turn.last ≤ a.last)
  pub least : (from to : ℕ) → Holds f v from to → (from ≤ a.first) × (a.last ≤ to)

pub extended-none : (f : Function) (v : VReg) (hull : Area) (loops : List Area) → IsHull (MentionedAt f) v hull
    → IsExtended f v hull loops 0 hull
extended-none f v hull loops is = record {
  first = omega arith;
  last = omega arith;
  covers = λ n turn below at crosses. absurd (omega (arith, below));
  least = λ from to holds. ((holds.mentions hull.first is.first).0, (holds.mentions hull.last is.last).1);
}

pub extended-more : (f : Function) (v : VReg) (hull : Area) (loops : List Area) (i : ℕ) (turn old new : Area)
    → slice_get loops i ≡ Some turn → IsExtended f v hull loops i old → IsOver f v turn old new → IsExtended f v hull loops (i + 1) new
extended-more f v hull loops i turn old new here was over = record {
  first = omega (arith, was.first, over.first);
  last = omega (arith, was.last, over.last);
  covers = λ n other below at crosses.
      elim (cases_lt n i) [
        | inl before ↦
            let c = was.covers n other before at crosses in
            (omega (arith, c.0, over.first), omega (arith, c.1, over.last))
        | inr behind ↦
            let same : n ≡ i = omega (arith, behind, below) in
            let is : other ≡ turn = same_Some other turn (sym at ∙ ap (slice_get loops) same ∙ here) in
            let P : Area → Type 0 = λ x. Crosses f v x.first x.last in
            let Q : Area → Type 0 = λ x. (new.first ≤ x.first) × (x.last ≤ new.last) in
            subst Q (sym is) (over.loop (subst P is crosses))
      ];
  least = λ from to holds. over.least from to holds (was.least from to holds);
}

pub extended-all : (f : Function) (v : VReg) (hull : Area) (goals : List (Option ℕ)) (loops : List Area) (i : ℕ) (a : Area)
    → AreGoals (kinds f) goals → AreLoops goals loops → IsHull (MentionedAt f) v hull → length loops ≤ i
    → IsExtended f v hull loops i a → IsSpan f v a.first a.last
extended-all f v hull goals loops i a are whole is all ext = record {
  holds = record {
    mentions = λ place mentioned.
        let w = is.all place mentioned in
        (omega (arith, w.0, ext.first), omega (arith, w.1, ext.last));
    loops = λ first last crosses.
        let turn : Area = record { first = first; last = last } in
        let listed = whole.whole turn (loop-goes (kinds f) goals first last are crosses.loop) in
        ext.covers listed.0 turn (omega (arith, all, slice_get_within loops listed.0 turn listed.1)) listed.1 crosses;
  };
  least = λ from to holds. ext.least from to holds;
}

pub extended-all-in : (f : Function) (ks : List OpKind) (v : VReg) (hull : Area) (goals : List (Option ℕ)) (loops : List Area) (i : ℕ)
    (a : Area) → ks ≡ kinds f → AreGoals ks goals → AreLoops goals loops → IsHull (MentionedAt f) v hull → length loops ≤ i
    → IsExtended f v hull loops i a → IsSpan f v a.first a.last
extended-all-in f ks v hull goals loops i a same are whole is all ext =
    let P : List OpKind → Type 0 = λ js. AreGoals js goals in
    extended-all f v hull goals loops i a (subst P same are) whole is all ext
