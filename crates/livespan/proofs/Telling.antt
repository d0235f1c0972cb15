-- What the search for loops that a span crosses tells, and what it makes of the span.
use Rattle.std.proofs.Common.{◌≡◌, ℕ, ◌<◌, ◌≤◌, ◌↔◌, Bool, true, false, List, length, min, max, refl, sym, subst, arith, Option}
use Rattle.std.specs.Prelude.{IsTrue}
use Rattle.std.proofs.lemmas.Bool.{true≢false}
use Rattle.midcode.specs.declared.register.VReg.{VReg}
use Rattle.midcode.specs.declared.op.OpKind.{OpKind}
use Rattle.midcode.specs.Function.{Function, kinds}
use Rattle.subreg.specs.Span.{Within, MentionedAt, MayBeRead}
use Rattle.livespan.specs.declared.area.Area.{Area}
use Rattle.livespan.specs.Live.{IsHull, IsStraight, IsOver, AreGoals, GoesBack, TellsCrossing}
use Rattle.livespan.proofs.Crossing.{crosses-around, around-read, straight-crosses, crosses-first, crosses-last, crosses-inside}

pub straight-tells : (f : Function) (ks : List OpKind) (v : VReg) (hull turn : Area) → ks ≡ kinds f → IsHull (MentionedAt f) v hull
    → IsStraight ks v hull → hull.last < length ks → turn.first ≤ hull.first → hull.last ≤ turn.last
    → TellsCrossing f v hull turn false
straight-tells f ks v hull turn same is straight below first last crosses =
    let P : List OpKind → Type 0 = λ js. IsStraight js v hull in
    let Q : List OpKind → Type 0 = λ js. hull.last < length js in
    absurd (straight-crosses f v hull turn is (subst P same straight) (subst Q same below) first last crosses)

read-tells : (f : Function) (v : VReg) (hull turn : Area) (goals : List (Option ℕ)) (b : Bool) → AreGoals (kinds f) goals
    → GoesBack goals turn → IsHull (MentionedAt f) v hull → turn.first ≤ hull.first → hull.last ≤ turn.last
    → (IsTrue b ↔ MayBeRead (kinds f) turn.first turn.last v turn.first) → TellsCrossing f v hull turn b
read-tells f v hull turn goals true are goes_back is first last p = crosses-around f v hull turn goals are goes_back (p.0 refl)
read-tells f v hull turn goals false are goes_back is first last p =
    λ crosses. absurd (true≢false (sym (p.1 (around-read f v hull turn is first last crosses))))

pub around-tells : (f : Function) (ks : List OpKind) (v : VReg) (hull turn : Area) (goals : List (Option ℕ)) (b : Bool) → ks ≡ kinds f
    → AreGoals ks goals → GoesBack goals turn → IsHull (MentionedAt f) v hull → turn.first ≤ hull.first → hull.last ≤ turn.last
    → (IsTrue b ↔ MayBeRead ks turn.first turn.last v turn.first) → TellsCrossing f v hull turn b
around-tells f ks v hull turn goals b same are goes_back is first last p =
    let P : List OpKind → Type 0 = λ js. AreGoals js goals in
    let Q : List OpKind → Type 0 = λ js. IsTrue b ↔ MayBeRead js turn.first turn.last v turn.first in
    read-tells f v hull turn goals b (subst P same are) goes_back is first last (subst Q same p)

pub first-tells : (f : Function) (ks : List OpKind) (v : VReg) (hull turn : Area) (goals : List (Option ℕ)) → ks ≡ kinds f
    → AreGoals ks goals → GoesBack goals turn → IsHull (MentionedAt f) v hull → Within turn.first turn.last hull.first
    → (Within turn.first turn.last hull.last → ⊥) → TellsCrossing f v hull turn true
first-tells f ks v hull turn goals same are goes_back is inside outside =
    let P : List OpKind → Type 0 = λ js. AreGoals js goals in
    crosses-first f v hull turn goals (subst P same are) goes_back is inside outside

pub last-tells : (f : Function) (ks : List OpKind) (v : VReg) (hull turn : Area) (goals : List (Option ℕ)) (b : Bool) → ks ≡ kinds f
    → AreGoals ks goals → GoesBack goals turn → IsHull (MentionedAt f) v hull → (Within turn.first turn.last hull.first → ⊥)
    → (IsTrue b ↔ Within turn.first turn.last hull.last) → TellsCrossing f v hull turn b
last-tells f ks v hull turn goals true same are goes_back is outside p =
    let P : List OpKind → Type 0 = λ js. AreGoals js goals in
    crosses-last f v hull turn goals (subst P same are) goes_back is (p.0 refl) outside
last-tells f ks v hull turn goals false same are goes_back is outside p =
    λ crosses. crosses-inside f v hull turn is outside (λ w. true≢false (sym (p.1 w))) crosses

-- ---- the span

pub over-crossed : (f : Function) (v : VReg) (hull turn area new : Area) (b : Bool) → b ≡ true → TellsCrossing f v hull turn b
    → new.first ≡ min area.first turn.first → new.last ≡ max area.last turn.last → IsOver f v turn area new
over-crossed f v hull turn area new true e crosses first last = record {
  first = omega arith;
  last = omega arith;
  loop = λ _. (omega arith, omega arith);
  least = λ from to holds w.
      let l = holds.loops turn.first turn.last crosses in
      (omega (arith, l.0, w.0), omega (arith, l.1, w.1));
}
over-crossed f v hull turn area new false e crosses first last = absurd (true≢false (sym e))

pub over-same : (f : Function) (v : VReg) (hull turn area : Area) (b : Bool) → b ≡ false → TellsCrossing f v hull turn b
    → area.first ≤ hull.first → hull.last ≤ area.last → IsOver f v turn area area
over-same f v hull turn area true e tells first last = absurd (true≢false e)
over-same f v hull turn area false e tells first last = record {
  first = omega arith;
  last = omega arith;
  loop = λ crosses. let w = tells crosses in (omega (arith, w.0, first), omega (arith, w.1, last));
  least = λ from to holds w. w;
}
