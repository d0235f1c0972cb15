-- The spans of a function in a list.
use Rattle.std.specs.Prelude.{◌≡◌, ℕ, ◌<◌, ◌≤◌, ◌++◌, ◌∷◌, [], List, Option, None, Some, length, slice_get, ◌↔◌}
use Rattle.midcode.specs.declared.register.VReg.{VReg}
use Rattle.midcode.specs.Function.{Function}
use Rattle.subreg.specs.declared.home.Interval.{Interval}
use Rattle.subreg.specs.Span.{IsSpan}
use Rattle.subreg.specs.Listed.{Listed, AreSpans}
use Rattle.livespan.specs.declared.area.Area.{Area}

-- each span of the function and no other, once, in the order of their starts
pub record AreSpansOf (f : Function) (spans : List Interval) : Type 0 where
  pub list : AreSpans f.registers spans
  pub exact : (v : VReg) (from to : ℕ) → Listed spans v from to ↔ IsSpan f v from to

-- the span of the register behind the others, if it is mentioned
pub record IsSpanBehind (f : Function) (v : VReg) (old new : List Interval) : Type 0 where
  pub span : Interval
  pub named : span.vreg ≡ v
  pub exact : IsSpan f v span.from span.to
  pub added : new ≡ old ++ span ∷ []

abbrev pub IsAdded : Function → VReg → Option Area → List Interval → List Interval → Type 0
IsAdded f v None old new = new ≡ old
IsAdded f v (Some hull) old new = IsSpanBehind f v old new

-- the spans of the registers below a number, in any order
pub record AreSpansBelow (f : Function) (number : ℕ) (spans : List Interval) : Type 0 where
  pub few : length spans ≤ number
  pub exact : (n : ℕ) (s : Interval) → slice_get spans n ≡ Some s → (s.vreg.0 < number) × IsSpan f s.vreg s.from s.to
  pub whole : (v : VReg) (from to : ℕ) → v.0 < number → IsSpan f v from to → Listed spans v from to
  pub once : (m n : ℕ) (s t : Interval) → slice_get spans m ≡ Some s → slice_get spans n ≡ Some t → s.vreg.0 ≡ t.vreg.0 → m ≡ n
