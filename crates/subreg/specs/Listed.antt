-- Spans in a list.
use Rattle.std.specs.Prelude.{◌≡◌, ℕ, ◌<◌, ◌≤◌, List, length, Some, slice_get}
use Rattle.prunum.specs.declared.width.Width.{Width}
use Rattle.midcode.specs.declared.register.VReg.{VReg}
use Rattle.subreg.specs.declared.home.Interval.{Interval}

-- the list has this span of the register
abbrev pub Listed : List Interval → VReg → ℕ → ℕ → Type 0
Listed spans v from to = (n : ℕ) × (slice_get spans n ≡ Some (record { vreg = v; from = from; to = to }))

-- At most one span for each register of a function, from a place to one that isn't before it, in the order of their starts.
pub record AreSpans (registers : List Width) (spans : List Interval) : Type 0 where
  pub few : length spans < 1048577
  pub named : (n : ℕ) (s : Interval) → slice_get spans n ≡ Some s → s.vreg.0 < length registers
  pub forward : (n : ℕ) (s : Interval) → slice_get spans n ≡ Some s → s.from ≤ s.to
  pub small : (n : ℕ) (s : Interval) → slice_get spans n ≡ Some s → s.to < 1048576
  pub ordered : (m n : ℕ) (s t : Interval) → m ≤ n → slice_get spans m ≡ Some s → slice_get spans n ≡ Some t → s.from ≤ t.from
  pub once : (m n : ℕ) (s t : Interval) → slice_get spans m ≡ Some s → slice_get spans n ≡ Some t → s.vreg.0 ≡ t.vreg.0 → m ≡ n
