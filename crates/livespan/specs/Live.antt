-- What is known of a function's operations on the way to its spans.
use Rattle.std.specs.Prelude.{◌≡◌, ℕ, ◌<◌, ◌≤◌, ◌⊎◌, Bool, true, false, List, length, Option, Some, None, slice_get}
use Rattle.std.specs.Prelude.{slice_set, slice_index_or, Contains, nat_le, [], ◌∷◌, ◌++◌, if◌then◌else◌}
use Rattle.midcode.specs.declared.register.Label.{Label}
use Rattle.midcode.specs.declared.register.VReg.{VReg}
use Rattle.midcode.specs.declared.op.OpKind.{OpKind}
use Rattle.midcode.specs.Operation.{reads, writes, label_of, target_of}
use Rattle.midcode.specs.Function.{Function}
use Rattle.midcode.specs.Meaning.{standing_at}
use Rattle.subreg.specs.Span.{Stands, Within, ReadsAt, WritesAt, Crosses, Holds}
use Rattle.livespan.specs.declared.area.Area.{Area}

-- ---- where operations go to

-- each label that an operation goes to is below a number
abbrev pub HaveTargets : List OpKind → ℕ → Type 0
HaveTargets ks labels = (place : ℕ) (k : OpKind) (l : Label) → Stands ks place k → target_of k ≡ Some l → l.0 < labels

-- the places of the labels by their numbers
abbrev pub ArePlaces : List OpKind → List ℕ → Type 0
ArePlaces ks places = (l : ℕ) → l < length places → slice_index_or places l 0 ≡ standing_at ks l

abbrev pub with_label : List ℕ → Option Label → ℕ → List ℕ
with_label places None place = places
with_label places (Some l) place = slice_set places l.0 place

abbrev pub goal_in : List ℕ → Option Label → Option ℕ
goal_in places None = None
goal_in places (Some l) = Some (slice_index_or places l.0 0)

abbrev pub goal_at : List OpKind → Option Label → Option ℕ
goal_at ks None = None
goal_at ks (Some l) = Some (standing_at ks l.0)

-- for each operation the place that it may go to
pub record AreGoals (ks : List OpKind) (goals : List (Option ℕ)) : Type 0 where
  pub len : length goals ≡ length ks
  pub goes : (place : ℕ) (k : OpKind) → Stands ks place k → slice_get goals place ≡ Some (goal_at ks (target_of k))

-- a jump back, where the last place goes to the first
pub record GoesBack (goals : List (Option ℕ)) (a : Area) : Type 0 where
  pub back : a.first ≤ a.last
  pub goes : slice_get goals a.last ≡ Some (Some a.first)

-- the loops of the jumps back
pub record AreLoops (goals : List (Option ℕ)) (loops : List Area) : Type 0 where
  pub sound : (n : ℕ) (a : Area) → slice_get loops n ≡ Some a → GoesBack goals a
  pub whole : (a : Area) → GoesBack goals a → (n : ℕ) × (slice_get loops n ≡ Some a)

abbrev pub with_loop : List Area → Option ℕ → ℕ → List Area
with_loop loops None last = loops
with_loop loops (Some first) last = if nat_le first last then loops ++ record { first = first; last = last } ∷ [] else loops

-- no label stands behind one place and up to another
abbrev pub IsPlain : List OpKind → ℕ → ℕ → Type 0
IsPlain ks from to = (place : ℕ) (k : OpKind) (l : Label) → from < place → place ≤ to → Stands ks place k → label_of k ≡ Some l → ⊥

-- where a stretch without labels begins that ends with an operation
abbrev pub start_at : Option Label → ℕ → ℕ → ℕ
start_at None place start = start
start_at (Some l) place start = place

-- for each operation a place from which on no label stands up to it
pub record AreStarts (ks : List OpKind) (starts : List ℕ) : Type 0 where
  pub len : length starts ≡ length ks
  pub plain : (n start : ℕ) → slice_get starts n ≡ Some start → IsPlain ks start n

-- ---- mentions

abbrev pub Mentions : OpKind → VReg → Type 0
Mentions k v = Contains (reads k) v ⊎ (writes k ≡ Some v)

-- the registers that operations mention are below a number
abbrev pub AreNamed : List OpKind → ℕ → Type 0
AreNamed ks registers = (place : ℕ) (k : OpKind) (v : VReg) → Stands ks place k → Mentions k v → v.0 < registers

-- mentions by the operations before a place, and of the parameters at the first place
abbrev pub Known : List OpKind → ℕ → ℕ → ℕ → VReg → Type 0
Known ks params until place v = ((place ≡ 0) × (v.0 < params)) ⊎ ((place < until) × (ReadsAt ks place v ⊎ WritesAt ks place v))

abbrev pub up_to : Option Area → ℕ → Area
up_to None place = record { first = place; last = place }
up_to (Some a) place = record { first = a.first; last = place }

abbrev pub with_mention : List (Option Area) → VReg → ℕ → List (Option Area)
with_mention hulls v place = slice_set hulls v.0 (Some (up_to (slice_index_or hulls v.0 None) place))

abbrev pub with_written : List (Option Area) → Option VReg → ℕ → List (Option Area)
with_written hulls None place = hulls
with_written hulls (Some v) place = with_mention hulls v place

module _ (Mentioned : ℕ → VReg → Type 0) where
  -- from the first to the last mention of a register
  pub record IsHull (v : VReg) (a : Area) : Type 0 where
    pub first : Mentioned a.first v
    pub last : Mentioned a.last v
    pub all : (place : ℕ) → Mentioned place v → Within a.first a.last place

  -- by the registers' numbers, and None for one that is mentioned nowhere
  pub record AreHulls (hulls : List (Option Area)) : Type 0 where
    pub hull : (v : VReg) (a : Area) → slice_get hulls v.0 ≡ Some (Some a) → IsHull v a
    pub none : (v : VReg) (place : ℕ) → slice_get hulls v.0 ≡ Some None → Mentioned place v → ⊥

-- ---- loops

-- The register is written at the first place and not read there, and no label stands behind it up to the last one.
pub record IsStraight (ks : List OpKind) (v : VReg) (a : Area) : Type 0 where
  pub written : WritesAt ks a.first v
  pub unread : ReadsAt ks a.first v → ⊥
  pub plain : IsPlain ks a.first a.last

-- whether the span crosses a loop, unless the loop lies between the mentions
abbrev pub TellsCrossing : Function → VReg → Area → Area → Bool → Type 0
TellsCrossing f v hull turn true = Crosses f v turn.first turn.last
TellsCrossing f v hull turn false = Crosses f v turn.first turn.last → (hull.first ≤ turn.first) × (turn.last ≤ hull.last)

-- The area, and all of the loop if the span crosses it; no more than the span has.
pub record IsOver (f : Function) (v : VReg) (turn old new : Area) : Type 0 where
  pub first : new.first ≤ old.first
  pub last : old.last ≤ new.last
  pub loop : Crosses f v turn.first turn.last → (new.first ≤ turn.first) × (turn.last ≤ new.last)
  pub least : (from to : ℕ) → Holds f v from to → (from ≤ old.first) × (old.last ≤ to) → (from ≤ new.first) × (new.last ≤ to)
