-- Inner words of the search.
use Rattle.std.specs.Prelude.{◌≡◌, ◌<◌, ◌≤◌, ◌+◌, ◌++◌, ◌⊎◌, ℕ, Bool, true, false, List, [], ◌∷◌, Option, Some, None, Contains}
use Rattle.std.specs.Prelude.{length, slice_set, sum_by, slice_index, slice_index_or}
use Rattle.std.specs.Global.{Vec}
use Rattle.csyn.specs.declared.span.Span.{Span}
use Rattle.callcycle.specs.declared.call.Call.{Call}
use Rattle.callcycle.specs.Calls.{calls_of, Reaches, InCycle, IsUpTo}

-- ---- numbers of functions

abbrev pub AreUpTo : List Call → List ℕ → ℕ → Type 0
AreUpTo calls numbers most = (c : Call) → Contains calls c → slice_index numbers c.callee ≤ most

-- no call leads to a function of a greater number
abbrev pub NeverRises : List (Vec Call) → List ℕ → Type 0
NeverRises functions numbers = (f : ℕ) → AreUpTo (calls_of functions f) numbers (slice_index numbers f)

-- ---- which functions are reached, and whose calls wait

abbrev pub IsMarked : List Bool → ℕ → Type 0
IsMarked marks f = slice_index_or marks f false ≡ true

abbrev pub waits : Bool → ℕ
waits false = 1
waits true = 0

-- those that aren't marked yet, and those that wait
abbrev pub left : List Bool → List ℕ → ℕ
left marks waiting = sum_by waits marks + length waiting

-- the function was marked or is none, or it is marked now and waits
abbrev pub IsTaken : ℕ → List Bool → List Bool → List ℕ → List ℕ → Type 0
IsTaken f old new before after =
    ((f < length old → IsMarked old f) × (new ≡ old) × (after ≡ before)) ⊎
    ((f < length old) × (slice_index_or old f false ≡ false) × (new ≡ slice_set old f true) × (after ≡ before ++ f ∷ []))

abbrev pub HasCallee : List Call → ℕ → Type 0
HasCallee calls g = (c : Call) × (Contains calls c) × (c.callee ≡ g)

-- all callees are marked, and those that weren't before wait
pub record AreTaken (calls : List Call) (old new : List Bool) (before after : List ℕ) : Type 0 where
  pub same : length new ≡ length old
  pub kept : (g : ℕ) → IsMarked old g → IsMarked new g
  pub callees : (c : Call) → Contains calls c → c.callee < length old → IsMarked new c.callee
  pub found : (g : ℕ) → IsMarked new g → IsMarked old g ⊎ (HasCallee calls g × Contains after g)
  pub waiting : (g : ℕ) → Contains before g → Contains after g
  pub marked : (g : ℕ) → Contains after g → Contains before g ⊎ IsMarked new g
  pub paid : left new after ≡ left old before

pub record AreReached (functions : List (Vec Call)) (from : ℕ) (marks : List Bool) : Type 0 where
  pub all : length marks ≡ length functions
  pub reached : (g : ℕ) → IsMarked marks g → Reaches functions from g
  pub complete : (g : ℕ) → g < length functions → Reaches functions from g → IsMarked marks g

-- ---- the first place

abbrev pub IsFound : List (Vec Call) → Option Span → Type 0
IsFound _ None = Unit {0}
IsFound functions (Some p) = (f : ℕ) × (c : Call) × (InCycle functions f c) × (c.place ≡ p)

-- there is a place, which is the given one or stands before it
abbrev pub Covers : Option Span → Span → Type 0
Covers None _ = ⊥
Covers (Some p) q = IsUpTo p q

-- a place of a call in a cycle, none later than the one before, nor than those of a function's given calls that stand in a cycle
pub record IsNoted (functions : List (Vec Call)) (f : ℕ) (calls : List Call) (old new : Option Span) : Type 0 where
  pub is : IsFound functions new
  pub kept : (q : Span) → Covers old q → Covers new q
  pub covered : (c : Call) → Contains calls c → InCycle functions f c → Covers new c.place
