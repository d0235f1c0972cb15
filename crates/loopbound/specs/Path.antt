-- Paths over the steps that there are, with the counts of loops and their sums.
use Rattle.std.specs.Prelude.{◌≡◌, ℕ, ◌+◌, ◌≤◌, List}
use Rattle.loopbound.specs.declared.graph.Bounds.{Bounds}
use Rattle.loopbound.specs.declared.graph.Loop.{Loop}
use Rattle.loopbound.specs.declared.graph.Side.{Side}
use Rattle.loopbound.specs.declared.graph.Side.TheVariants.{Least, Most}
use Rattle.loopbound.specs.declared.graph.Step.{Step}
use Rattle.loopbound.specs.Loops.{Counts, NoneTurned}

abbrev pub at : Side → Bounds → ℕ
at Least b = b.least
at Most b = b.most

-- the cycles that a step may take
abbrev pub Within : Step → ℕ → Type 0
Within s c = (s.cost.least ≤ c) × (c ≤ s.cost.most)

-- the least, or the most
abbrev pub Exactly : Side → Step → ℕ → Type 0
Exactly side s c = c ≡ at side s.cost

-- A path from an entry to a word, with the counts of the loops there and its sum. `Takes` says which cycles a step may take, `Has` which
-- steps there are.
pub data Path (Takes : Step → ℕ → Type 0) (Has : Step → Type 0) (loops : List Loop) (entry : ℕ) : ℕ → (Loop → ℕ) → ℕ → Type 0 where
  begin : (k : Loop → ℕ) → NoneTurned loops k → Path Takes Has loops entry entry k 0
  step : (s : Step) (k after : Loop → ℕ) (sum cycles : ℕ) → Path Takes Has loops entry s.from k sum → Has s → Takes s cycles
      → Counts loops s.from s.to k after
      → Path Takes Has loops entry s.to after (sum + cycles)

-- the sums at a word over paths whose loops are in their first turns
pub record Shares (Has : Step → Type 0) (loops : List Loop) (entry word sum : ℕ) : Type 0 where
  pub counts : Loop → ℕ
  pub path : Path Within Has loops entry word counts sum
  pub first_turns : NoneTurned loops counts

-- the least and the greatest of some numbers
pub record AreBounds (IsOne : ℕ → Type 0) (b : Bounds) : Type 0 where
  pub has_least : IsOne b.least
  pub has_most : IsOne b.most
  pub within : (n : ℕ) → IsOne n → (b.least ≤ n) × (n ≤ b.most)
