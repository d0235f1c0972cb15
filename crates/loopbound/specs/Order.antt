-- The order in which one pass over the steps makes a table.
use Rattle.std.specs.Prelude.{◌≡◌, ℕ, ◌<◌, ◌≤◌, ◌⊎◌, Bool, true, false, if◌then◌else◌, List, [], ◌∷◌, Option, Some, None}
use Rattle.std.specs.Prelude.{length, slice_index_or, Contains}
use Rattle.std.specs.List.{AllByRecursion}
use Rattle.loopbound.specs.declared.graph.Bounds.{Bounds}
use Rattle.loopbound.specs.declared.graph.Loop.{Loop}
use Rattle.loopbound.specs.declared.graph.Move.{Move}
use Rattle.loopbound.specs.declared.graph.Move.TheVariants.{Stay, Turn, Leave}
use Rattle.loopbound.specs.declared.graph.Side.{Side}
use Rattle.loopbound.specs.declared.graph.Step.{Step}
use Rattle.loopbound.specs.declared.graph.TimedLoop.{TimedLoop}
use Rattle.loopbound.specs.Loops.{move}
use Rattle.loopbound.specs.Path.{Path, Exactly}
use Rattle.loopbound.specs.Table.{shapes, Labels, label_in, Fits, Tight, Nested}
use Rattle.loopbound.specs.Joining.{IsAbove}

abbrev pub is_turn : Move → Bool
is_turn Stay = false
is_turn Turn = true
is_turn Leave = false

-- the loop that a step from word w to word v turns
abbrev pub turned_loop : List Loop → ℕ → ℕ → Option Loop
turned_loop [] w v = None
turned_loop (l ∷ loops) w v = if is_turn (move l w v) then Some l else turned_loop loops w v

-- where a step stands: at the word that it comes to, or behind the loop that it turns
pub data Place : Type 0 where
  AtWord : ℕ → Place
  BehindLoop : Loop → Place

abbrev pub place_by : ℕ → Option Loop → Place
place_by v None = AtWord v
place_by v (Some l) = BehindLoop l

abbrev pub place : List Loop → Step → Place
place loops s = place_by s.to (turned_loop loops s.from s.to)

-- Words stand in their order, a loop behind its last word, and of loops with one last word the inner ones first.
abbrev pub NotLater : Place → Place → Type 0
NotLater (AtWord v) (AtWord w) = v ≤ w
NotLater (AtWord v) (BehindLoop l) = v ≤ l.last
NotLater (BehindLoop l) (AtWord w) = l.last < w
NotLater (BehindLoop a) (BehindLoop b) = (a.last < b.last) ⊎ ((a.last ≡ b.last) × (b.first ≤ a.first))

abbrev pub StandsAt : List Step → ℕ → Step → Type 0
StandsAt steps i s = (i < length steps) × (slice_index_or steps i s ≡ s)

-- a step stands before a place of the list
pub record StandsBefore (steps : List Step) (i : ℕ) (s : Step) : Type 0 where
  pub index : ℕ
  pub less : index < i
  pub stands : StandsAt steps index s

-- each step stands no later than those behind it in the list
abbrev pub Ascend : List Loop → List Step → Type 0
Ascend loops [] = Unit {0}
Ascend loops (s ∷ steps) = AllByRecursion (λ t. NotLater (place loops s) (place loops t)) steps × Ascend loops steps

-- The steps stand in this order, and those that turn nothing go upwards.
pub record InOrder (steps : List Step) (loops : List Loop) (entry : ℕ) : Type 0 where
  pub nested : Nested (Contains steps) loops entry
  pub ascend : Ascend loops steps
  pub upwards : (s : Step) → Contains steps s → turned_loop loops s.from s.to ≡ None → s.from < s.to

-- ---- what a pass is given, and where it ends

-- The steps stand in their order, each comes to a word that has a place in the table, and the table is empty.
pub record IsReady (steps : List Step) (loops : List TimedLoop) (labels : List (Option Bounds)) (entry : ℕ) : Type 0 where
  pub order : InOrder steps (shapes loops) entry
  pub within : (s : Step) → Contains steps s → s.to < length labels
  pub entry_within : entry < length labels
  pub no_turns : AllByRecursion (λ l. l.turn ≡ None) loops
  pub no_labels : (w : ℕ) → label_in labels w ≡ None

-- A step has a sum above a limit: the bounds of the steps before it, which are those of all paths over these, lead to it.
pub record IsLong (steps : List Step) (shape : List Loop) (entry limit : ℕ) : Type 0 where
  pub index : ℕ
  pub step : Step
  pub loops : List TimedLoop
  pub label : Labels
  pub stands : StandsAt steps index step
  pub same : shapes loops ≡ shape
  pub fits : Fits (StandsBefore steps index) loops label entry
  pub tight : (side : Side) → Tight (StandsBefore steps index) loops label entry side
  pub above : IsAbove step loops label limit

-- a path whose steps all take their least, or all their most, and whose sum is above a limit
pub record LongPath (steps : List Step) (loops : List Loop) (entry limit : ℕ) : Type 0 where
  pub side : Side
  pub word : ℕ
  pub counts : Loop → ℕ
  pub sum : ℕ
  pub path : Path (Exactly side) (Contains steps) loops entry word counts sum
  pub above : limit < sum
