-- What one step adds to a table.
use Rattle.std.specs.Prelude.{◌≡◌, ℕ, ◌+◌, ◌-◌, ◌<◌, ◌⊎◌, min, max, List, [], ◌∷◌, Option, Some, None, IsSome}
use Rattle.loopbound.specs.declared.graph.Bounds.{Bounds}
use Rattle.loopbound.specs.declared.graph.Move.{Move}
use Rattle.loopbound.specs.declared.graph.Move.TheVariants.{Stay, Turn, Leave}
use Rattle.loopbound.specs.declared.graph.Side.{Side}
use Rattle.loopbound.specs.declared.graph.Side.TheVariants.{Least, Most}
use Rattle.loopbound.specs.declared.graph.Step.{Step}
use Rattle.loopbound.specs.declared.graph.TimedLoop.{TimedLoop}
use Rattle.loopbound.specs.Loops.{move}
use Rattle.loopbound.specs.Path.{at}
use Rattle.loopbound.specs.Table.{side_of, gains, Labels, label_in, CanGo, TurnsNone}

abbrev pub joined : Option Bounds → Bounds → Bounds
joined None v = v
joined (Some b) v = record { least = min b.least v.least; most = max b.most v.most }

abbrev pub turned : Move → Bounds → Option Bounds → Option Bounds
turned Stay x turn = turn
turned Turn x turn = Some (joined turn x)
turned Leave x turn = turn

-- the bounds of one turn, joined to the loops that a step turns
abbrev pub turn_all : ℕ → ℕ → Bounds → List TimedLoop → List TimedLoop
turn_all w v x [] = []
turn_all w v x (l ∷ loops) = record { shape = l.shape; turn = turned (move l.shape w v) x l.turn } ∷ turn_all w v x loops

-- the sum behind a step
abbrev pub sum_behind : Side → List TimedLoop → Labels → Step → ℕ
sum_behind side loops label s = side_of side (label s.from) + at side s.cost + gains side s.from s.to loops

-- ---- what a step makes of a table

-- a path can take the step
abbrev pub Known : Step → List TimedLoop → Labels → Type 0
Known s loops label = IsSome (label s.from) × CanGo s.from s.to loops

-- A step that no path can take changes nothing. One that turns nothing joins its sum to the label of the word that it comes to, one that
-- turns a loop joins what its sum is above that label to the loop's turn.
pub data Takes (s : Step) (loops : List TimedLoop) (labels : List (Option Bounds)) : List TimedLoop → List (Option Bounds) → Type 0 where
  skipped : (Known s loops (label_in labels) → ⊥) → Takes s loops labels loops labels
  word : (v : Bounds) (after : List (Option Bounds)) → Known s loops (label_in labels) → TurnsNone loops s
      → v.least ≡ sum_behind Least loops (label_in labels) s → v.most ≡ sum_behind Most loops (label_in labels) s
      → label_in after s.to ≡ Some (joined (label_in labels s.to) v)
      → ((w : ℕ) → (w ≡ s.to → ⊥) → label_in after w ≡ label_in labels w)
      → Takes s loops labels loops after
  turn : (x : Bounds) → Known s loops (label_in labels) → (TurnsNone loops s → ⊥)
      → x.least ≡ sum_behind Least loops (label_in labels) s - side_of Least (label_in labels s.to)
      → x.most ≡ sum_behind Most loops (label_in labels) s - side_of Most (label_in labels s.to)
      → Takes s loops labels (turn_all s.from s.to x loops) labels

-- its sum is above a limit
abbrev pub IsAbove : Step → List TimedLoop → Labels → ℕ → Type 0
IsAbove s loops label limit =
    Known s loops label × ((limit < sum_behind Least loops label s) ⊎ (limit < sum_behind Most loops label s))
