-- What stands when some steps have been taken: the table fits and is tight for them, and no label in a loop is below its first word's.
use Rattle.std.specs.Prelude.{◌≡◌, ℕ, ◌≤◌, true, List, IsSome, Contains}
use Rattle.loopbound.specs.declared.graph.Loop.{Loop}
use Rattle.loopbound.specs.declared.graph.Side.{Side}
use Rattle.loopbound.specs.declared.graph.Step.{Step}
use Rattle.loopbound.specs.declared.graph.TimedLoop.{TimedLoop}
use Rattle.loopbound.specs.Loops.{holds}
use Rattle.loopbound.specs.Table.{shapes, side_of, Labels, Fits, Tight}

abbrev pub Rises : Labels → Loop → Type 0
Rises label l =
    (w : ℕ) → holds l w ≡ true → IsSome (label w)
    → IsSome (label l.first) × ((side : Side) → side_of side (label l.first) ≤ side_of side (label w))

pub record Made (Has : Step → Type 0) (loops : List TimedLoop) (label : Labels) (entry : ℕ) : Type 0 where
  pub fits : Fits Has loops label entry
  pub tight : (side : Side) → Tight Has loops label entry side
  pub rises : (l : Loop) → Contains (shapes loops) l → Rises label l
