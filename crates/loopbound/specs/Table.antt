-- Tables of bounds: a label for each word, the bounds of the sums there in first turns, and the bounds of one turn of each loop.
use Rattle.std.specs.Prelude.{◌≡◌, ℕ, ◌+◌, ◌-◌, ◌*◌, ◌<◌, ◌≤◌, ◌⊎◌, Bool, true, false, List, [], ◌∷◌, Option, Some, None, IsSome}
use Rattle.std.specs.Prelude.{slice_index_or}
use Rattle.std.specs.List.{AllByRecursion}
use Rattle.loopbound.specs.declared.graph.Bounds.{Bounds}
use Rattle.loopbound.specs.declared.graph.Loop.{Loop}
use Rattle.loopbound.specs.declared.graph.Step.{Step}
use Rattle.loopbound.specs.declared.graph.TimedLoop.{TimedLoop}
use Rattle.loopbound.specs.declared.graph.Move.{Move}
use Rattle.loopbound.specs.declared.graph.Move.TheVariants.{Stay, Turn, Leave}
use Rattle.loopbound.specs.Loops.{holds, move}
use Rattle.loopbound.specs.declared.graph.Side.{Side}
use Rattle.loopbound.specs.declared.graph.Side.TheVariants.{Least, Most}
use Rattle.loopbound.specs.Path.{at}

abbrev pub shapes : List TimedLoop → List Loop
shapes [] = []
shapes (l ∷ loops) = l.shape ∷ shapes loops

-- one side of bounds, and 0 where there are none
abbrev pub side_of : Side → Option Bounds → ℕ
side_of side None = 0
side_of side (Some b) = at side b

-- ---- sums over the loops

-- the turns that the loops have taken
abbrev pub taken : Side → (Loop → ℕ) → List TimedLoop → ℕ
taken side k [] = 0
taken side k (l ∷ loops) = k l.shape * side_of side l.turn + taken side k loops

-- A step that leaves a loop gives all turns but the first; one that turns it owes one turn.
abbrev pub gain : Move → ℕ → ℕ → ℕ
gain Stay n t = 0
gain Turn n t = 0
gain Leave n t = (n - 1) * t

abbrev pub due : Move → ℕ → ℕ
due Stay t = 0
due Turn t = t
due Leave t = 0

abbrev pub gains : Side → ℕ → ℕ → List TimedLoop → ℕ
gains side w v [] = 0
gains side w v (l ∷ loops) = gain (move l.shape w v) l.shape.turns (side_of side l.turn) + gains side w v loops

abbrev pub dues : Side → ℕ → ℕ → List TimedLoop → ℕ
dues side w v [] = 0
dues side w v (l ∷ loops) = due (move l.shape w v) (side_of side l.turn) + dues side w v loops

-- ---- steps that a path can take

-- A loop that is run once doesn't turn, and one that is run more often isn't left without a turn.
abbrev pub Allows : Move → ℕ → Option Bounds → Type 0
Allows Stay n turn = Unit {0}
Allows Turn n turn = 1 < n
Allows Leave n turn = (n ≡ 1) ⊎ IsSome turn

abbrev pub CanGo : ℕ → ℕ → List TimedLoop → Type 0
CanGo w v loops = AllByRecursion (λ l. Allows (move l.shape w v) l.shape.turns l.turn) loops

-- a step turns loops that have a turn
abbrev pub HasTurn : Move → Option Bounds → Type 0
HasTurn Turn turn = IsSome turn
HasTurn _ turn = Unit {0}

abbrev pub HaveTurns : ℕ → ℕ → List TimedLoop → Type 0
HaveTurns w v loops = AllByRecursion (λ l. HasTurn (move l.shape w v) l.turn) loops

-- ---- tables that fit, and that are tight

abbrev pub Labels : Type 0
Labels = ℕ → Option Bounds

-- the labels in a list, by their words
abbrev pub label_in : List (Option Bounds) → Labels
label_in labels w = slice_index_or labels w None

-- what a step says of the labels of its two words
pub record FitsStep (loops : List TimedLoop) (label : Labels) (s : Step) : Type 0 where
  pub known : IsSome (label s.to)
  pub turns : HaveTurns s.from s.to loops
  pub low : side_of Least (label s.to) + dues Least s.from s.to loops
      ≤ side_of Least (label s.from) + s.cost.least + gains Least s.from s.to loops
  pub high : side_of Most (label s.from) + s.cost.most + gains Most s.from s.to loops
      ≤ side_of Most (label s.to) + dues Most s.from s.to loops

-- a step that some path takes
abbrev pub KeepsBounds : List TimedLoop → Labels → Step → Type 0
KeepsBounds loops label s = IsSome (label s.from) → CanGo s.from s.to loops → FitsStep loops label s

-- A table fits where the bounds are kept by each step.
pub record Fits (Has : Step → Type 0) (loops : List TimedLoop) (label : Labels) (entry : ℕ) : Type 0 where
  pub known : IsSome (label entry)
  pub zero : side_of Least (label entry) ≡ 0
  pub steps : (s : Step) → Has s → KeepsBounds loops label s

-- a step that meets one side of the bounds
pub record Meets (loops : List TimedLoop) (label : Labels) (side : Side) (s : Step) : Type 0 where
  pub known : IsSome (label s.from)
  pub can : CanGo s.from s.to loops
  pub same : side_of side (label s.to) + dues side s.from s.to loops
      ≡ side_of side (label s.from) + at side s.cost + gains side s.from s.to loops

abbrev pub TurnsNone : List TimedLoop → Step → Type 0
TurnsNone loops s = AllByRecursion (λ l. move l.shape s.from s.to ≡ Turn → ⊥) loops

-- why a word has its label: it is the entry's, or a step that turns nothing comes to it
pub data Reason (Has : Step → Type 0) (loops : List TimedLoop) (label : Labels) (entry : ℕ) (side : Side) (w : ℕ) : Type 0 where
  at_entry : w ≡ entry → side_of side (label w) ≡ 0 → Reason Has loops label entry side w
  by_step : (s : Step) → Has s → s.to ≡ w → Meets loops label side s → TurnsNone loops s
      → Reason Has loops label entry side w

-- why a loop has its turn
pub record TurnReason (Has : Step → Type 0) (loops : List TimedLoop) (label : Labels) (side : Side) (l : Loop) : Type 0 where
  pub step : Step
  pub has : Has step
  pub meets : Meets loops label side step
  pub turns : move l step.from step.to ≡ Turn

-- A table is tight where one step meets each of its bounds.
pub record Tight (Has : Step → Type 0) (loops : List TimedLoop) (label : Labels) (entry : ℕ) (side : Side) : Type 0 where
  pub words : (w : ℕ) → IsSome (label w) → Reason Has loops label entry side w
  pub turns : AllByRecursion (λ l. IsSome l.turn → TurnReason Has loops label side l.shape) loops

-- ---- counts that a path can have

abbrev pub Runs : Bool → ℕ → Option Bounds → ℕ → Type 0
Runs false n turn k = k ≡ 0
Runs true n turn k = (k ≡ 0) ⊎ ((k < n) × IsSome turn)

-- A loop that has turned holds the word, has a turn and was run one time more than it has turned, which is at most its number of runs.
abbrev pub Running : List TimedLoop → ℕ → (Loop → ℕ) → Type 0
Running loops w k = AllByRecursion (λ l. Runs (holds l.shape w) l.shape.turns l.turn (k l.shape)) loops

-- the bounds of the sums at a word with these counts
pub record Bounded (loops : List TimedLoop) (label : Labels) (w : ℕ) (k : Loop → ℕ) (sum : ℕ) : Type 0 where
  pub known : IsSome (label w)
  pub running : Running loops w k
  pub low : side_of Least (label w) + taken Least k loops ≤ sum
  pub high : sum ≤ side_of Most (label w) + taken Most k loops

-- ---- how loops lie and are entered

abbrev pub LiesIn : Loop → Loop → Type 0
LiesIn a b = (b.first ≤ a.first) × (a.last ≤ b.last)

-- the first lies in the second, or they have no word together
abbrev pub Apart : Loop → Loop → Type 0
Apart a b = LiesIn a b ⊎ ((a.last < b.first) ⊎ (b.last < a.first))

-- inner loops stand before outer ones
abbrev pub InnerFirst : List Loop → Type 0
InnerFirst [] = Unit {0}
InnerFirst (l ∷ loops) = AllByRecursion (Apart l) loops × InnerFirst loops

abbrev pub NoTurn : ℕ → ℕ → Loop → Type 0
NoTurn w v l = move l w v ≡ Turn → ⊥

-- a step from w to v turns one loop at most
abbrev pub AtMostOne : ℕ → ℕ → List Loop → Type 0
AtMostOne w v [] = Unit {0}
AtMostOne w v (l ∷ loops) = (move l w v ≡ Turn → AllByRecursion (NoTurn w v) loops) × AtMostOne w v loops

abbrev pub Enters : ℕ → ℕ → Loop → Type 0
Enters w v l = holds l w ≡ false → holds l v ≡ true → v ≡ l.first

-- Each loop is run once or more and entered at its first word, inner loops stand before outer ones, a step turns at most one loop, and
-- takes some time.
pub record Nested (Has : Step → Type 0) (loops : List Loop) (entry : ℕ) : Type 0 where
  pub run : AllByRecursion (λ l. 0 < l.turns) loops
  pub inner_first : InnerFirst loops
  pub begins : AllByRecursion (λ l. holds l entry ≡ true → entry ≡ l.first) loops
  pub enters : (s : Step) → Has s → AllByRecursion (Enters s.from s.to) loops
  pub one_turn : (s : Step) → Has s → AtMostOne s.from s.to loops
  pub takes_time : (s : Step) → Has s → 0 < s.cost.most

-- ---- for lists

-- an element has P
abbrev pub AnyOf : {X : Type 0} → (X → Type 0) → List X → Type 0
AnyOf P [] = ⊥
AnyOf P (x ∷ xs) = P x ⊎ AnyOf P xs

-- a step comes to a word, turns nothing and meets its label
abbrev pub Explains : List TimedLoop → Labels → Side → ℕ → Step → Type 0
Explains loops label side w s = (s.to ≡ w) × Meets loops label side s × TurnsNone loops s

-- a step turns a loop and meets its turn
abbrev pub ExplainsTurn : List TimedLoop → Labels → Side → Loop → Step → Type 0
ExplainsTurn loops label side l s = Meets loops label side s × (move l s.from s.to ≡ Turn)

-- a word that has a label is the entry with 0, or a step explains it
abbrev pub WordExplained : List Step → List TimedLoop → Labels → ℕ → Side → ℕ → Type 0
WordExplained steps loops label entry side w =
    IsSome (label w) → ((w ≡ entry) × (side_of side (label w) ≡ 0)) ⊎ AnyOf (Explains loops label side w) steps

abbrev pub LoopExplained : List Step → List TimedLoop → Labels → Side → TimedLoop → Type 0
LoopExplained steps loops label side l = IsSome l.turn → AnyOf (ExplainsTurn loops label side l.shape) steps
