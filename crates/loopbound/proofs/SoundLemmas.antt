-- Bounds that each step keeps are bounds of each path.
use Rattle.std.proofs.Common.{◌≡◌, ℕ, ◌+◌, ◌-◌, ◌*◌, inl, inr, Bool, true, false, List, [], ◌∷◌, Option}
use Rattle.std.proofs.Common.{refl, ap, ◌∙◌, arith, Contains}
use Rattle.std.proofs.Math.Nat.{add-mul}
use Rattle.loopbound.specs.declared.graph.Bounds.{Bounds}
use Rattle.loopbound.specs.declared.graph.Loop.{Loop}
use Rattle.loopbound.specs.declared.graph.Step.{Step}
use Rattle.loopbound.specs.declared.graph.TimedLoop.{TimedLoop}
use Rattle.loopbound.specs.declared.graph.Move.{Move}
use Rattle.loopbound.specs.declared.graph.Move.TheVariants.{Stay, Turn, Leave}
use Rattle.loopbound.specs.Loops.{holds, move, move_by, turns_at, Counted, Counts, NoneTurned}
use Rattle.loopbound.specs.declared.graph.Side.{Side}
use Rattle.loopbound.specs.declared.graph.Side.TheVariants.{Least, Most}
use Rattle.loopbound.specs.Path.{Path, begin, step, Within}
use Rattle.loopbound.specs.Table.{shapes, side_of, taken, gain, due, gains, dues, Allows, CanGo, HasTurn, HaveTurns, Labels, Fits}
use Rattle.loopbound.specs.Table.{Runs, Running, Bounded}

-- ---- one loop

pub one_count : (m : Move) (n k j t : ℕ) → Counted m n k j → j * t + gain m n t ≡ k * t + due m t
one_count Stay n k j t c = ap (λ x. x * t + 0) c
one_count Turn n k j t c = let e = add-mul k 1 t in ap (λ x. x * t + 0) c.0 ∙ omega (arith, e)
one_count Leave n k j t c =
    let left : n - 1 ≡ k = let a = c.0 in omega (arith, a) in
    ap (λ x. x * t + (n - 1) * t) c.1 ∙ ap (λ x. 0 * t + x * t) left ∙ omega arith

allowed : (a b c : Bool) (n k j : ℕ) (turn : Option Bounds) → Runs a n turn k → Counted (move_by a b c) n k j
    → Allows (move_by a b c) n turn
allowed false b c n k j turn runs counted = tt
allowed true false c n k j turn (inl is) counted = let e = counted.0 in inl (omega (arith, e))
allowed true false c n k j turn (inr some) counted = inr some.1
allowed true true false n k j turn runs counted = tt
allowed true true true n k j turn runs counted = let a = counted.0 in let b = counted.1 in omega (arith, a, b)

runs_on : (a b c : Bool) (n k j : ℕ) (turn : Option Bounds) → Runs a n turn k → Counted (move_by a b c) n k j
    → HasTurn (move_by a b c) turn → Runs b n turn j
runs_on false false c n k j turn runs counted has = counted ∙ runs
runs_on false true c n k j turn runs counted has = inl (counted ∙ runs)
runs_on true false c n k j turn runs counted has = counted.1
runs_on true true false n k j turn (inl is) counted has = inl (counted ∙ is)
runs_on true true false n k j turn (inr some) counted has = inr (let a = some.0 in omega (arith, a, counted), some.1)
runs_on true true true n k j turn runs counted has = inr (counted.1, has)

-- ---- all loops

pub all_counts : (side : Side) (w v : ℕ) (k j : Loop → ℕ) (loops : List TimedLoop) → Counts (shapes loops) w v k j
    → taken side j loops + gains side w v loops ≡ taken side k loops + dues side w v loops
all_counts side w v k j [] counts = refl
all_counts side w v k j (l ∷ loops) counts =
    let here = one_count (move l.shape w v) l.shape.turns (k l.shape) (j l.shape) (side_of side l.turn) counts.0 in
    let rest = all_counts side w v k j loops counts.1 in
    omega (arith, here, rest)

pub can_go : (w v : ℕ) (k j : Loop → ℕ) (loops : List TimedLoop) → Running loops w k → Counts (shapes loops) w v k j
    → CanGo w v loops
can_go w v k j [] running counts = tt
can_go w v k j (l ∷ loops) running counts = (
  allowed (holds l.shape w) (holds l.shape v) (turns_at l.shape w v) l.shape.turns (k l.shape) (j l.shape) l.turn running.0 counts.0,
  can_go w v k j loops running.1 counts.1,
)

running_on : (w v : ℕ) (k j : Loop → ℕ) (loops : List TimedLoop) → Running loops w k → Counts (shapes loops) w v k j
    → HaveTurns w v loops → Running loops v j
running_on w v k j [] running counts have = tt
running_on w v k j (l ∷ loops) running counts have = (
  runs_on (holds l.shape w) (holds l.shape v) (turns_at l.shape w v) l.shape.turns (k l.shape) (j l.shape) l.turn
      running.0 counts.0 have.0,
  running_on w v k j loops running.1 counts.1 have.1,
)

none_runs : (a : Bool) (n k : ℕ) (turn : Option Bounds) → k ≡ 0 → Runs a n turn k
none_runs false n k turn is = is
none_runs true n k turn is = inl is

pub none_running : (w : ℕ) (k : Loop → ℕ) (loops : List TimedLoop) → NoneTurned (shapes loops) k → Running loops w k
none_running w k [] none = tt
none_running w k (l ∷ loops) none =
    (none_runs (holds l.shape w) l.shape.turns (k l.shape) l.turn none.0, none_running w k loops none.1)

pub none_taken : (side : Side) (k : Loop → ℕ) (loops : List TimedLoop) → NoneTurned (shapes loops) k → taken side k loops ≡ 0
none_taken side k [] none = refl
none_taken side k (l ∷ loops) none =
    ap (λ x. x * side_of side l.turn + taken side k loops) none.0 ∙ omega (arith, none_taken side k loops none.1)

-- ---- paths

module _ (Has : Step → Type 0) (loops : List TimedLoop) (label : Labels) (entry : ℕ) (fits : Fits Has loops label entry) where
  bounded_on : (s : Step) (k j : Loop → ℕ) (sum cycles : ℕ) → Bounded loops label s.from k sum → Has s → Within s cycles
      → Counts (shapes loops) s.from s.to k j → Bounded loops label s.to j (sum + cycles)
  bounded_on s k j sum cycles before has within counts =
      let f = fits.steps s has before.known (can_go s.from s.to k j loops before.running counts) in
      let low = f.low in let high = f.high in
      let lower = all_counts Least s.from s.to k j loops counts in
      let upper = all_counts Most s.from s.to k j loops counts in
      let below = before.low in let above = before.high in
      let least = within.0 in let most = within.1 in
      record {
        known = f.known;
        running = running_on s.from s.to k j loops before.running counts f.turns;
        low = omega (arith, low, lower, below, least);
        high = omega (arith, high, upper, above, most);
      }

  pub sound : (w : ℕ) (k : Loop → ℕ) (sum : ℕ) → Path Within Has (shapes loops) entry w k sum → Bounded loops label w k sum
  sound _ _ _ (begin k none) =
      let zero = fits.zero in
      let low = none_taken Least k loops none in
      record {
        known = fits.known;
        running = none_running entry k loops none;
        low = omega (arith, zero, low);
        high = omega arith;
      }
  sound _ _ _ (step s k j sum cycles path has within counts) =
      bounded_on s k j sum cycles (sound s.from k sum path) has within counts

pub soundness : (steps : List Step) (loops : List TimedLoop) (label : Labels) (entry w : ℕ) (k : Loop → ℕ) (sum : ℕ)
    → Fits (Contains steps) loops label entry
    → Path Within (Contains steps) (shapes loops) entry w k sum
    → Bounded loops label w k sum
soundness steps loops label entry w k sum fits path = sound (Contains steps) loops label entry fits w k sum path
