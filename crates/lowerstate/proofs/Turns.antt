-- Turns of a loop. Each is one step at the least, so that their count never runs out before the budget.
use Rattle.std.proofs.Common.{ℕ, zero, suc, ◌+◌, ◌<◌, ◌≤◌, refl, arith}
use Rattle.behaviour.specs.Ran.{Turn, Again, Over}
use Rattle.behaviour.specs.Simulates.{AfterTurn}
use Rattle.behaviour.proofs.SimulatesLemmas.{simulates-weaker, loop}
use Rattle.cmean.specs.State.{State, Run}
use Rattle.cmean.specs.Statement as statement
use Rattle.cmean.specs.Statement.{Flow}
use Rattle.lowerstate.specs.Counted.{Counted, counted}
use Rattle.lowerstate.specs.Related.{Fixed, Call, Point, Related}
use Rattle.lowerstate.specs.Stands.{IsWaiting, Ends, Does}
use Rattle.lowerstate.proofs.Pieces.{adjust}

module _ (r : Fixed) (c : Call) (x : Point) (D : Flow → State → Counted → Type 0) (turn : Run (Turn Flow)) where
  -- before a turn, at its least number of steps
  abbrev Before : ℕ → State → Counted → Type 0
  Before steps = Related r c (record x { steps = steps })

  -- the turns that are left are more than the steps that are left
  abbrev Left : ℕ → State → Counted → Type 0
  Left n s m = (steps : ℕ) × (r.budget < n + steps) × (x.steps ≤ steps) × Before steps s m

  none-left : (s : State) (m : Counted) → Left zero s m → IsWaiting r s m
  none-left s m at =
      let few = at.1 in let done = at.3.done in let left = at.3.left in absurd (omega (arith, few, done, left))

  turn-left : (n steps : ℕ) → r.budget < suc n + steps → x.steps ≤ steps → (t : Turn Flow) (s : State) (m : Counted)
      → AfterTurn (Before (steps + 1)) D t s m → AfterTurn (Left n) D t s m
  turn-left n steps few more Again s m related = (steps + 1, omega (arith, few), omega (arith, more), related)
  turn-left n steps few more (Over a) s m holds = holds

  pub loop-does : ((steps : ℕ) (s : State) (m : Counted) → x.steps ≤ steps → Before steps s m
      → Does r (AfterTurn (Before (steps + 1)) D) (turn r.budget s) m)
      → (s : State) (m : Counted) → Related r c x s m → Does r D (statement.loop turn r.budget s) m
  loop-does each s m related =
      loop (counted r.program r.addresses) (Ends r) Left D (turn r.budget)
      (λ n s m at. simulates-weaker (counted r.program r.addresses) (Ends r) (AfterTurn (Before (at.0 + 1)) D) (AfterTurn (Left n) D)
      (Ends r) (turn-left n at.0 at.1 at.2) (λ cause s m ends. ends) (turn r.budget s) m (each at.0 s m at.2 at.3))
      none-left (suc r.budget) s m (
        x.steps,
        omega arith,
        omega arith,
        adjust r c x (record x { steps = x.steps }) s m refl (omega arith) (omega arith) (omega arith) related related.kept,
      )
