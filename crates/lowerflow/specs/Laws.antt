-- What the codes of constructs do, of any parts: a law for each.
use Rattle.std.specs.Prelude.{ℕ, ◌≡◌, ◌+◌, Bool, true, false, if◌then◌else◌}
use Rattle.behaviour.specs.Ran.{Turn, Again, Over}
use Rattle.csyn.specs.declared.specifiers.Sign.{Sign}
use Rattle.csyn.specs.declared.operator.LogicalOperator.{LogicalOperator}
use Rattle.prutrace.specs.declared.event.Event.TheVariants as event
use Rattle.cmean.specs.Datum.{Datum}
use Rattle.cmean.specs.State.{Run, give, then_with, then_do, tick, mark_now, entered}
use Rattle.cmean.specs.Expression.{Valued, valued, truth, logical}
use Rattle.cmean.specs.Statement.{Flow, Next, Broke, Continued, loop, if_true, do_loop, then_next}
use Rattle.lowerstate.specs.Held.{Meant, meant_width}
use Rattle.lowerstate.specs.Related.{Fixed, Call}
use Rattle.lowerstate.specs.Piece.{Code, Free, behind, joined, node_back, least_hand, Evaluates, IsValue, IsDatum, word}
use Rattle.lowerflow.specs.Goes.{Exits, no_exits, Goes, Begins, always_next, itself, Tests}
use Rattle.lowerflow.specs.Codes.{reserve, test_code, logical_code, conditional_code, region_code, either_code, if_code, loop_exits, loop_code, do_code}

module _ (r : Fixed) (c : Call) where
  -- a value, and a jump by its truth
  abbrev pub TestLaw : Type 0
  TestLaw = (f : Free) (a : Code) (t : Meant) (sense : Bool) (l : ℕ) (run : Run Valued) (nodes left : ℕ)
      → Evaluates r c f a IsValue t run nodes (left + 9) → Tests r c f (test_code sense l a) sense l (truth run) nodes left

  -- `&&` and `||`
  abbrev pub LogicalLaw : Type 0
  LogicalLaw = (f : Free) (a b : Code) (t u : Meant) (sign : Sign) (run second : Run Valued) (nodes others : ℕ)
      → Evaluates r c (reserve 2 f) a IsValue t run nodes node_back
      → Evaluates r c (behind (reserve 2 f) a) b IsValue u second others node_back → (o : LogicalOperator)
      → Evaluates r c f (logical_code o f a b) IsValue (word sign) (logical o run second) (nodes + others) 300

  -- `?:` of a value
  abbrev pub ConditionalLaw : Type 0
  ConditionalLaw = (f : Free) (k a b : Code) (t : Meant) (cond : Run Bool) (run second : Run Datum) (nodes n1 n2 : ℕ)
      → Tests r c (reserve 2 f) k false f.label cond nodes 311
      → Evaluates r c (behind (reserve 2 f) k) a IsDatum t run n1 308
      → Evaluates r c (behind (behind (reserve 2 f) k) a) b IsDatum t second n2 308
      → Evaluates r c f (conditional_code (meant_width t) f k a b) IsValue t
      (then_with cond (λ y. if y then then_with run valued else then_with second valued)) (nodes + (n1 + n2)) 280

  -- if with else
  abbrev pub EitherLaw : Type 0
  EitherLaw = (e : Exits) (f : Free) (k a b : Code) (cond : Run Bool) (run second : Run Flow) (nodes n1 n2 : ℕ)
      → Tests r c (reserve 2 f) k false f.label cond nodes 311
      → Goes r c e (behind (reserve 2 f) k) a itself run n1 node_back
      → Goes r c e (behind (behind (reserve 2 f) k) a) b itself second n2 node_back
      → Goes r c e f (either_code f k a b) itself (then_with cond (λ y. if y then run else second)) (nodes + (n1 + n2)) 300

  -- if without else
  abbrev pub IfLaw : Type 0
  IfLaw = (e : Exits) (f : Free) (k a : Code) (cond : Run Bool) (run : Run Flow) (nodes n1 : ℕ)
      → Tests r c (reserve 1 f) k false f.label cond nodes 311 → Goes r c e (behind (reserve 1 f) k) a itself run n1 node_back
      → Goes r c e f (if_code f k a) itself (then_with cond (λ y. if y then run else give Next)) (nodes + n1) 300

  -- A loop with its test first. `rest` says how a turn goes on behind its body.
  abbrev pub LoopLaw : Type 0
  LoopLaw = (e : Exits) (f : Free) (k a third : Code) (cond : Run Bool) (run : Run Flow) (behind_run : Run (Unit {0}))
      (rest : Flow → Run (Turn Flow)) (nodes n1 n2 : ℕ) → Tests r c (reserve 3 f) k false (f.label + 2) cond nodes least_hand
      → Begins r c (loop_exits f) (behind (reserve 3 f) k) a run n1
      → Goes r c no_exits (behind (behind (reserve 3 f) k) a) third always_next behind_run n2 least_hand
      → rest Next ≡ then_do behind_run (give Again) → rest Continued ≡ then_do behind_run (give Again) → rest Broke ≡ give (Over Next)
      → Goes r c e f (loop_code f k a third) itself (loop (if_true cond (then_with (entered run) rest) Next)) (nodes + (n1 + 1 + n2)) 0

  -- a loop with its test last
  abbrev pub DoLaw : Type 0
  DoLaw = (e : Exits) (f : Free) (a k : Code) (t : Meant) (run : Run Flow) (value : Run Valued) (n1 nodes : ℕ)
      → Begins r c (loop_exits f) (reserve 3 f) a run n1
      → Evaluates r c (behind (reserve 3 f) a) k IsValue t value nodes node_back
      → Goes r c e f (do_code f a (test_code true f.label k)) itself (do_loop (entered run) (truth value)) (n1 + 1 + nodes) 0

  -- a statement with its own step
  abbrev pub StepLaw : Type 0
  StepLaw = (e : Exits) (f : Free) (code : Code) (run : Run Flow) (nodes : ℕ) → Begins r c e f code run nodes
      → Goes r c e f code itself (entered run) (nodes + 1) node_back

  -- a region, which is left at its end alone
  abbrev pub RegionLaw : Type 0
  RegionLaw = (e : Exits) (f : Free) (n : ℕ) (a : Code) (run : Run Flow) (nodes : ℕ) → Goes r c no_exits f a itself run nodes least_hand
      → Begins r c e f (region_code n a) (then_do (mark_now (event.Enter n)) (then_with run (λ flow. then_do tick
      (then_do (mark_now (event.Leave n)) (give flow))))) (nodes + 1)

  -- a statement, and what follows where it is come to
  abbrev pub NextLaw : Type 0
  NextLaw = (e : Exits) (f : Free) (a b : Code) (run second : Run Flow) (nodes others spare : ℕ)
      → Goes r c e f a itself run nodes (least_hand + spare) → Goes r c e (behind f a) b itself second others least_hand
      → Goes r c e f (joined a b) itself (then_next run second) (nodes + others) (spare + least_hand)
