-- How the machine stands where the meaning has stopped, and that it does what the meaning says.
use Rattle.std.specs.Prelude.{ℕ, ◌≡◌, ◌+◌, ◌*◌, ◌≤◌, List, [], ◌∷◌, ◌++◌, map}
use Rattle.behaviour.specs.declared.stop.Stop.{Stop}
use Rattle.behaviour.specs.declared.stop.Stop.TheVariants as stop
use Rattle.behaviour.specs.Ran.{Ran, Stopped}
use Rattle.behaviour.specs.Simulates.{Simulates}
use Rattle.prutrace.specs.declared.event.Event.{Event}
use Rattle.prutrace.specs.declared.event.Event.TheVariants.{DelayOut}
use Rattle.midcode.specs.Machine.{Wild}
use Rattle.cmean.specs.declared.undefined.UndefinedStep.{UndefinedStep}
use Rattle.cmean.specs.State.{State}
use Rattle.lowerstate.specs.Counted.{Counted, counted}
use Rattle.lowerstate.specs.Related.{Fixed}

module _ (r : Fixed) where
  -- The same events, within 512 cycles a step and in time.
  pub record IsEven (s : State) (m : Counted) : Type 0 where
    pub events : map (λ e. e.event) s.shown ≡ m.state.events
    pub paid : m.state.charge + 100 ≤ 512 * s.steps
    pub late : s.steps ≤ r.most * m.least + r.most

  -- A delay is one operation and many steps: the machine may have shown its end, and be ahead by at most its cycles. Else nothing is ahead.
  abbrev pub IsAhead : List Event → ℕ → Type 0
  IsAhead [] cycles = cycles ≡ 0
  IsAhead (DelayOut n ∷ []) cycles = cycles ≤ n
  IsAhead rest cycles = ⊥

  -- all steps of the budget are done
  pub record IsWaiting (s : State) (m : Counted) : Type 0 where
    pub rest : List Event
    pub cycles : ℕ
    pub ahead : IsAhead rest cycles
    pub events : map (λ e. e.event) s.shown ++ rest ≡ m.state.events
    pub paid : m.state.charge + 100 ≤ 512 * s.steps + cycles
    pub late : s.steps ≤ r.most * m.least + r.most
    pub all : s.steps ≡ r.budget

  -- The machine's next operation stops too, and then they are even.
  pub record IsStopping (cause : Stop Wild) (s : State) (m : Counted) : Type 0 where
    pub last : Counted
    pub stops : counted r.program r.addresses m ≡ Stopped cause last
    pub even : IsEven s last

  -- No program comes to where the meaning is stuck.
  abbrev pub Ends : Stop UndefinedStep → State → Counted → Type 0
  Ends stop.Dry s m = IsStopping stop.Dry s m
  Ends stop.More s m = IsWaiting s m
  Ends stop.Ended s m = IsStopping stop.Ended s m
  Ends (stop.Undefined u) s m = IsEven s m
  Ends stop.Stuck s m = ⊥

  -- The machine does what a run of the meaning says, and D holds where it is done.
  abbrev pub Does : {A : Type 0} → (A → State → Counted → Type 0) → Ran UndefinedStep State A → Counted → Type 0
  Does D run m = Simulates (counted r.program r.addresses) D Ends run m
