-- Code for a run that ends in one of several ways: with what follows it, or at a label that a break or a continue goes to.
use Rattle.std.specs.Prelude.{ℕ, ◌≡◌, ◌+◌, Bool, true, false, not, if◌then◌else◌, List, length, Option, Some, None}
use Rattle.midcode.specs.Meaning.{standing_at}
use Rattle.cmean.specs.Datum.{Datum}
use Rattle.cmean.specs.State.{State, Run}
use Rattle.cmean.specs.Statement.{Flow, Next, Broke, Continued, Returned}
use Rattle.lowerstate.specs.Counted.{Counted}
use Rattle.lowerstate.specs.Held.{Meant}
use Rattle.lowerstate.specs.Related.{Fixed, Call, Point, Related}
use Rattle.lowerstate.specs.Stands.{Does}
use Rattle.lowerstate.specs.Piece.{Code, Free, least_hand, IsIn, IsReady, Evaluates, IsValue}

-- the labels that a break and a continue go to, where one may stand
pub record Exits : Type 0 where
  pub broke : Option ℕ
  pub continued : Option ℕ

abbrev pub no_exits : Exits
no_exits = record { broke = None; continued = None }

-- behind the code, with these cycles in hand; no value is kept
abbrev pub past : Point → Code → ℕ → ℕ → Point
past x code nodes hand = record x { place = x.place + length code.ops; hand = hand; owed = x.owed + nodes }

-- at a label of the function
abbrev pub Landed : Fixed → Call → Option ℕ → Point → State → Counted → Type 0
Landed r c exit y s m = (l : ℕ) × (exit ≡ Some l) × Related r c (record y { place = standing_at c.ops l }) s m

-- How a run has ended: at the end of its code, or at the label of a break or a continue. There is no code yet for a return.
abbrev pub Ended : Fixed → Call → Exits → Point → Flow → State → Counted → Type 0
Ended r c e y Next s m = Related r c y s m
Ended r c e y Broke s m = Landed r c e.broke y s m
Ended r c e y Continued s m = Landed r c e.continued y s m
Ended r c e y (Returned v) s m = ⊥

-- Code for a run that ends so. `flow` tells of what it gives how it has ended. So many steps at the most, so many cycles left in hand.
pub record Goes (r : Fixed) (c : Call) (e : Exits) (f : Free) (code : Code) {A : Type 0} (flow : A → Flow) (run : Run A)
    (nodes back : ℕ) : Type 0 where
  pub does : (x : Point) (hand : ℕ) (s : State) (m : Counted) → IsIn c f code x.place → IsReady r c f nodes hand x → Related r c x s m
      → Does r (λ a. Ended r c e (past x code nodes (hand + back)) (flow a)) (run r.budget s) m

-- what the step of a statement has paid for behind itself
abbrev pub step_hand : ℕ
step_hand = 100

-- The same of a statement behind its own step, which is paid for; nothing of that is left behind the statement.
pub record Begins (r : Fixed) (c : Call) (e : Exits) (f : Free) (code : Code) (run : Run Flow) (nodes : ℕ) : Type 0 where
  pub does : (x : Point) (hand : ℕ) (s : State) (m : Counted) → IsIn c f code x.place → IsReady r c f nodes (step_hand + hand) x
      → Related r c x s m → Does r (Ended r c e (past x code nodes hand)) (run r.budget s) m

abbrev pub always_next : {A : Type 0} → A → Flow
always_next a = Next

abbrev pub itself : Flow → Flow
itself flow = flow

-- ---- conditions

-- a test jumps where the truth is the one that it jumps at
abbrev pub jumps : Bool → Bool → Bool
jumps true truth = truth
jumps false truth = not truth

-- Code for a condition, which goes to a label where the truth is the one that it jumps at, and else is behind itself.
pub record Tests (r : Fixed) (c : Call) (f : Free) (code : Code) (sense : Bool) (label : ℕ) (run : Run Bool) (nodes back : ℕ) : Type 0
  where
    pub does : (x : Point) (hand : ℕ) (s : State) (m : Counted) → IsIn c f code x.place → IsReady r c f nodes hand x → Related r c x s m
        → Does r (λ truth. Related r c (record (past x code nodes (hand + back)) {
          place = if jumps sense truth then standing_at c.ops label else x.place + length code.ops;
        })) (run r.budget s) m
