-- The machine of operations with a count of its own. What is counted may go by the labels that stand before an operation; so the
-- instructions that operations are at the least can be counted, a jump back being one.
use Rattle.std.specs.Prelude.{◌≡◌, ℕ, ◌+◌, true, List, take, Option, Some, None, slice_get}
use Rattle.behaviour.specs.Ran.{Ran, Done, Stopped}
use Rattle.behaviour.specs.Machine.{exec}
use Rattle.midcode.specs.declared.op.OpKind.{OpKind}
use Rattle.midcode.specs.Operation.{is_value}
use Rattle.midcode.specs.Function.{standing}
use Rattle.midcode.specs.Program.{Program}
use Rattle.midcode.specs.Machine.{Wild, State}
use Rattle.midcode.specs.Meaning.{running, step, start}

-- what an operation counts for, by the labels before it
abbrev pub Weight : Type 0
Weight = List ℕ → OpKind → ℕ

-- Operations that only compute a value count for nothing.
abbrev pub IsOfActs : Weight → Type 0
IsOfActs w = (before : List ℕ) (k : OpKind) → is_value k ≡ true → w before k ≡ 0

pub record Weighed : Type 0 where
  pub state : State
  pub weight : ℕ

abbrev pub weight_at : Weight → List OpKind → ℕ → Option OpKind → ℕ
weight_at w ks place None = 0
weight_at w ks place (Some k) = w (standing (take place ks)) k

abbrev pub weighing : ℕ → Ran Wild State (Unit {0}) → Ran Wild Weighed (Unit {0})
weighing weight (Done u s) = Done u (record { state = s; weight = weight })
weighing weight (Stopped c s) = Stopped c (record { state = s; weight = weight })

-- one operation
abbrev pub weighed : Weight → Program → List ℕ → Weighed → Ran Wild Weighed (Unit {0})
weighed w p a m =
    let ks = running p m.state in
    let place = m.state.frame.place in
    weighing (m.weight + weight_at w ks place (slice_get ks place)) (step p a m.state)

-- the run of a program for at most so many operations
abbrev pub run : Weight → Program → List ℕ → List ℕ → ℕ → Ran Wild Weighed (Unit {0})
run w p a values n = exec (weighed w p a) n (record { state = start p a values; weight = 0 })
