-- The machine of operations, with a count of the instructions that its operations are at the least. The count ties source steps to
-- instructions: what a source does between two solid operations is no more than its nodes.
use Rattle.std.specs.Prelude.{ℕ, ◌+◌, List, take, if◌then◌else◌, Option, Some, None, slice_get}
use Rattle.behaviour.specs.Ran.{Ran, Done, Stopped}
use Rattle.midcode.specs.declared.op.OpKind.{OpKind}
use Rattle.midcode.specs.declared.op.OpKind.TheVariants as op
use Rattle.midcode.specs.Function.{standing}
use Rattle.midcode.specs.Program.{Program}
use Rattle.midcode.specs.Region.{is_solid}
use Rattle.midcode.specs.Machine.{Wild, State}
use Rattle.midcode.specs.Meaning.{running, step}

pub record Counted : Type 0 where
  pub state : State
  pub least : ℕ  -- the instructions so far, at the least

-- A delay is an instruction for each of its cycles; every other solid operation is one at least, on each way through it.
abbrev pub least_of : List ℕ → OpKind → ℕ
least_of before (op.Delay n) = n
least_of before k = if is_solid before k then 1 else 0

-- those of the operation at a place, where there is one
abbrev pub least_at : List OpKind → ℕ → Option OpKind → ℕ
least_at ks place None = 0
least_at ks place (Some k) = least_of (standing (take place ks)) k

abbrev pub counting : ℕ → Ran Wild State (Unit {0}) → Ran Wild Counted (Unit {0})
counting least (Done u s) = Done u (record { state = s; least = least })
counting least (Stopped c s) = Stopped c (record { state = s; least = least })

-- one operation
abbrev pub counted : Program → List ℕ → Counted → Ran Wild Counted (Unit {0})
counted p a m =
    let ks = running p m.state in
    let place = m.state.frame.place in
    counting (m.least + least_at ks place (slice_get ks place)) (step p a m.state)
