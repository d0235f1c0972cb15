-- One core alone: each read that isn't of its private part is answered by the next value of a list, and what it stores outside goes
-- nowhere but
-- into its events.
use Rattle.std.specs.Prelude.{ℕ, ◌+◌, List, [], ◌++◌, Option, Some, None}
use Rattle.prutrace.specs.declared.event.Event.{Event}
use Rattle.isa.specs.declared.inst.Inst.{Inst}
use Rattle.isa.specs.Image.{Contents}
use Rattle.behaviour.specs.declared.stop.Stop.TheVariants as stops
use Rattle.behaviour.specs.Ran.{Ran, Done, Stopped}
use Rattle.behaviour.specs.Machine.{exec}
use Rattle.corestep.specs.declared.out.Stop.{Stop}
use Rattle.corestep.specs.declared.out.Stop.TheVariants as stands
use Rattle.corestep.specs.Core.{State, at_start}
use Rattle.corestep.specs.Effect.{Given}
use Rattle.corestep.specs.Step.{Stepped, istep, inst_at}
use Rattle.corerun.specs.Values.{Taken, taken_by}

-- the core, whether it goes on, the values that are left, what showed so far, and how many instructions are done
pub record Alone : Type 0 where
  pub core : State
  pub stands : Stop
  pub left : List ℕ
  pub shown : List Event
  pub count : ℕ

abbrev pub alone_at_start : Contents → List ℕ → Alone
alone_at_start image values = record { core = at_start image; stands = stands.Going; left = values; shown = []; count = 0 }

abbrev pub Went : Type 0
Went = Ran (Unit {0}) Alone (Unit {0})

abbrev pub after_step : Alone → List ℕ → Stepped → Alone
after_step s left did =
    record { core = did.core; stands = did.out.stop; left = left; shown = s.shown ++ did.out.events; count = s.count + 1 }

-- a word whose values are taken, or are used up
abbrev pub step_with : Contents → Alone → Taken Given → Went
step_with image s None = Stopped stops.Dry s
step_with image s (Some (given, left)) = Done tt (after_step s left (istep image s.core given))

abbrev pub step_at : Contents → Alone → Option Inst → Went
step_at image s None = Stopped stops.Stuck s
step_at image s (Some i) = step_with image s (taken_by s.core.registers i s.left)

abbrev pub step_standing : Contents → Alone → Stop → Went
step_standing image s stands.Going = step_at image s (inst_at image.words s.core.pc)
step_standing image s stands.Halted = Stopped stops.Ended s
step_standing image s stands.Stuck = Stopped stops.Stuck s

-- the next word of a core that goes on
abbrev pub alone_step : Contents → Alone → Went
alone_step image s = step_standing image s s.stands

-- at most so many instructions over these values
abbrev pub solo : Contents → List ℕ → ℕ → Went
solo image values budget = exec (alone_step image) budget (alone_at_start image values)
