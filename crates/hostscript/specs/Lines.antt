-- What one line of a script says, and why it is bad.
use Rattle.std.specs.Prelude.{◌≡◌, ◌<◌, ℕ, true, IsTrue, List}
use Rattle.hostscript.specs.declared.cause.ScriptCause.TheVariants.{Form, Range, Order}
use Rattle.hostscript.specs.declared.fault.LineFault.{LineFault}
use Rattle.hostscript.specs.declared.fault.LineFault.TheVariants as faults
use Rattle.hostscript.specs.declared.line.Saying.{Saying}
use Rattle.hostscript.specs.declared.line.Saying.TheVariants.{Nothing, Does, Waits}
use Rattle.hostscript.specs.Acts.{IsAct, IsArb, act_text, arb_text}
use Rattle.hostscript.specs.Forms.{is_skipped, has_form}

abbrev pub Says : List ℕ → Saying → Type 0
Says line Nothing = IsTrue (is_skipped line)
Says line (Does act) = IsAct act × (line ≡ act_text act)
Says line (Waits core numbers) = IsArb core numbers × (line ≡ arb_text core numbers)

-- it has no form at all; or it has one, and yet says nothing
abbrev pub HasNoForm : List ℕ → Type 0
HasNoForm line = has_form line ≡ true → ⊥

abbrev pub IsOutOfRange : List ℕ → Type 0
IsOutOfRange line = (has_form line ≡ true) × ((said : Saying) → Says line said → ⊥)

-- why a line by itself is bad
abbrev pub Misfits : List ℕ → LineFault → Type 0
Misfits line (faults.Cause Form) = HasNoForm line
Misfits line (faults.Cause Range) = IsOutOfRange line
Misfits line (faults.Cause Order) = ⊥
Misfits line faults.Memory = Unit {0}

-- the core that waits is 0 or 1
abbrev pub NamesCore : Saying → Type 0
NamesCore (Waits core numbers) = core < 2
NamesCore said = Unit {0}
