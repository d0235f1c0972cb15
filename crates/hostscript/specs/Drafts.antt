-- What the reader has gathered.
use Rattle.std.specs.Prelude.{◌≡◌, List, [], ◌∷◌, ◌++◌}
use Rattle.hostscript.specs.declared.action.Act.{Act}
use Rattle.hostscript.specs.declared.cause.ScriptCause.TheVariants.{Order}
use Rattle.hostscript.specs.declared.fault.LineFault.{LineFault}
use Rattle.hostscript.specs.declared.fault.LineFault.TheVariants as faults
use Rattle.hostscript.specs.declared.line.Saying.{Saying}
use Rattle.hostscript.specs.declared.line.Saying.TheVariants.{Does}
use Rattle.hostscript.specs.declared.draft.Draft.{Draft}
use Rattle.hostscript.specs.Acts.{InOrder}
use Rattle.hostscript.specs.Scripts.{acts_in, numbers_in}

-- what lines that say this say together
pub record Holds (draft : Draft) (said : List Saying) : Type 0 where
  pub acts : draft.acts.items ≡ acts_in said
  pub arb0 : draft.arb0.items ≡ numbers_in 0 said
  pub arb1 : draft.arb1.items ≡ numbers_in 1 said

-- and what one more says
pub record Adds (said : Saying) (old new : Draft) : Type 0 where
  pub acts : new.acts.items ≡ old.acts.items ++ acts_in (said ∷ [])
  pub arb0 : new.arb0.items ≡ old.arb0.items ++ numbers_in 0 (said ∷ [])
  pub arb1 : new.arb1.items ≡ old.arb1.items ++ numbers_in 1 (said ∷ [])

-- why it can't be added: its cycle falls, or memory is wanting
abbrev pub CanFail : Saying → List Act → LineFault → Type 0
CanFail (Does act) acts (faults.Cause Order) = InOrder (acts ++ act ∷ []) → ⊥
CanFail said acts faults.Memory = Unit {0}
CanFail said acts fault = ⊥
