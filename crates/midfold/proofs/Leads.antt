-- What holds of the state that a run is done in, if it is.
use Rattle.std.proofs.Common.{◌≡◌, Bool, true, false, subst}
use Rattle.behaviour.specs.Ran.{Ran, Done, Stopped, and_then}
use Rattle.midcode.specs.Machine.{Wild, State, sure}

abbrev pub Leads : {A : Type 0} → (A → State → Type 0) → Ran Wild State A → Type 0
Leads P (Done a s) = P a s
Leads P (Stopped c s) = Unit {0}

pub then-leads : {A B : Type 0} (P : A → State → Type 0) (Q : B → State → Type 0) (r : Ran Wild State A) (g : A → State → Ran Wild State B)
    → Leads P r → ((a : A) (s : State) → P a s → Leads Q (g a s)) → Leads Q (and_then r g)
then-leads P Q (Done a s) g first on = on a s first
then-leads P Q (Stopped c s) g first on = tt

pub sure-leads : (P : State → Type 0) (w : Wild) (b : Bool) (s : State) → P s → Leads (λ _ s. P s) (sure w b s)
sure-leads P w true s at = at
sure-leads P w false s at = tt

pub led : {A : Type 0} (P : A → State → Type 0) (r : Ran Wild State A) (a : A) (s : State) → Leads P r → r ≡ Done a s → P a s
led P r a s leads is = subst (Leads P) is leads
