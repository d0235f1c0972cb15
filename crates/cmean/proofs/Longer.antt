-- A meaning with more steps.
use Rattle.std.proofs.Common.{◌≡◌, ℕ, ◌≤◌, false, List, ◌++◌}
use Rattle.behaviour.specs.Ran.{goes_on}
use Rattle.cprogram.specs.declared.program.Program.{Program}
use Rattle.cmean.specs.State.{Shown}
use Rattle.cmean.specs.Meaning.{mean, start}
use Rattle.cmean.specs.Outcome.{shown}
use Rattle.cmean.proofs.SteadyStatement.{steady-main}

pub settled : (p : Program) (values : List ℕ) (few many : ℕ) → few ≤ many → goes_on (mean p values few) ≡ false
    → mean p values many ≡ mean p values few
unfolding mean
settled p values few many less = ((steady-main p).longer few many less (start p values)).settled

pub shown-more : (p : Program) (values : List ℕ) (few many : ℕ) → few ≤ many
    → (rest : List Shown) × (shown p values few ++ rest ≡ shown p values many)
unfolding mean
shown-more p values few many less =
    let later = ((steady-main p).longer few many less (start p values)).later in
    (later.rest, later.shown)

pub ruleset more_steps = (settled, shown-more)
