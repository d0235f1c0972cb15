-- Calls of which some are to fail.
use Rattle.std.specs.Prelude.{ℕ, Bool, if◌then◌else◌, List, Contains}
use Rattle.fileset.specs.Faults.{raised}

pub record Plan : Type 0 where
  -- the numbers of the calls that are to fail; the first call's number is 1
  pub fails : List ℕ
  -- how many calls there were
  pub calls : ℕ
  -- how many calls have failed
  pub faults : ℕ

-- The next call's number is listed. (Where the count of calls stands at its last value, no u32 is that number.)
abbrev pub FailsNext : Plan → Type 0
FailsNext plan = Contains plan.fails (raised plan.calls)

-- after one more call, which failed or didn't
abbrev pub after_call : Bool → Plan → Plan
after_call failed plan = record plan { calls = raised plan.calls; faults = if failed then raised plan.faults else plan.faults }
