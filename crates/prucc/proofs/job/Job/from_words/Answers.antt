use Rattle.std.proofs.Common.{ℕ, List, Option, None, subst}
use Rattle.std.specs.Prelude.{MatchOption}
use Rattle.corestep.specs.declared.table.Table.{Table}
use Rattle.prucc.specs.declared.job.BothCores.{BothCores}
use Rattle.prucc.specs.declared.job.Job.{Job}
use Rattle.prucc.specs.declared.job.Job.TheVariants.{Run, Sim}
use Rattle.prucc.specs.Job.{Asks, texts}
use Rattle.prucc.proofs.job.Job.from_words.Goals as goal

abbrev NoRun : List (List ℕ) → Option BothCores → Type 0
NoRun words o = MatchOption o ((r : BothCores) → Asks words (Run r) → ⊥) (λ r. Asks words (Run r))

abbrev NoSim : List (List ℕ) → Option (BothCores × Table) → Type 0
NoSim words o = MatchOption o ((r : BothCores) → (t : Table) → Asks words (Sim r t) → ⊥) (λ asked. Asks words (Sim asked.0 asked.1))

neither : (words : List (List ℕ)) → NoRun words None → NoSim words None → (job : Job) → Asks words job → ⊥
neither words run sim (Run r) asks = run r asks
neither words run sim (Sim r t) asks = sim r t asks

pub returns-in-None : goal.returns-in-None
returns-in-None c = neither (texts c.args.words.now)
    (subst (NoRun (texts c.args.words.now)) c.in_default.is c.in_ok-cores.ensures)
    (subst (NoSim (texts c.args.words.now)) c.in-None.is c.in_ok-cores-2.ensures)
