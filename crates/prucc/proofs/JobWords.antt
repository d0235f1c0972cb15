-- What words ask for, from what their reader answers.
use Rattle.std.proofs.Common.{◌≡◌, List, Option, Some, None, [], ◌∷◌, refl, ap, subst}
use Rattle.std.specs.Prelude.{MatchOption}
use Rattle.cmdwords.specs.Form.{Form, Text}
use Rattle.cmdwords.specs.Asks.{Asked as WordsAsked, Asks as WordsAsk, Said}
use Rattle.cmdwords.specs.Given.{asked as given_asked}
use Rattle.cmdwords.specs.Modes.{run_form, sim_form}
use Rattle.cmdwords.specs.declared.reader.Given.{Given}
use Rattle.cmdwords.proofs.Reading.{one_meaning}
use Rattle.corestep.specs.declared.table.Table.{Table}
use Rattle.prucc.specs.declared.job.BothCores.{BothCores}
use Rattle.prucc.specs.declared.job.Job.TheVariants.{Run, Sim}
use Rattle.prucc.specs.Job.{Asks, IsTable, values_of}

-- the reader's answer
abbrev pub IsRead : Form → List Text → Option Given → Type 0
IsRead form words o = MatchOption o ((a : WordsAsked) → WordsAsk form words a → ⊥) (λ given. WordsAsk form words (given_asked given))

abbrev pub AreCores : List Said → Option BothCores → Type 0
AreCores values o = MatchOption o ((r : BothCores) → values ≡ values_of r → ⊥) (λ cores. values ≡ values_of cores)

-- the cycle table that a list of options means
abbrev pub IsTableIn : List (Option Text) → Option Table → Type 0
IsTableIn options o = MatchOption o ((v : Option Text) → (t : Table) → options ≡ v ∷ [] → IsTable v t → ⊥)
    (λ t. (v : Option Text) × (options ≡ v ∷ []) × IsTable v t)

-- what stands at the places decides
pub run_ended : (words : List Text) (values : List Said) (options : List (Option Text))
    → WordsAsk run_form words (record { values = values; options = options }) → (o : Option BothCores) → AreCores values o
    → MatchOption o ((r : BothCores) → Asks words (Run r) → ⊥) (λ cores. Asks words (Run cores))
run_ended words values options asks None never = λ r other.
    never r (ap (λ (a : WordsAsked). a.values) (one_meaning run_form words (record { values = values; options = options })
    (record { values = values_of r; options = [] }) refl refl asks other))
run_ended words values options asks (Some cores) e =
    let alone = subst (λ (l : List (Option Text)). WordsAsk run_form words (record { values = values; options = l })) asks.options asks in
    subst (λ (l : List Said). WordsAsk run_form words (record { values = l; options = [] })) e alone

-- such words ask for one list of options
pub sim_options : (words : List Text) (values : List Said) (options : List (Option Text))
    → WordsAsk sim_form words (record { values = values; options = options }) → (r : BothCores) (t : Table)
    → (h : Asks words (Sim r t)) → options ≡ h.0 ∷ []
sim_options words values options asks r t h =
    ap (λ (a : WordsAsked). a.options) (one_meaning sim_form words (record { values = values; options = options })
    (record { values = values_of r; options = h.0 ∷ [] }) refl refl asks h.2)

-- and for one list of values
pub sim_values : (words : List Text) (values : List Said) (options : List (Option Text))
    → WordsAsk sim_form words (record { values = values; options = options }) → (r : BothCores) (t : Table)
    → Asks words (Sim r t) → values ≡ values_of r
sim_values words values options asks r t h =
    ap (λ (a : WordsAsked). a.values) (one_meaning sim_form words (record { values = values; options = options })
    (record { values = values_of r; options = h.0 ∷ [] }) refl refl asks h.2)

pub sim_ended : (words : List Text) (values : List Said) (options : List (Option Text)) (option : Option Text) (t : Table)
    → WordsAsk sim_form words (record { values = values; options = options }) → options ≡ option ∷ [] → IsTable option t
    → (r : BothCores) → values ≡ values_of r → Asks words (Sim r t)
sim_ended words values options option t asks is table r e = (
  option,
  table,
  subst (λ (l : List Said). WordsAsk sim_form words (record { values = l; options = option ∷ [] })) e
      (subst (λ (l : List (Option Text)). WordsAsk sim_form words (record { values = values; options = l })) is asks),
)
