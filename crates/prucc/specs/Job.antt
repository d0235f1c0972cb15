-- What the program's words may ask for.
use Rattle.std.specs.Prelude.{◌≡◌, ℕ, List, [], ◌∷◌, ◌++◌, map, Option, Some, None, String, codes}
use Rattle.std.specs.declared.alloc.Global.{Global}
use Rattle.std.specs.String.{string_bytes}
use Rattle.cmdwords.specs.Asks.{Asks as WordsAsk, Said, file, number}
use Rattle.cmdwords.specs.Modes.{run_form, sim_form}
use Rattle.corestep.specs.declared.table.Table.{Table}
use Rattle.corestep.specs.declared.table.Table.TheVariants as table
use Rattle.modefiles.specs.declared.input.Input.{Input}
use Rattle.prucc.specs.declared.job.BothCores.{BothCores}
use Rattle.prucc.specs.declared.job.Job.{Job}
use Rattle.prucc.specs.declared.job.Job.TheVariants.{Run, Sim}

-- what stands at the places of such a run's words
abbrev pub values_of : BothCores → List Said
values_of r = file r.zero ∷ file r.one ∷ file r.script ∷ number r.cycles ∷ file r.out ∷ []

-- The value of the option `--table` means this cycle table; without it the first is meant.
abbrev pub IsTable : Option (List ℕ) → Table → Type 0
IsTable None table.One = Unit {0}
IsTable None table.Two = ⊥
IsTable (Some value) table.One = value ≡ codes "1"
IsTable (Some value) table.Two = value ≡ codes "2"

-- The words have the form of the job's mode, of at most 2,000,000 cycles, and ask for this job.
abbrev pub Asks : List (List ℕ) → Job → Type 0
Asks words (Run r) = WordsAsk run_form words (record { values = values_of r; options = [] })
Asks words (Sim r t) = (option : Option (List ℕ)) × IsTable option t
    × WordsAsk sim_form words (record { values = values_of r; options = option ∷ [] })

abbrev pub texts : List (String Global) → List (List ℕ)
texts words = map string_bytes words

abbrev pub cores_of : Job → BothCores
cores_of (Run r) = r
cores_of (Sim r t) = r

-- ---- the files that are read, in their order

abbrev pub input : List ℕ → ℕ → Input
input name most = record { name = name; most = most }

abbrev pub inputs_of : BothCores → ℕ → List Input
inputs_of r most = input r.zero most ∷ input r.one most ∷ input r.script 1048576 ∷ []

abbrev pub inputs : Job → List Input
inputs (Run r) = inputs_of r 65536
inputs (Sim r t) = inputs_of r 1048576

-- ---- the names of the files that are written

abbrev pub events_name : BothCores → List ℕ
events_name r = r.out ++ codes ".events"

abbrev pub trace_name : BothCores → List ℕ
trace_name r = r.out ++ codes ".trace"
