-- What the program leaves, and the cause of each refusal.
use Rattle.std.specs.Prelude.{◌≡◌, ◌≢◌, ℕ, List, [], ◌∷◌, Option}
use Rattle.std.specs.String.{string_bytes}
use Rattle.fileset.specs.Told.{Held, Tells, IsSameFiles, AppendsFront}
use Rattle.fileset.specs.Faults.{Rose}
use Rattle.fileset.specs.FileMap.{NamedFiles}
use Rattle.modefiles.specs.Reading.{AreWithin, IsNamed, IsMost, IsFirstLong, contents}
use Rattle.modefiles.specs.Writing.{Wrote, WroteSome, CutsAt, HasTaken, named, sink_name}
use Rattle.prucc.specs.declared.job.Job.{Job}
use Rattle.prucc.specs.declared.job.Job.TheVariants.{Run, Sim}
use Rattle.prucc.specs.declared.refusal.Refusal.{Refusal}
use Rattle.prucc.specs.declared.refusal.Refusal.TheVariants as refusal
use Rattle.prucc.specs.declared.status.Status.{Status}
use Rattle.prucc.specs.declared.status.Status.TheVariants.{Done, Source, Words, Script, ReadFault, WriteFault, TooLong, Elf, NoMemory, NotBuilt}
use Rattle.prucc.specs.declared.work.Work.{Work}
use Rattle.prucc.specs.Job.{Asks, inputs}
use Rattle.prucc.specs.Sources.{RunMakes, RunRefuses}
use Rattle.prucc.specs.Executables.{SimMakes, SimRefuses}

-- the words ask for a job of which this holds
abbrev pub AskFor : List (List ℕ) → (Job → Type 0) → Type 0
AskFor words P = (job : Job) × Asks words job × P job

-- the files that the job makes of the texts that it has read, and its lines for the user
abbrev pub Makes : Job → List (List ℕ) → NamedFiles → List ℕ → Type 0
Makes (Run r) (zero ∷ one ∷ script ∷ []) files lines = RunMakes r zero one script files lines
Makes (Sim r t) (zero ∷ one ∷ script ∷ []) files lines = SimMakes r t zero one script files lines
Makes job other files lines = ⊥

-- why it makes nothing of them
abbrev pub Refuses : Job → List (List ℕ) → Refusal → Type 0
Refuses (Run r) (zero ∷ one ∷ script ∷ []) refusal = RunRefuses r zero one script refusal
Refuses (Sim r t) (zero ∷ one ∷ script ∷ []) refusal = SimRefuses r zero one script refusal
Refuses job other refusal = ⊥

-- The words ask for this job, and the files that it reads hold these texts, of their most bytes at most.
pub record IsGiven (words : List (List ℕ)) (held now : Option Held) (job : Job) (texts : List (List ℕ)) : Type 0 where
  pub asks : Asks words job
  pub within : AreWithin (inputs job) texts
  pub read : Tells held now (λ before _. texts ≡ contents before (inputs job))

-- The words ask for a job that makes these files, and lines, of what was held.
pub record IsMade (words : List (List ℕ)) (held now : Option Held) (files : NamedFiles) (lines : List ℕ) : Type 0 where
  pub job : Job
  pub texts : List (List ℕ)
  pub given : IsGiven words held now job texts
  pub makes : Makes job texts files lines

-- The whole answer: the files are written, no other file has changed, and the sink has taken the lines.
pub record Finishes (words : List (List ℕ)) (held now : Option Held) (taken later : Option (List ℕ)) : Type 0 where
  pub files : NamedFiles
  pub lines : List ℕ
  pub made : IsMade words held now files lines
  pub wrote : Tells held now (Wrote files)
  pub took : HasTaken lines taken later

-- The words ask for a job that makes nothing of what was held, for this cause.
pub record IsRefused (words : List (List ℕ)) (held now : Option Held) (refusal : Refusal) : Type 0 where
  pub job : Job
  pub texts : List (List ℕ)
  pub given : IsGiven words held now job texts
  pub refuses : Refuses job texts refusal

abbrev pub IsUntouched : Option (List ℕ) → Option (List ℕ) → Type 0
IsUntouched taken later = Tells taken later (λ old new. new ≡ old)

-- A write failed: of a file, which may be cut short, or of the lines, of which the sink has taken a front, behind all files.
pub data OutputFailed (words : List (List ℕ)) (name : List ℕ) (held now : Option Held) (faults after : ℕ)
    (taken later : Option (List ℕ)) (sink_faults sink_after : ℕ) : Type 0 where
  AtFile : (files : NamedFiles) (lines : List ℕ) (made : IsMade words held now files lines) (rose : Rose faults after)
      (left : Tells held now (CutsAt files name)) (untouched : IsUntouched taken later)
      → OutputFailed words name held now faults after taken later sink_faults sink_after
  AtSink : (files : NamedFiles) (lines : List ℕ) (made : IsMade words held now files lines) (is_sink : name ≡ sink_name)
      (rose : Rose sink_faults sink_after) (wrote : Tells held now (Wrote files))
      (front : Tells taken later (λ old new. AppendsFront old lines new))
      → OutputFailed words name held now faults after taken later sink_faults sink_after

-- Memory was wanting: before the first write, or at a write, and then the files before it are written.
pub data MemoryWanted (words : List (List ℕ)) (held now : Option Held) : Type 0 where
  BeforeWrites : (same : Tells held now IsSameFiles) → MemoryWanted words held now
  AtWrite : (files : NamedFiles) (lines : List ℕ) (made : IsMade words held now files lines) (some : Tells held now (WroteSome files))
      → MemoryWanted words held now

-- a refusal before the first write, other than want of memory
abbrev pub IsBeforeWrites : Status → Type 0
IsBeforeWrites Done = ⊥
IsBeforeWrites (WriteFault name) = ⊥
IsBeforeWrites NoMemory = ⊥
IsBeforeWrites other = Unit {0}

-- a refusal that isn't the sink's
abbrev pub IsBeforeSink : Status → Type 0
IsBeforeSink Done = ⊥
IsBeforeSink (WriteFault name) = name ≢ sink_name
IsBeforeSink other = Unit {0}

-- ---- inner words of `top`

-- what is to be written, and the files are as they were
pub record IsPlanned (words : List (List ℕ)) (held now : Option Held) (work : Work) : Type 0 where
  pub made : IsMade words held now (named work.outputs.items) (string_bytes work.lines)
  pub same : Tells held now IsSameFiles

-- why nothing is to be written
abbrev pub PlanFails : List (List ℕ) → Option Held → Option Held → ℕ → ℕ → Status → Type 0
PlanFails words held now faults after Done = ⊥
PlanFails words held now faults after Words = (job : Job) → Asks words job → ⊥
PlanFails words held now faults after (ReadFault name) = AskFor words (λ job. IsNamed (inputs job) name × Rose faults after)
PlanFails words held now faults after (TooLong name max) =
    AskFor words (λ job. IsMost (inputs job) name max × Tells held now (λ before _. IsFirstLong before (inputs job) name max))
PlanFails words held now faults after (Source core span cause) = IsRefused words held now (refusal.Source core span cause)
PlanFails words held now faults after (Script line cause) = IsRefused words held now (refusal.Script line cause)
PlanFails words held now faults after (Elf name offset cause) = IsRefused words held now (refusal.Elf name offset cause)
PlanFails words held now faults after (NotBuilt name span) = IsRefused words held now (refusal.NotBuilt name span)
PlanFails words held now faults after (WriteFault name) = ⊥
PlanFails words held now faults after NoMemory = Unit {0}

-- neither files nor sink have changed
pub record IsSame (held now : Option Held) (taken later : Option (List ℕ)) : Type 0 where
  pub files : Tells held now IsSameFiles
  pub sink : IsUntouched taken later

-- why the words aren't done
abbrev pub Fails : List (List ℕ) → Option Held → Option Held → ℕ → ℕ → Option (List ℕ) → Option (List ℕ) → ℕ → ℕ → Status → Type 0
Fails words held now faults after taken later sink_faults sink_after Done = ⊥
Fails words held now faults after taken later sink_faults sink_after (WriteFault name) =
    OutputFailed words name held now faults after taken later sink_faults sink_after
Fails words held now faults after taken later sink_faults sink_after NoMemory = MemoryWanted words held now × IsUntouched taken later
Fails words held now faults after taken later sink_faults sink_after other =
    PlanFails words held now faults after other × IsSame held now taken later
