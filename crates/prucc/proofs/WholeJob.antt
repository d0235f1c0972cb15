-- The parts of a job, put together.
use Rattle.std.proofs.Common.{◌≡◌, ℕ, ◌≤◌, List, Option, Some, None, ◌⊎◌, refl, subst, inl, inr}
use Rattle.std.specs.String.{string_bytes}
use Rattle.fileset.specs.FileMap.{NamedFiles}
use Rattle.fileset.specs.Told.{Held, Tells, IsSameFiles, AppendsFront}
use Rattle.modefiles.specs.declared.fault.InputFault.{InputFault}
use Rattle.modefiles.specs.declared.fault.InputFault.TheVariants as input_fault
use Rattle.modefiles.specs.declared.fault.OutputFault.{OutputFault}
use Rattle.modefiles.specs.declared.fault.OutputFault.TheVariants as output_fault
use Rattle.modefiles.specs.Reading.{InputFails, contents}
use Rattle.modefiles.specs.Writing.{Wrote, CutsAt, WroteSome, OutputFails, PutFails, HasTaken, named}
use Rattle.modefiles.proofs.Told.{Tells-then, rose-since}
use Rattle.modefiles.proofs.Since.{all_since, cut_short_since, some_since}
use Rattle.prucc.specs.declared.job.Job.{Job}
use Rattle.prucc.specs.declared.job.Job.TheVariants.{Run, Sim}
use Rattle.prucc.specs.declared.refusal.Refusal.{Refusal}
use Rattle.prucc.specs.declared.refusal.Refusal.TheVariants as refusal
use Rattle.prucc.specs.declared.status.Status.{Status}
use Rattle.prucc.specs.declared.status.Status.TheVariants.{Done, Source, Words, Script, ReadFault, WriteFault, TooLong, Elf, NoMemory, NotBuilt}
use Rattle.prucc.specs.declared.work.Work.{Work}
use Rattle.prucc.specs.Job.{Asks, inputs, cores_of}
use Rattle.prucc.specs.StatusOf.{unread, status_of, unwritten}
use Rattle.prucc.specs.Answers.{Refuses, IsGiven, IsMade, Finishes, IsUntouched, AtFile, AtSink, BeforeWrites, AtWrite}
use Rattle.prucc.specs.Answers.{IsPlanned, PlanFails, Fails}

-- a run's words have at most so many cycles
pub few_cycles : (words : List (List ℕ)) (job : Job) → Asks words job → (cores_of job).cycles ≤ 2000000
few_cycles words (Run r) asks = asks.fill.1.1.1.0.1
few_cycles words (Sim r t) asks = asks.2.fill.1.1.1.0.1

pub untouched_as_is : (taken : Option (List ℕ)) → IsUntouched taken taken
untouched_as_is None = tt
untouched_as_is (Some text) = refl

-- ---- nothing is to be written

pub unread_fails : (words : List (List ℕ)) (job : Job) (held now : Option Held) (f0 f1 : ℕ) (fault : InputFault) → Asks words job
    → InputFails (inputs job) held now f0 f1 fault → PlanFails words held now f0 f1 (unread fault)
unread_fails words job held now f0 f1 (input_fault.Failed name) asks fails = (job, asks, fails)
unread_fails words job held now f0 f1 (input_fault.TooLong name max) asks fails = (job, asks, fails)
unread_fails words job held now f0 f1 input_fault.NoMemory asks fails = tt

pub refused : (words : List (List ℕ)) (job : Job) (texts : List (List ℕ)) (held now : Option Held) (f0 f1 : ℕ) (r : Refusal)
    → IsGiven words held now job texts → Refuses job texts r → PlanFails words held now f0 f1 (status_of r)
refused words job texts held now f0 f1 (refusal.Source core span cause) given refuses =
    record { job = job; texts = texts; given = given; refuses = refuses }
refused words job texts held now f0 f1 (refusal.Script line cause) given refuses =
    record { job = job; texts = texts; given = given; refuses = refuses }
refused words job texts held now f0 f1 (refusal.Elf name offset cause) given refuses =
    record { job = job; texts = texts; given = given; refuses = refuses }
refused words job texts held now f0 f1 (refusal.NotBuilt name span) given refuses =
    record { job = job; texts = texts; given = given; refuses = refuses }
refused words job texts held now f0 f1 refusal.NoMemory given refuses = tt

pub plan_fails : (words : List (List ℕ)) (held now : Option Held) (f0 f1 : ℕ) (taken : Option (List ℕ)) (g0 : ℕ) (s : Status)
    → Tells held now IsSameFiles → PlanFails words held now f0 f1 s → Fails words held now f0 f1 taken taken g0 g0 s
plan_fails words held now f0 f1 taken g0 Done same fails = fails
plan_fails words held now f0 f1 taken g0 (WriteFault name) same fails = absurd fails
plan_fails words held now f0 f1 taken g0 NoMemory same fails = (BeforeWrites same, untouched_as_is taken)
plan_fails words held now f0 f1 taken g0 Words same fails = (fails, record { files = same; sink = untouched_as_is taken })
plan_fails words held now f0 f1 taken g0 (ReadFault name) same fails = (fails, record { files = same; sink = untouched_as_is taken })
plan_fails words held now f0 f1 taken g0 (TooLong name max) same fails = (fails, record { files = same; sink = untouched_as_is taken })
plan_fails words held now f0 f1 taken g0 (Source core span cause) same fails =
    (fails, record { files = same; sink = untouched_as_is taken })
plan_fails words held now f0 f1 taken g0 (Script line cause) same fails = (fails, record { files = same; sink = untouched_as_is taken })
plan_fails words held now f0 f1 taken g0 (Elf name offset cause) same fails = (fails, record { files = same; sink = untouched_as_is taken })
plan_fails words held now f0 f1 taken g0 (NotBuilt name span) same fails = (fails, record { files = same; sink = untouched_as_is taken })

-- ---- the writes

made_since : (words : List (List ℕ)) (held mid now : Option Held) (files : NamedFiles) (lines : List ℕ) (P : Held → Held → Type 0)
    → IsMade words held mid files lines → Tells mid now P → IsMade words held now files lines
made_since words held mid now files lines P made told = record {
  job = made.job;
  texts = made.texts;
  given = record {
    asks = made.given.asks;
    within = made.given.within;
    read = Tells-then held mid now (λ before _. made.texts ≡ contents before (inputs made.job)) P
        (λ before _. made.texts ≡ contents before (inputs made.job)) (λ x y z h k. h) made.given.read told;
  };
  makes = made.makes;
}

pub write_fails : (words : List (List ℕ)) (work : Work) (held mid now : Option Held) (f0 f1 f2 : ℕ) (taken : Option (List ℕ)) (g0 : ℕ)
    (fault : OutputFault) → IsPlanned words held mid work → f0 ≤ f1 → OutputFails (named work.outputs.items) mid now f1 f2 fault
    → Fails words held now f0 f2 taken taken g0 g0 (unwritten fault)
write_fails words work held mid now f0 f1 f2 taken g0 (output_fault.Failed name) planned grows fails =
    let files = named work.outputs.items in
    AtFile files (string_bytes work.lines) (made_since words held mid now files (string_bytes work.lines) (CutsAt files name) planned.made fails.1)
    (rose-since f0 f1 f2 grows fails.0) (cut_short_since files name held mid now planned.same fails.1) (untouched_as_is taken)
write_fails words work held mid now f0 f1 f2 taken g0 output_fault.NoMemory planned grows fails =
    let files = named work.outputs.items in (
      AtWrite files (string_bytes work.lines) (made_since words held mid now files (string_bytes work.lines) (WroteSome files) planned.made fails)
          (some_since files held mid now planned.same fails),
      untouched_as_is taken,
    )

-- ---- the lines

pub finishes : (words : List (List ℕ)) (work : Work) (lines : List ℕ) (held mid now : Option Held) (taken later : Option (List ℕ))
    → IsPlanned words held mid work → lines ≡ string_bytes work.lines → Tells mid now (Wrote (named work.outputs.items))
    → HasTaken lines taken later → Finishes words held now taken later
finishes words work lines held mid now taken later planned is wrote took = record {
  files = named work.outputs.items;
  lines = string_bytes work.lines;
  made = made_since words held mid now (named work.outputs.items) (string_bytes work.lines) (Wrote (named work.outputs.items)) planned.made wrote;
  wrote = all_since (named work.outputs.items) held mid now planned.same wrote;
  took = subst (λ (text : List ℕ). HasTaken text taken later) is took;
}

pub put_fails : (words : List (List ℕ)) (work : Work) (lines : List ℕ) (held mid now : Option Held) (f0 f2 : ℕ)
    (taken later : Option (List ℕ)) (g0 g1 : ℕ) (fault : OutputFault) → IsPlanned words held mid work → lines ≡ string_bytes work.lines
    → Tells mid now (Wrote (named work.outputs.items)) → PutFails lines taken later g0 g1 fault
    → Fails words held now f0 f2 taken later g0 g1 (unwritten fault)
put_fails words work lines held mid now f0 f2 taken later g0 g1 (output_fault.Failed name) planned is wrote fails =
    let files = named work.outputs.items in
    AtSink files (string_bytes work.lines) (made_since words held mid now files (string_bytes work.lines) (Wrote files) planned.made wrote)
    fails.0 fails.1 (all_since files held mid now planned.same wrote)
    (subst (λ (text : List ℕ). Tells taken later (λ old new. AppendsFront old text new)) is fails.2)
put_fails words work lines held mid now f0 f2 taken later g0 g1 output_fault.NoMemory planned is wrote fails = absurd fails

-- ---- words that ask for nothing

pub only_words : (words : List (List ℕ)) (held now : Option Held) (f0 f1 : ℕ) (taken later : Option (List ℕ)) (g0 g1 : ℕ)
    (s : Status) → ((job : Job) → Asks words job → ⊥) → Fails words held now f0 f1 taken later g0 g1 s → (s ≡ Words) ⊎ (s ≡ NoMemory)
only_words words held now f0 f1 taken later g0 g1 Words none fails = inl refl
only_words words held now f0 f1 taken later g0 g1 NoMemory none fails = inr refl
only_words words held now f0 f1 taken later g0 g1 Done none fails = absurd fails
only_words words held now f0 f1 taken later g0 g1 (ReadFault name) none fails = absurd (none fails.0.0 fails.0.1)
only_words words held now f0 f1 taken later g0 g1 (TooLong name max) none fails = absurd (none fails.0.0 fails.0.1)
only_words words held now f0 f1 taken later g0 g1 (WriteFault name) none (AtFile _ _ made _ _ _) = absurd (none made.job made.given.asks)
only_words words held now f0 f1 taken later g0 g1 (WriteFault name) none (AtSink _ _ made _ _ _ _) =
    absurd (none made.job made.given.asks)
only_words words held now f0 f1 taken later g0 g1 (Source _ _ _) none fails = absurd (none fails.0.job fails.0.given.asks)
only_words words held now f0 f1 taken later g0 g1 (Script _ _) none fails = absurd (none fails.0.job fails.0.given.asks)
only_words words held now f0 f1 taken later g0 g1 (Elf _ _ _) none fails = absurd (none fails.0.job fails.0.given.asks)
only_words words held now f0 f1 taken later g0 g1 (NotBuilt _ _) none fails = absurd (none fails.0.job fails.0.given.asks)
