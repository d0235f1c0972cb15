-- What a run makes of two sources and a script, and why it makes nothing.
use Rattle.std.specs.Prelude.{◌≡◌, ◌≢◌, ℕ, List, [], ◌∷◌}
use Rattle.csyn.specs.declared.span.Span.{Span}
use Rattle.csyn.specs.declared.cause.Cause.{Cause}
use Rattle.fileset.specs.FileMap.{NamedFiles}
use Rattle.prutrace.specs.Text.{events_text}
use Rattle.prucc.specs.declared.job.BothCores.{BothCores}
use Rattle.prucc.specs.declared.refusal.Refusal.{Refusal}
use Rattle.prucc.specs.declared.refusal.Refusal.TheVariants.{Source, NotBuilt, NoMemory}
use Rattle.prucc.specs.Source.{Writes, IsSourceFault, IsUnbuilt}
use Rattle.prucc.specs.Meaning.{shown_in}
use Rattle.prucc.specs.Summary.{summary_text}
use Rattle.prucc.specs.Job.{events_name}

-- the script is empty, and the two sources have the form and write these numbers
pub record IsBuilt (zero one script ks0 ks1 : List ℕ) : Type 0 where
  pub no_script : script ≡ []
  pub writes_zero : Writes zero ks0
  pub writes_one : Writes one ks1

-- the text of the events of both sources' meanings, as far as so many cycles show them
abbrev pub events_file : ℕ → List ℕ → List ℕ → List ℕ
events_file cycles ks0 ks1 = events_text (shown_in cycles ks0) (shown_in cycles ks1)

-- the file of events, and a line for each core
pub record RunMakes (r : BothCores) (zero one script : List ℕ) (files : NamedFiles) (lines : List ℕ) : Type 0 where
  pub ks0 : List ℕ
  pub ks1 : List ℕ
  pub built : IsBuilt zero one script ks0 ks1
  pub events : files ≡ (events_name r, events_file r.cycles ks0 ks1) ∷ []
  pub summary : lines ≡ summary_text r.cycles ks0 ks1

-- the place of a file's first byte
abbrev pub first_place : Span
first_place = record { line = 1; column = 1 }

-- The first of the three files that isn't built yet, and where: the script, where it isn't empty, then the sources.
pub data NotBuiltAt (r : BothCores) (zero one script name : List ℕ) (span : Span) : Type 0 where
  OfScript : (some : script ≢ []) (file : name ≡ r.script) (place : span ≡ first_place) → NotBuiltAt r zero one script name span
  OfZero : (no_script : script ≡ []) (unbuilt : IsUnbuilt zero span) (file : name ≡ r.zero) → NotBuiltAt r zero one script name span
  OfOne : (no_script : script ≡ []) (ks : List ℕ) (writes_zero : Writes zero ks) (unbuilt : IsUnbuilt one span)
      (file : name ≡ r.one) → NotBuiltAt r zero one script name span

-- The first of the two sources that breaks a rule, by its core, with the rule and the place. The script is empty, and the source of
-- core 1 is judged behind a source of core 0 that is built.
pub data BrokenAt (zero one script : List ℕ) (core : ℕ) (span : Span) (cause : Cause) : Type 0 where
  InZero : (no_script : script ≡ []) (is_zero : core ≡ 0) (fault : IsSourceFault zero span cause) → BrokenAt zero one script core span cause
  InOne : (no_script : script ≡ []) (ks : List ℕ) (writes_zero : Writes zero ks) (is_one : core ≡ 1)
      (fault : IsSourceFault one span cause) → BrokenAt zero one script core span cause

abbrev pub RunRefuses : BothCores → List ℕ → List ℕ → List ℕ → Refusal → Type 0
RunRefuses r zero one script (Source core span cause) = BrokenAt zero one script core span cause
RunRefuses r zero one script (NotBuilt name span) = NotBuiltAt r zero one script name span
RunRefuses r zero one script NoMemory = Unit {0}
RunRefuses r zero one script other = ⊥

-- ---- the parts' answers

-- a file isn't built from this place on
abbrev pub NotBuiltIn : List ℕ → Span → Refusal → Type 0
NotBuiltIn name span (NotBuilt file place) = (file ≡ name) × (place ≡ span)
NotBuiltIn name span NoMemory = Unit {0}
NotBuiltIn name span other = ⊥

-- why the source of a core isn't built
abbrev pub SourceFails : ℕ → List ℕ → List ℕ → Refusal → Type 0
SourceFails core name source (Source number span cause) = (number ≡ core) × IsSourceFault source span cause
SourceFails core name source (NotBuilt file span) = (file ≡ name) × IsUnbuilt source span
SourceFails core name source NoMemory = Unit {0}
SourceFails core name source other = ⊥
