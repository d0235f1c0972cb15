-- What a run makes of two executables and a script, and why it makes nothing.
use Rattle.std.specs.Prelude.{◌≡◌, ℕ, List, [], ◌∷◌, Ok, Err}
use Rattle.corestep.specs.declared.table.Table.{Table}
use Rattle.fileset.specs.FileMap.{NamedFiles}
use Rattle.hostscript.specs.declared.script.Script.{Script}
use Rattle.isa.specs.Image.{Contents}
use Rattle.pruelf.specs.declared.fault.LoadCause.{LoadCause}
use Rattle.pruelf.specs.declared.fault.LoadFault.TheVariants.{At}
use Rattle.pruelf.specs.Executable.{image_in}
use Rattle.prutrace.specs.Text.{events_of, events_text, trace_text}
use Rattle.simrun.specs.Simulation.{AreInputs, IsScriptFault}
use Rattle.simrun.specs.Texts.{summary_text}
use Rattle.twocore.specs.declared.outcome.Outcome.{Outcome}
use Rattle.twocore.specs.Machine.{M}
use Rattle.prucc.specs.declared.job.BothCores.{BothCores}
use Rattle.prucc.specs.declared.refusal.Refusal.{Refusal}
use Rattle.prucc.specs.declared.refusal.Refusal.TheVariants.{Script as BadLine, Elf, NoMemory}
use Rattle.prucc.specs.Job.{events_name, trace_name}

-- the file of both cores' events, and that of their traces
abbrev pub files_of : BothCores → Outcome → NamedFiles
files_of r o = (events_name r, events_text (events_of o.trace0) (events_of o.trace1)) ∷ (trace_name r, trace_text o.trace0 o.trace1) ∷ []

-- the files, and a line for each core, of what the machine of two cores shows in so many cycles
pub record SimMakes (r : BothCores) (table : Table) (zero one text : List ℕ) (files : NamedFiles) (lines : List ℕ) : Type 0 where
  pub image0 : Contents
  pub image1 : Contents
  pub script : Script
  pub inputs : AreInputs zero one text image0 image1 script
  pub written : files ≡ files_of r (M table image0 image1 script r.cycles)
  pub summary : lines ≡ summary_text (M table image0 image1 script r.cycles)

-- The first of the two executables that is at fault, by its name, with its first fault.
pub data ElfFault (r : BothCores) (zero one name : List ℕ) (offset : ℕ) (cause : LoadCause) : Type 0 where
  OfZero : (file : name ≡ r.zero) (fault : image_in zero ≡ Err (At offset cause)) → ElfFault r zero one name offset cause
  OfOne : (image : Contents) (loaded : image_in zero ≡ Ok image) (file : name ≡ r.one) (fault : image_in one ≡ Err (At offset cause))
      → ElfFault r zero one name offset cause

abbrev pub SimRefuses : BothCores → List ℕ → List ℕ → List ℕ → Refusal → Type 0
SimRefuses r zero one text (Elf name offset cause) = ElfFault r zero one name offset cause
SimRefuses r zero one text (BadLine line cause) = IsScriptFault zero one text line cause
SimRefuses r zero one text NoMemory = Unit {0}
SimRefuses r zero one text other = ⊥

-- ---- the parts' answers

-- the executable of this name is at fault so
abbrev pub IsElf : List ℕ → ℕ → LoadCause → Refusal → Type 0
IsElf name offset cause (Elf file at why) = (file ≡ name) × (at ≡ offset) × (why ≡ cause)
IsElf name offset cause NoMemory = Unit {0}
IsElf name offset cause other = ⊥
