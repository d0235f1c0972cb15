-- What a run of two executables makes.
use Rattle.std.proofs.Common.{◌≡◌, ◌≢◌, ℕ, List, [], ◌∷◌, sym, ap, subst, ◌∙◌, arith}
use Rattle.std.specs.String.{string_bytes}
use Rattle.corestep.specs.declared.table.Table.{Table}
use Rattle.fileset.specs.FileMap.{NamedFiles}
use Rattle.modefiles.specs.Writing.{named}
use Rattle.simrun.specs.declared.texts.Texts.{Texts}
use Rattle.simrun.specs.Simulation.{Leaves, IsElfFault}
use Rattle.simrun.specs.Simulation as simulation
use Rattle.pruelf.specs.declared.fault.LoadCause.{LoadCause}
use Rattle.prucc.specs.declared.job.BothCores.{BothCores}
use Rattle.prucc.specs.declared.work.Work.{Work}
use Rattle.prucc.specs.Job.{events_name, trace_name}
use Rattle.prucc.specs.declared.refusal.Refusal.{Refusal}
use Rattle.prucc.specs.declared.refusal.Refusal.TheVariants.{Source, Script, Elf, NoMemory, NotBuilt}
use Rattle.prucc.specs.Executables.{SimMakes, SimRefuses, ElfFault, OfZero, OfOne, IsElf}

two_files : BothCores → List ℕ → List ℕ → NamedFiles
two_files r events trace = (events_name r, events) ∷ (trace_name r, trace) ∷ []

same_files : (r : BothCores) (events trace events' trace' : List ℕ) → events ≡ events' → trace ≡ trace'
    → two_files r events trace ≡ two_files r events' trace'
same_files r events trace events' trace' e t =
    ap (λ (bytes : List ℕ). two_files r bytes trace) e ∙ ap (λ (bytes : List ℕ). two_files r events' bytes) t

-- the texts that a run leaves, as files and lines
pub makes : (r : BothCores) (table : Table) (zero one script : List ℕ) (texts : Texts) (work : Work)
    → Leaves table zero one script r.cycles texts
    → named work.outputs.items ≡ (events_name r, texts.events.items) ∷ (trace_name r, texts.trace.items) ∷ []
    → string_bytes work.lines ≡ string_bytes texts.summary
    → SimMakes r table zero one script (named work.outputs.items) (string_bytes work.lines)
unfolding two_files
makes r table zero one script texts work leaves files lines = record {
  image0 = leaves.image0;
  image1 = leaves.image1;
  script = leaves.script;
  inputs = leaves.inputs;
  written = files ∙ same_files r texts.events.items texts.trace.items _ _ leaves.shown.events leaves.shown.trace;
  summary = lines ∙ leaves.shown.summary;
}

-- ---- an executable at fault

zero_at_fault : (r : BothCores) (zero one name : List ℕ) (core offset : ℕ) (cause : LoadCause) → core ≡ 0 → name ≡ r.zero
    → IsElfFault zero one core offset cause → ElfFault r zero one name offset cause
zero_at_fault r zero one name core offset cause is_zero file (simulation.OfZero _ fault) = OfZero file fault
zero_at_fault r zero one name core offset cause is_zero file (simulation.OfOne _ _ is_one _) = absurd (differ is_zero is_one)
  where
    differ : core ≡ 0 → core ≡ 1 → ⊥
    differ is other = omega (arith, is, other)

one_at_fault : (r : BothCores) (zero one name : List ℕ) (core offset : ℕ) (cause : LoadCause) → core ≢ 0 → name ≡ r.one
    → IsElfFault zero one core offset cause → ElfFault r zero one name offset cause
one_at_fault r zero one name core offset cause not_zero file (simulation.OfZero is_zero _) = absurd (not_zero is_zero)
one_at_fault r zero one name core offset cause not_zero file (simulation.OfOne image loaded _ fault) = OfOne image loaded file fault

pub of_zero : (r : BothCores) (zero one script : List ℕ) (core offset : ℕ) (cause : LoadCause) (refusal : Refusal) → core ≡ 0
    → IsElf r.zero offset cause refusal → IsElfFault zero one core offset cause → SimRefuses r zero one script refusal
of_zero r zero one script core offset cause (Elf name at why) is elf fault =
    subst (λ (o : ℕ). ElfFault r zero one name o why) (sym elf.1)
    (subst (λ (w : LoadCause). ElfFault r zero one name offset w) (sym elf.2)
    (zero_at_fault r zero one name core offset cause is elf.0 fault))
of_zero r zero one script core offset cause NoMemory is elf fault = tt
of_zero r zero one script core offset cause (Source _ _ _) is elf fault = absurd elf
of_zero r zero one script core offset cause (Script _ _) is elf fault = absurd elf
of_zero r zero one script core offset cause (NotBuilt _ _) is elf fault = absurd elf

pub of_one : (r : BothCores) (zero one script : List ℕ) (core offset : ℕ) (cause : LoadCause) (refusal : Refusal) → core ≢ 0
    → IsElf r.one offset cause refusal → IsElfFault zero one core offset cause → SimRefuses r zero one script refusal
of_one r zero one script core offset cause (Elf name at why) is elf fault =
    subst (λ (o : ℕ). ElfFault r zero one name o why) (sym elf.1)
    (subst (λ (w : LoadCause). ElfFault r zero one name offset w) (sym elf.2)
    (one_at_fault r zero one name core offset cause is elf.0 fault))
of_one r zero one script core offset cause NoMemory is elf fault = tt
of_one r zero one script core offset cause (Source _ _ _) is elf fault = absurd elf
of_one r zero one script core offset cause (Script _ _) is elf fault = absurd elf
of_one r zero one script core offset cause (NotBuilt _ _) is elf fault = absurd elf
