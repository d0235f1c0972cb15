-- Files that are written, one after the other, and then lines for the user.
use Rattle.std.specs.Prelude.{◌≡◌, ◌⊎◌, ℕ, List, [], ◌∷◌, ◌++◌, map, Option, Some, codes}
use Rattle.fileset.specs.FileMap.{NamedFiles}
use Rattle.fileset.specs.Told.{Held, Tells, IsSameFiles, IsSameButFor, IsCutShort, AppendsFront}
use Rattle.fileset.specs.Faults.{Rose}
use Rattle.modefiles.specs.declared.output.Output.{Output}
use Rattle.modefiles.specs.declared.fault.OutputFault.{OutputFault}
use Rattle.modefiles.specs.declared.fault.OutputFault.TheVariants.{Failed, NoMemory}

-- each with its name and its bytes
abbrev pub named : List Output → NamedFiles
named outputs = map (λ output. (output.name, output.bytes.items)) outputs

-- the file of this name holds these bytes, and no other has changed
pub record HoldsFile (file : List ℕ × List ℕ) (before after : Held) : Type 0 where
  pub written : after file.0 ≡ Some file.1
  pub others : IsSameButFor file.0 before after

-- that file is as it was or holds a front of the bytes, and no other has changed
pub record CutsFile (file : List ℕ × List ℕ) (before after : Held) : Type 0 where
  pub cut_short : IsCutShort file.1 (before file.0) (after file.0)
  pub others : IsSameButFor file.0 before after

-- they are written, one after the other, and no other file has changed
abbrev pub Wrote : NamedFiles → Held → Held → Type 0
Wrote [] before after = IsSameFiles before after
Wrote (file ∷ rest) before after = (between : Held) × HoldsFile file before between × Wrote rest between after

-- those before the one of this name are written, that one may be cut short, and no other file has changed
abbrev pub CutsAt : NamedFiles → List ℕ → Held → Held → Type 0
CutsAt [] name before after = ⊥
CutsAt (file ∷ rest) name before after = ((name ≡ file.0) × CutsFile file before after)
    ⊎ ((between : Held) × HoldsFile file before between × CutsAt rest name between after)

-- some first ones are written, or none, and no other file has changed
abbrev pub WroteSome : NamedFiles → Held → Held → Type 0
WroteSome [] before after = IsSameFiles before after
WroteSome (file ∷ rest) before after = IsSameFiles before after
    ⊎ ((between : Held) × HoldsFile file before between × WroteSome rest between after)

-- why they aren't all written: the files failed at this one, or memory was wanting
abbrev pub OutputFails : NamedFiles → Option Held → Option Held → ℕ → ℕ → OutputFault → Type 0
OutputFails files held now faults after (Failed name) = Rose faults after × Tells held now (CutsAt files name)
OutputFails files held now faults after NoMemory = Tells held now (WroteSome files)

-- the name that stands for the sink
abbrev pub sink_name : List ℕ
sink_name = codes "-"

-- the sink has taken this, if it tells
abbrev pub HasTaken : List ℕ → Option (List ℕ) → Option (List ℕ) → Type 0
HasTaken text taken now = Tells taken now (λ old new. new ≡ old ++ text)

-- why lines aren't taken: the sink failed, and has taken a front of them
abbrev pub PutFails : List ℕ → Option (List ℕ) → Option (List ℕ) → ℕ → ℕ → OutputFault → Type 0
PutFails text taken now faults after (Failed name) =
    (name ≡ sink_name) × Rose faults after × Tells taken now (λ old new. AppendsFront old text new)
PutFails text taken now faults after NoMemory = ⊥
