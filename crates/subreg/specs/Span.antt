-- The span of a virtual register: where in its function it may be needed. Places are those of operations, from 0 on.
use Rattle.std.specs.Prelude.{◌≡◌, ℕ, ◌+◌, ◌<◌, ◌≤◌, ◌⊎◌, Bool, not, IsTrue, List, length, Some, slice_get, Contains}
use Rattle.midcode.specs.declared.register.Label.{Label}
use Rattle.midcode.specs.declared.register.VReg.{VReg}
use Rattle.midcode.specs.declared.op.OpKind.{OpKind}
use Rattle.midcode.specs.Operation.{reads, writes, target_of, is_last, parameters}
use Rattle.midcode.specs.Function.{Function, kinds}
use Rattle.midcode.specs.Meaning.{standing_at}

-- an operation at its place
abbrev pub Stands : List OpKind → ℕ → OpKind → Type 0
Stands ks place k = slice_get ks place ≡ Some k

-- the operation at a place reads the register
pub record ReadsAt (ks : List OpKind) (place : ℕ) (v : VReg) : Type 0 where
  pub kind : OpKind
  pub stands : Stands ks place kind
  pub read : Contains (reads kind) v

pub record WritesAt (ks : List OpKind) (place : ℕ) (v : VReg) : Type 0 where
  pub kind : OpKind
  pub stands : Stands ks place kind
  pub written : writes kind ≡ Some v

-- A parameter is mentioned at the first place too, and not written there.
abbrev pub MentionedAt : Function → ℕ → VReg → Type 0
MentionedAt f place v =
    (ReadsAt (kinds f) place v ⊎ WritesAt (kinds f) place v) ⊎ ((place ≡ 0) × (v.0 < length (parameters f.signature)))

-- it may be followed by the operation behind it
abbrev pub is_onward : OpKind → Bool
is_onward k = not (is_last k)

-- one operation may be run behind another: the next one, or the one that it goes to
pub data Follows (ks : List OpKind) : ℕ → ℕ → Type 0 where
  next : (place : ℕ) (k : OpKind) → Stands ks place k → IsTrue (is_onward k) → Follows ks place (place + 1)
  goes : (place : ℕ) (k : OpKind) (l : Label) → Stands ks place k → target_of k ≡ Some l → Follows ks place (standing_at ks l.0)

-- The loop of a jump back: the operations from its target to it.
pub record IsLoop (ks : List OpKind) (first last : ℕ) : Type 0 where
  pub kind : OpKind
  pub label : Label
  pub stands : Stands ks last kind
  pub target : target_of kind ≡ Some label
  pub head : first ≡ standing_at ks label.0
  pub back : first ≤ last

abbrev pub Within : ℕ → ℕ → ℕ → Type 0
Within first last place = (first ≤ place) × (place ≤ last)

-- From a place of the loop the register may be read in it before it is written.
pub data MayBeRead (ks : List OpKind) (first last : ℕ) (v : VReg) : ℕ → Type 0 where
  here : (place : ℕ) → Within first last place → ReadsAt ks place v → MayBeRead ks first last v place
  onwards : (place behind : ℕ) → Within first last place → ¬ WritesAt ks place v → Follows ks place behind
      → MayBeRead ks first last v behind → MayBeRead ks first last v place

-- A span crosses a loop where the register is mentioned inside and outside it, or may be read in it, from its first place, before it is
-- written.
pub record Crosses (f : Function) (v : VReg) (first last : ℕ) : Type 0 where
  pub loop : IsLoop (kinds f) first last
  pub why :
      ((inside : ℕ) × (outside : ℕ) × MentionedAt f inside v × MentionedAt f outside v × Within first last inside ×
      (Within first last outside → ⊥))
      ⊎ MayBeRead (kinds f) first last v first

-- all mentions of a register, and all loops that its span crosses, lie within these places
pub record Holds (f : Function) (v : VReg) (from to : ℕ) : Type 0 where
  pub mentions : (place : ℕ) → MentionedAt f place v → Within from to place
  pub loops : (first last : ℕ) → Crosses f v first last → (from ≤ first) × (last ≤ to)

-- The span: from the first to the last mention, extended over each loop that it crosses.
pub record IsSpan (f : Function) (v : VReg) (from to : ℕ) : Type 0 where
  pub holds : Holds f v from to
  pub least : (a b : ℕ) → Holds f v a b → (a ≤ from) × (to ≤ b)
