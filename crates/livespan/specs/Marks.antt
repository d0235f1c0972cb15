-- Marks on the operations of a loop: at those that are marked a register may be read, in the loop, before it is written.
use Rattle.std.specs.Prelude.{◌≡◌, ℕ, ◌+◌, ◌-◌, ◌<◌, ◌≤◌, ◌⊎◌, Bool, true, false, List, [], ◌∷◌, slice_index_or}
use Rattle.midcode.specs.declared.register.VReg.{VReg}
use Rattle.midcode.specs.declared.op.OpKind.{OpKind}
use Rattle.subreg.specs.Span.{Within, ReadsAt, WritesAt, Follows, MayBeRead}

pub record IsMarked (first last : ℕ) (marks : List Bool) (place : ℕ) : Type 0 where
  pub within : Within first last place
  pub marked : slice_index_or marks (place - first) false ≡ true

module _ (ks : List OpKind) (first last : ℕ) where
  -- a place that may follow is marked
  pub record LeadsOn (marks : List Bool) (place : ℕ) : Type 0 where
    pub behind : ℕ
    pub follows : Follows ks place behind
    pub marked : IsMarked first last marks behind

  module _ (v : VReg) where
    abbrev pub AreSound : List Bool → Type 0
    AreSound marks = (place : ℕ) → IsMarked first last marks place → MayBeRead ks first last v place

    -- the register is read here, or not written, and a place that may follow is marked
    abbrev pub IsWanted : List Bool → ℕ → Type 0
    IsWanted marks place = ReadsAt ks place v ⊎ ((WritesAt ks place v → ⊥) × LeadsOn marks place)

    -- from a place of the loop on, all that are wanted are marked
    abbrev pub AreClosedFrom : ℕ → List Bool → Type 0
    AreClosedFrom from marks = (place : ℕ) → from ≤ place → place ≤ last → IsWanted marks place → IsMarked first last marks place

abbrev pub unmarked : List Bool → ℕ
unmarked [] = 0
unmarked (true ∷ marks) = unmarked marks
unmarked (false ∷ marks) = unmarked marks + 1

-- whether marks were made before or are now, and what is known where none were
abbrev pub MarksMore : Bool → Bool → List Bool → List Bool → Type 0
MarksMore before true old new = (unmarked new < unmarked old) ⊎ ((before ≡ true) × (new ≡ old))
MarksMore before false old new = (before ≡ false) × (new ≡ old)
