-- Of the proof: how often registers are read, counted up to a most, at which a count stays.
use Rattle.std.specs.Prelude.{ℕ, ◌+◌, ◌-◌, ◌==◌, ◌<◌, ◌≤◌, Bool, false, nat_lt, List, [], ◌∷◌, Option, Some, None}
use Rattle.std.specs.Prelude.{slice_index_or, slice_set, if◌then◌else◌}
use Rattle.midcode.specs.declared.register.VReg.{VReg}
use Rattle.midcode.specs.declared.op.OpKind.{OpKind}
use Rattle.midcode.specs.Operation.{reads}
use Rattle.midfold.specs.declared.unread.Change.{Change}
use Rattle.midfold.specs.declared.unread.Change.TheVariants.{Raise, Lower}

abbrev pub most : ℕ
most = 4294967295

abbrev pub changed : Change → ℕ → ℕ
changed Raise n = if nat_lt n most then n + 1 else n
changed Lower n = if nat_lt n most then n - 1 else n

abbrev pub count_at : List ℕ → ℕ → ℕ
count_at counts r = slice_index_or counts r most

abbrev pub changed_all : Change → List VReg → List ℕ → List ℕ
changed_all change [] counts = counts
changed_all change (r ∷ rs) counts = changed_all change rs (slice_set counts r.0 (changed change (count_at counts r.0)))

-- how often a register is among these, and is read by operations
abbrev pub times : ℕ → List VReg → ℕ
times r [] = 0
times r (v ∷ vs) = (if v.0 == r then 1 else 0) + times r vs

abbrev pub uses : List OpKind → ℕ → ℕ
uses [] r = 0
uses (k ∷ ks) r = times r (reads k) + uses ks r

-- No count is less than what it counts.
abbrev pub Covers : (ℕ → ℕ) → List ℕ → Type 0
Covers count counts = (r : ℕ) → count_at counts r < most → count r ≤ count_at counts r

-- There is a register, and it was counted never.
abbrev pub is_uncounted : List ℕ → Option VReg → Bool
is_uncounted counts None = false
is_uncounted counts (Some r) = count_at counts r.0 == 0
