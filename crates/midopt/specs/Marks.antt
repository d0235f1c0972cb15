-- Marks on the registers that are read.
use Rattle.std.specs.Prelude.{ℕ, not, Bool, true, false, List, [], ◌∷◌, Option, Some, None}
use Rattle.std.specs.Prelude.{slice_index_or, slice_set, replicate, flat_map, if◌then◌else◌}
use Rattle.midcode.specs.declared.register.VReg.{VReg}
use Rattle.midcode.specs.declared.op.OpKind.{OpKind}
use Rattle.midcode.specs.Operation.{reads, writes, is_value}

-- these registers are marked too
abbrev pub marked : List VReg → List Bool → List Bool
marked [] marks = marks
marked (r ∷ rs) marks = marked rs (slice_set marks r.0 true)

-- each register that an operation reads is marked
abbrev pub marks_of : List OpKind → ℕ → List Bool
marks_of ks count = marked (flat_map reads ks) (replicate count false)

-- the register that a value goes to, where an operation only computes that
abbrev pub value_to : OpKind → Option VReg
value_to k = if is_value k then writes k else None

-- There is a register that isn't marked.
abbrev pub is_unmarked : List Bool → Option VReg → Bool
is_unmarked marks None = false
is_unmarked marks (Some r) = not (slice_index_or marks r.0 true)
