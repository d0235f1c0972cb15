-- When a function is tidy.
use Rattle.std.specs.Prelude.{◌≡◌, ℕ, ◌==◌, ◌&&◌, not, Bool, true, false, List, [], ◌∷◌, ◌++◌, reverse, Option, Some, None}
use Rattle.std.specs.Prelude.{if◌then◌else◌, is_some}
use Rattle.std.specs.List.{list_all, list_any}
use Rattle.midcode.specs.declared.register.VReg.{VReg}
use Rattle.midcode.specs.declared.op.OpKind.{OpKind}
use Rattle.midcode.specs.declared.op.OpKind.TheVariants as op
use Rattle.midcode.specs.Operation.{reads, writes, is_value}

abbrev pub is_register : ℕ → VReg → Bool
is_register r v = v.0 == r

-- the operations read a register
abbrev pub are_reading : List OpKind → ℕ → Bool
are_reading ks r = list_any (λ k. list_any (is_register r) (reads k)) ks

abbrev pub is_result : ℕ → Option VReg → Bool
is_result r None = false
is_result r (Some v) = is_register r v

abbrev pub is_unread : List OpKind → Option VReg → Bool
is_unread ks None = false
is_unread ks (Some r) = not (are_reading ks r.0)

-- It only computes a value, and no operation of its function reads it.
abbrev pub is_idle : List OpKind → OpKind → Bool
is_idle ks k = is_value k && is_unread ks (writes k)

abbrev pub number_of : OpKind → Option ℕ
number_of (op.Constant to n) = Some n
number_of k = None

-- The constant that a register holds behind these operations, the last of which comes first, if that can be seen: the last that
-- writes it is a constant, and no label stands behind that.
abbrev pub known : List OpKind → ℕ → Option ℕ
known [] r = None
known (op.Label l ∷ ks) r = None
known (k ∷ ks) r = if is_result r (writes k) then number_of k else known ks r

abbrev pub is_foldable : OpKind → Bool
is_foldable (op.Unary o to from) = true
is_foldable (op.Binary o to left right) = true
is_foldable (op.Widen to from) = true
is_foldable k = false

-- It computes a number from numbers that can be seen.
abbrev pub is_plain_sum : List OpKind → OpKind → Bool
is_plain_sum before k = is_foldable k && list_all (λ r. is_some (known before r.0)) (reads k)

-- an operation of a list, with those before it, the last first
pub record Stands (ks : List OpKind) (k : OpKind) : Type 0 where
  pub front : List OpKind
  pub back : List OpKind
  pub at : ks ≡ front ++ k ∷ back

-- Every value is read somewhere.
abbrev pub HasNoIdle : List OpKind → Type 0
HasNoIdle ks = list_all (λ k. not (is_idle ks k)) ks ≡ true

-- and none could be seen before the run
abbrev pub IsFolded : List OpKind → Type 0
IsFolded ks = (k : OpKind) (at : Stands ks k) → is_plain_sum (reverse at.front) k ≡ false

pub record IsTidy (ks : List OpKind) : Type 0 where
  pub read : HasNoIdle ks
  pub folded : IsFolded ks
