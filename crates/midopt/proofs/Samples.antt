-- Small lists of operations: which constants can be seen, what could be computed before the run, and what nobody reads.
use Rattle.std.proofs.Common.{◌≡◌, ℕ, true, false, [], ◌∷◌, Some, None, refl}
use Rattle.midcode.specs.declared.register.VReg.{VReg}
use Rattle.midcode.specs.declared.op.Base.TheVariants as base
use Rattle.midcode.specs.declared.op.BinaryOp.TheVariants as binary
use Rattle.midcode.specs.declared.op.Operand.TheVariants as operand
use Rattle.midcode.specs.declared.op.VolatileBase.TheVariants as volatile
use Rattle.midcode.specs.declared.op.OpKind.{OpKind}
use Rattle.midcode.specs.declared.op.OpKind.TheVariants as op
use Rattle.midopt.specs.Tidy.{is_idle, known, is_plain_sum}

abbrev v : ℕ → VReg
v n = record { 0 = n }

abbrev five : OpKind
five = op.Constant (v 1) 5

abbrev sum : OpKind
sum = op.Binary binary.Add (v 2) (v 1) (operand.Constant 4)

constant : known (five ∷ []) 1 ≡ Some 5
constant = refl

-- the last operation comes first
over_a_label : known (op.Label (record { 0 = 0 }) ∷ five ∷ []) 1 ≡ None
over_a_label = refl

written_again : known (op.Copy (v 1) (v 2) ∷ five ∷ []) 1 ≡ None
written_again = refl

of_constants : is_plain_sum (five ∷ []) sum ≡ true
of_constants = refl

of_what_is_read : is_plain_sum (op.Read (v 1) (volatile.Address 0x1e00) 0 true ∷ five ∷ []) sum ≡ false
of_what_is_read = refl

dead_load : is_idle (op.Load (v 0) (base.Object 0) 0 ∷ []) (op.Load (v 0) (base.Object 0) 0) ≡ true
dead_load = refl

volatile_read : is_idle (op.Read (v 0) (volatile.Address 0x1e00) 0 true ∷ []) (op.Read (v 0) (volatile.Address 0x1e00) 0 true) ≡ false
volatile_read = refl

-- what an operation reads itself is read
counter : is_idle (op.Binary binary.Add (v 0) (v 0) (operand.Constant 1) ∷ [])
    (op.Binary binary.Add (v 0) (v 0) (operand.Constant 1)) ≡ false
counter = refl
