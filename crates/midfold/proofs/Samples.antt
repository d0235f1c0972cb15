-- What stands in an operation's place, and what is known behind one, on small tables of numbers.
use Rattle.std.proofs.Common.{◌≡◌, ℕ, true, List, [], ◌∷◌, Option, Some, None, refl}
use Rattle.prunum.specs.declared.width.Width.{Width}
use Rattle.prunum.specs.declared.width.Width.TheVariants.{B1, B4}
use Rattle.midcode.specs.declared.register.VReg.{VReg}
use Rattle.midcode.specs.declared.op.BinaryOp.TheVariants as binary
use Rattle.midcode.specs.declared.op.Operand.TheVariants as operand
use Rattle.midcode.specs.declared.op.Test.TheVariants as test
use Rattle.midcode.specs.declared.op.VolatileBase.TheVariants as volatile
use Rattle.midcode.specs.declared.op.OpKind.TheVariants as op
use Rattle.midcode.specs.Value.{binary_value}
use Rattle.midfold.specs.Folding.{improved, noted}

abbrev v : ℕ → VReg
v n = record { 0 = n }

abbrev words : List Width
words = B4 ∷ B4 ∷ []

-- register 0 holds 3, and nothing is known of register 1
abbrev three : List (Option ℕ)
three = Some 3 ∷ None ∷ []

sum : improved words three (op.Binary binary.Add (v 1) (v 0) (operand.Constant 4)) ≡ Some (op.Constant (v 1) 7)
unfolding binary_value
sum = refl

-- a result is cut to its register
sum_of_a_byte : improved (B1 ∷ []) (Some 255 ∷ []) (op.Binary binary.Add (v 0) (v 0) (operand.Constant 2)) ≡ Some (op.Constant (v 0) 1)
unfolding binary_value
sum_of_a_byte = refl

copy : improved words three (op.Copy (v 1) (v 0)) ≡ Some (op.Constant (v 1) 3)
copy = refl

-- a right operand that is known goes into the operation
right_known : improved words three (op.Binary binary.Subtract (v 1) (v 1) (operand.Register (v 0)))
    ≡ Some (op.Binary binary.Subtract (v 1) (v 1) (operand.Constant 3))
right_known = refl

left_known : improved words three (op.Binary binary.Subtract (v 1) (v 0) (operand.Register (v 1))) ≡ None
left_known = refl

jump_back : improved words three (op.Branch (v 0) test.NotEqual 8 (record { 0 = 0 }) (Some 8)) ≡ None
jump_back = refl

over_a_label : noted words (op.Label (record { 0 = 0 })) three ≡ None ∷ None ∷ []
over_a_label = refl

behind_a_read : noted words (op.Read (v 0) (volatile.Address 0x1e00) 0 true) three ≡ None ∷ None ∷ []
behind_a_read = refl

behind_a_constant : noted words (op.Constant (v 1) 9) three ≡ Some 3 ∷ Some 9 ∷ []
behind_a_constant = refl
