-- What stands in a byte, and the byte that it is written as, undo one another.
use Rattle.std.proofs.Common.{◌≡◌, ℕ, ◌/◌, ◌<◌, ◌≤◌, arith, refl, ap, ◌∙◌, Some, lit<, lit≤, ◌≢◌, inl, inr}
use Rattle.std.specs.Prelude.{◌⊎◌, unsigned_abs, ℤ, pos, negsuc, neg_ℤ, ◌≤ℤ◌}
use Rattle.std.specs.Int.{int_rem_euclid}
use Rattle.std.proofs.lemmas.Int.{ints}
use Rattle.std.proofs.lemmas.Bool.Decides.{nat_tests}
use Rattle.isa.specs.declared.access.Constant.{Constant}
use Rattle.isa.specs.declared.access.Constant.TheVariants.{C0, C4, C24, C25, C28}
use Rattle.isa.specs.declared.control.BranchOffset.{BranchOffset}
use Rattle.isa.specs.declared.control.Condition.{Condition}
use Rattle.isa.specs.declared.control.Condition.TheVariants.{Lt, Eq, Le, Gt, Ne, Ge, BitClear, BitSet}
use Rattle.isa.specs.declared.field.Part.{Part}
use Rattle.isa.specs.declared.field.Part.TheVariants.{B0, B1, B2, B3, W0, W1, W2, All}
use Rattle.isa.specs.declared.field.Field.{Field}
use Rattle.isa.specs.declared.field.Operand.{Operand}
use Rattle.isa.specs.declared.field.Operand.TheVariants as operand
use Rattle.isa.specs.declared.inst.AluOp.{AluOp}
use Rattle.isa.specs.declared.inst.AluOp.TheVariants.{Add, Sub, Lsl, Lsr, Rsb, And, Or, Xor, Min, Max, Clr, Set}
use Rattle.isa.specs.declared.transfer.Bank.{Bank}
use Rattle.isa.specs.declared.transfer.Bank.TheVariants.{Bank0, Bank1, Bank2}
use Rattle.isa.specs.Ranges.{signed}
use Rattle.isa.specs.Row.{part_number, op_number, condition_number, device_number}
use Rattle.isa.specs.Row.{constant_number, field_code, io, operand_code, offset_bits}
use Rattle.isa.specs.Decoded.{part_at, op_at, condition_at, bank_at, constant_at, field_at, operand_at, offset_at}
use Rattle.isa.proofs.Ranged.{same_field, same_offset}

-- ---- numbers and what they stand for undo one another

pub part_number-lt : (p : Part) → part_number p < 8
part_number-lt B0 = lit< tt
part_number-lt B1 = lit< tt
part_number-lt B2 = lit< tt
part_number-lt B3 = lit< tt
part_number-lt W0 = lit< tt
part_number-lt W1 = lit< tt
part_number-lt W2 = lit< tt
part_number-lt All = lit< tt

part_at-part_number : (p : Part) → part_at (part_number p) ≡ p
part_at-part_number B0 = refl
part_at-part_number B1 = refl
part_at-part_number B2 = refl
part_at-part_number B3 = refl
part_at-part_number W0 = refl
part_at-part_number W1 = refl
part_at-part_number W2 = refl
part_at-part_number All = refl

-- an operation's number is below 16 and not 11, which NOT has
pub record IsOpNumber (n : ℕ) : Type 0 where
  pub below : n < 16
  pub other : n ≢ 11

pub op_number-is : (op : AluOp) → IsOpNumber (op_number op)
op_number-is Add = record { below = lit< tt; other = omega arith }
op_number-is Sub = record { below = lit< tt; other = omega arith }
op_number-is Lsl = record { below = lit< tt; other = omega arith }
op_number-is Lsr = record { below = lit< tt; other = omega arith }
op_number-is Rsb = record { below = lit< tt; other = omega arith }
op_number-is And = record { below = lit< tt; other = omega arith }
op_number-is Or = record { below = lit< tt; other = omega arith }
op_number-is Xor = record { below = lit< tt; other = omega arith }
op_number-is Min = record { below = lit< tt; other = omega arith }
op_number-is Max = record { below = lit< tt; other = omega arith }
op_number-is Clr = record { below = lit< tt; other = omega arith }
op_number-is Set = record { below = lit< tt; other = omega arith }

pub op_at-op_number : (op : AluOp) → op_at (op_number op) ≡ Some op
op_at-op_number Add = refl
op_at-op_number Sub = refl
op_at-op_number Lsl = refl
op_at-op_number Lsr = refl
op_at-op_number Rsb = refl
op_at-op_number And = refl
op_at-op_number Or = refl
op_at-op_number Xor = refl
op_at-op_number Min = refl
op_at-op_number Max = refl
op_at-op_number Clr = refl
op_at-op_number Set = refl

-- a condition's number is not that of QBA, and it puts the word among the branches
pub record IsConditionNumber (n : ℕ) : Type 0 where
  pub other : n ≢ 15
  pub place : ((8 ≤ n) × (n < 16)) ⊎ ((24 ≤ n) × (n < 28))

pub condition_number-is : (c : Condition) → IsConditionNumber (condition_number c)
condition_number-is Lt = record { other = omega arith; place = inl (lit≤ tt, lit< tt) }
condition_number-is Eq = record { other = omega arith; place = inl (lit≤ tt, lit< tt) }
condition_number-is Le = record { other = omega arith; place = inl (lit≤ tt, lit< tt) }
condition_number-is Gt = record { other = omega arith; place = inl (lit≤ tt, lit< tt) }
condition_number-is Ne = record { other = omega arith; place = inl (lit≤ tt, lit< tt) }
condition_number-is Ge = record { other = omega arith; place = inl (lit≤ tt, lit< tt) }
condition_number-is BitClear = record { other = omega arith; place = inr (lit≤ tt, lit< tt) }
condition_number-is BitSet = record { other = omega arith; place = inr (lit≤ tt, lit< tt) }

pub condition_at-condition_number : (c : Condition) → condition_at (condition_number c) ≡ Some c
condition_at-condition_number Lt = refl
condition_at-condition_number Eq = refl
condition_at-condition_number Le = refl
condition_at-condition_number Gt = refl
condition_at-condition_number Ne = refl
condition_at-condition_number Ge = refl
condition_at-condition_number BitClear = refl
condition_at-condition_number BitSet = refl

pub bank_at-device_number : (b : Bank) → bank_at (device_number b) ≡ Some b
bank_at-device_number Bank0 = refl
bank_at-device_number Bank1 = refl
bank_at-device_number Bank2 = refl

pub constant_at-constant_number : (c : Constant) → constant_at (constant_number c) ≡ Some c
constant_at-constant_number C0 = refl
constant_at-constant_number C4 = refl
constant_at-constant_number C24 = refl
constant_at-constant_number C25 = refl
constant_at-constant_number C28 = refl

pub constant_number-lt : (c : Constant) → constant_number c < 32
constant_number-lt C0 = lit< tt
constant_number-lt C4 = lit< tt
constant_number-lt C24 = lit< tt
constant_number-lt C25 = lit< tt
constant_number-lt C28 = lit< tt

pub field_at-field_code : (f : Field) → field_at (field_code f) ≡ f
field_at-field_code f =
    let l : part_number f.part < 8 = part_number-lt f.part in
    let h : f.reg < 32 = f.in_range in
    let e : field_code f / 32 ≡ part_number f.part = omega arith in
    same_field (field_at (field_code f)) f (omega arith) (ap part_at e ∙ part_at-part_number f.part)

pub operand_at-operand_code : (o : Operand) → operand_at (io o) (operand_code o) ≡ o
operand_at-operand_code (operand.Field f) = ap operand.Field (field_at-field_code f)
operand_at-operand_code (operand.Imm n) = refl

pub io-lt : (o : Operand) → io o < 2
io-lt (operand.Field f) = lit< tt
io-lt (operand.Imm n) = lit< tt

signed-bits : (z : ℤ) → neg_ℤ (pos 512) ≤ℤ z → z ≤ℤ pos 511 → signed (unsigned_abs (int_rem_euclid z (pos 1024))) ≡ z
signed-bits (pos n) l g = grind (arith, ints, nat_tests)
signed-bits (negsuc n) l g = grind (arith, ints, nat_tests)

pub offset_bits-lt : (o : BranchOffset) → offset_bits o < 1024
offset_bits-lt o = bits_below o.words
  where
    bits_below : (z : ℤ) → unsigned_abs (int_rem_euclid z (pos 1024)) < 1024
    bits_below (pos n) = omega arith
    bits_below (negsuc n) = omega arith

pub offset_at-offset_bits : (o : BranchOffset) → offset_at (offset_bits o) ≡ o
offset_at-offset_bits o = same_offset _ o (signed-bits o.words o.least o.greatest)
