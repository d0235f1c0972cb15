-- What an operator becomes between operands in fields and a result in a field.
use Rattle.std.specs.Prelude.{ℕ, Bool, true, false, ◌*◌, ◌-◌, ◌/◌, ◌%◌, ◌^◌, List, [], ◌∷◌, ◌++◌}
use Rattle.prunum.specs.Width.{byte_count}
use Rattle.prunum.specs.Number.{bit_count}
use Rattle.prunum.specs.declared.width.Width.{Width}
use Rattle.isa.specs.declared.field.Field.{Field}
use Rattle.isa.specs.declared.field.Operand.{Operand}
use Rattle.isa.specs.declared.field.Operand.TheVariants as operand
use Rattle.isa.specs.declared.inst.AluOp.{AluOp}
use Rattle.isa.specs.declared.inst.AluOp.TheVariants as alu
use Rattle.isa.specs.declared.inst.Inst.{Inst}
use Rattle.isa.specs.declared.inst.Inst.TheVariants as inst
use Rattle.midcode.specs.declared.op.BinaryOp.{BinaryOp}
use Rattle.midcode.specs.declared.op.BinaryOp.TheVariants as binary
use Rattle.midcode.specs.declared.op.UnaryOp.{UnaryOp}
use Rattle.midcode.specs.declared.op.UnaryOp.TheVariants as unary
use Rattle.fieldcode.specs.Insts.{whole, between, mask, turned_left, turned_right, constant}

-- ---- chains

-- what an instruction makes of a number and an operand
pub data Action : Type 0 where
  Computes : AluOp → Operand → Action
  Finds : Operand → Action
  Complements : Action

abbrev pub inst_of : Action → Field → Field → Inst
inst_of (Computes op b) d a = inst.Alu op d a b
inst_of (Finds b) d a = inst.Lmbd d a b
inst_of Complements d a = inst.Not d a

-- Each instruction goes on with what the one before gave, in R1. The last one's result goes to a field.
abbrev pub chained : Field → Field → List Action → List Inst
chained d a [] = []
chained d a (x ∷ []) = inst_of x d a ∷ []
chained d a (x ∷ y ∷ xs) = inst_of x between a ∷ chained d between (y ∷ xs)

-- Some instructions that fill scratch registers, and a chain from a field on.
pub record Work : Type 0 where
  pub first : List Inst
  pub from : Field
  pub chain : List Action

abbrev pub just : Field → List Action → Work
just a chain = record { first = []; from = a; chain = chain }

abbrev pub work_code : Work → Field → List Inst
work_code w d = w.first ++ chained d w.from w.chain

-- ---- operators

abbrev pub one : Operand
one = operand.Imm 1

-- 1 where the left operand is less than the right one: where it isn't the greater of both
abbrev pub less : Field → Operand → List Action
less a b = Computes alu.Max b ∷ Computes alu.Xor (operand.Field a) ∷ Computes alu.Min one ∷ []

-- 0 where the right operand is less than the left one, and so isn't the greater of both
abbrev pub less_or_equal : Operand → List Action
less_or_equal b = Computes alu.Max b ∷ Computes alu.Xor b ∷ Computes alu.Min one ∷ Computes alu.Xor one ∷ []

abbrev pub sign_bit : List Inst
sign_bit = constant mask (2 ^ 31)

-- Both operands with their sign bits turned are in the order of two's complement.
abbrev pub turned : Field → Operand → List Inst
turned a b =
    sign_bit ++ (inst.Alu alu.Xor turned_left mask (operand.Field a) ∷ inst.Alu alu.Xor turned_right mask b ∷ [])

-- the sign bit, shifted as the number is
abbrev pub shifted_mask : Operand → List Inst
shifted_mask (operand.Imm n) = constant mask (2 ^ 31 / 2 ^ (n % 32))
shifted_mask (operand.Field b) = sign_bit ++ (inst.Alu alu.Lsr mask mask (operand.Field b) ∷ [])

-- It is done by the words themselves, and not by a helper.
abbrev pub is_direct : BinaryOp → Bool
is_direct binary.Multiply = false
is_direct binary.Quotient = false
is_direct binary.QuotientSigned = false
is_direct binary.Remainder = false
is_direct binary.RemainderSigned = false
is_direct _ = true

abbrev pub binary_work : BinaryOp → Field → Operand → Work
binary_work binary.Add a b = just a (Computes alu.Add b ∷ [])
binary_work binary.Subtract a b = just a (Computes alu.Sub b ∷ [])
binary_work binary.And a b = just a (Computes alu.And b ∷ [])
binary_work binary.Or a b = just a (Computes alu.Or b ∷ [])
binary_work binary.Xor a b = just a (Computes alu.Xor b ∷ [])
binary_work binary.ShiftLeft a b = just a (Computes alu.Lsl b ∷ [])
binary_work binary.ShiftRight a b = just a (Computes alu.Lsr b ∷ [])
binary_work binary.ShiftRightSigned a b = record {
  first = shifted_mask b;
  from = a;
  chain = Computes alu.Lsr b ∷ Computes alu.Xor (operand.Field mask) ∷ Computes alu.Sub (operand.Field mask) ∷ [];
}
binary_work binary.Equal a b = just a (Computes alu.Xor b ∷ Computes alu.Min one ∷ Computes alu.Xor one ∷ [])
binary_work binary.NotEqual a b = just a (Computes alu.Xor b ∷ Computes alu.Min one ∷ [])
binary_work binary.Less a b = just a (less a b)
binary_work binary.LessSigned a b =
    record { first = turned a b; from = turned_left; chain = less turned_left (operand.Field turned_right) }
binary_work binary.LessOrEqual a b = just a (less_or_equal b)
binary_work binary.LessOrEqualSigned a b =
    record { first = turned a b; from = turned_left; chain = less_or_equal (operand.Field turned_right) }
binary_work binary.LeftmostBit a b = just a (Finds b ∷ [])
-- The others are calls of helpers.
binary_work _ a b = just a []

abbrev pub unary_work : UnaryOp → Field → Work
unary_work unary.Negate a = just a (Computes alu.Rsb (operand.Imm 0) ∷ [])
unary_work unary.Complement a = just a (Complements ∷ [])
unary_work unary.Not a = just a (Computes alu.Min one ∷ Computes alu.Xor one ∷ [])

abbrev pub copy_work : Field → Work
copy_work a = just a (Computes alu.Add (operand.Imm 0) ∷ [])

-- The sign bit of the narrow number is turned, and then taken off: so it counts as what is below 0.
abbrev pub widen_work : Width → Field → Work
widen_work w a = record {
  first = constant mask (2 ^ (bit_count w - 1));
  from = a;
  chain = Computes alu.Xor (operand.Field mask) ∷ Computes alu.Sub (operand.Field mask) ∷ [];
}
