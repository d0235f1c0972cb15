-- The instruction that a mnemonic with operands is. In place of a label's word stands the least number that its type has.
use Rattle.std.specs.Prelude.{ℕ, ◌+◌, ◌-◌, ◌*◌, ◌<◌, ◌≤◌, ◌&&◌, Bool, IsTrue, nat_lt, nat_le, if◌then◌else◌}
use Rattle.std.specs.Prelude.{Option, Some, None, option_and_then}
use Rattle.std.proofs.Common.{arith}
use Rattle.std.proofs.lemmas.Bool.Decides.{nat_tests}
use Rattle.isa.specs.declared.access.Access.{Access}
use Rattle.isa.specs.declared.access.Base.{Base}
use Rattle.isa.specs.declared.access.Base.TheVariants as base
use Rattle.isa.specs.declared.control.BranchOffset.{BranchOffset}
use Rattle.isa.specs.declared.control.Jump.{Jump}
use Rattle.isa.specs.declared.control.Jump.TheVariants as jump
use Rattle.isa.specs.declared.control.LoopBody.{LoopBody}
use Rattle.isa.specs.declared.field.Field.{Field}
use Rattle.isa.specs.declared.field.Operand.{Operand}
use Rattle.isa.specs.declared.field.Operand.TheVariants as operand
use Rattle.isa.specs.declared.field.Part.{Part}
use Rattle.isa.specs.declared.field.Part.TheVariants.{B1, B2, B3, All}
use Rattle.isa.specs.declared.inst.Inst.{Inst}
use Rattle.isa.specs.declared.inst.Inst.TheVariants as inst
use Rattle.isa.specs.declared.transfer.Transfer.{Transfer}
use Rattle.isa.specs.Low.{is_low_base, is_low_operand}
use Rattle.isa.specs.Ranges.{first_of, last_of}
use Rattle.isa.specs.Decoded.{where_true, transfer_at, body_at, constant_at, offset_at}
use Rattle.asmword.specs.declared.form.Operands.{Operands}
use Rattle.asmword.specs.declared.form.Operands.TheVariants.{Nothing, One, Two, Three, Four}
use Rattle.asmword.specs.declared.form.Word.{Word}
use Rattle.asmword.specs.declared.form.Word.TheVariants as word
use Rattle.asmword.specs.declared.mnemonic.Mnemonic.{Mnemonic}
use Rattle.asmword.specs.declared.mnemonic.Mnemonic.TheVariants.{Alu, Not, Jmp, Jal, Ldi, Lmbd, Halt, Xin, Xout, Loop, Branch}
use Rattle.asmword.specs.declared.mnemonic.Mnemonic.TheVariants.{Qba, Lbbo, Lbco, Sbbo, Sbco}

infixl 10 ◌>>=◌
abbrev pub ◌>>=◌ : {A B : Type 0} → Option A → (A → Option B) → Option B
o >>= f = option_and_then f o

-- ---- operands

pub is_below : (n m : ℕ) → IsTrue (nat_lt n m) → n < m
is_below n m h = grind (arith, nat_tests)

abbrev pub field_at : ℕ → Part → Option Field
field_at n part = where_true (nat_lt n 32) (λ h. Some (record { reg = n; part = part; in_range = is_below n 32 h }))

unfoldable pub field_of : Word → Option Field
field_of (word.Field n part) = field_at n part
field_of _ = None

-- a number of at most so much
abbrev pub at_most : ℕ → ℕ → Option ℕ
at_most most n = if nat_le n most then Some n else None

unfoldable pub value_of : Word → Option Operand
value_of (word.Field n part) = field_at n part >>= λ f. Some (operand.Field f)
value_of (word.Number n) = at_most 255 n >>= λ n. Some (operand.Imm n)
value_of _ = None

unfoldable pub jump_of : Word → Option Jump
jump_of (word.Field n part) = field_at n part >>= λ f. Some (jump.Field f)
jump_of word.Label = Some (jump.Word 0)
jump_of _ = None

unfoldable pub number_of : ℕ → Word → Option ℕ
number_of most (word.Number n) = at_most most n
number_of most _ = None

-- a whole register of R0 to R29
unfoldable pub register_of : Word → Option ℕ
register_of (word.Field n All) = at_most 29 n
register_of _ = None

unfoldable pub constant_of : Word → Option Base
constant_of (word.Constant n) = constant_at n >>= λ c. Some (base.Constant c)
constant_of _ = None

-- a register of R0 to R29, and the number of a byte in it
unfoldable pub byte_of : Part → Option ℕ
byte_of All = Some 0
byte_of B1 = Some 1
byte_of B2 = Some 2
byte_of B3 = Some 3
byte_of _ = None

-- ---- what instructions move, and the body of a LOOP

unfoldable pub transfer_of : Word → Word → Word → Option Transfer
transfer_of device first count = do
  device ← number_of 12 device
  first ← register_of first
  count ← number_of 4 count
  transfer_at device first count

unfoldable pub body_of : Word → Option LoopBody
body_of word = number_of 256 word >>= λ n. if nat_le 1 n then body_at (n - 1) 1 else None

abbrev pub is_access : ℕ → ℕ → ℕ → Base → Operand → Bool
is_access first byte len b o = is_low_base b && is_low_operand o && (nat_lt byte 4 && (nat_le 1 len && nat_le (4 * first + byte + len) 120))

pub byte_in : (first byte len : ℕ) (b : Base) (o : Operand) → IsTrue (is_access first byte len b o) → byte < 4
byte_in first byte len b o h = is_below byte 4 (first_of _ _ (last_of (is_low_base b && is_low_operand o) _ h))

pub is_least : (n m : ℕ) → IsTrue (nat_le n m) → n ≤ m
is_least n m h = grind (arith, nat_tests)

pub some_byte : (first byte len : ℕ) (b : Base) (o : Operand) → IsTrue (is_access first byte len b o) → 1 ≤ len
some_byte first byte len b o h =
    is_least 1 len (first_of _ _ (last_of (nat_lt byte 4) _ (last_of (is_low_base b && is_low_operand o) _ h)))

pub below : (first byte len : ℕ) (b : Base) (o : Operand) → IsTrue (is_access first byte len b o) → 4 * first + byte + len ≤ 120
below first byte len b o h =
    is_least _ 120 (last_of (nat_le 1 len) _ (last_of (nat_lt byte 4) _ (last_of (is_low_base b && is_low_operand o) _ h)))

pub low_base : (first byte len : ℕ) (b : Base) (o : Operand) → IsTrue (is_access first byte len b o) → IsTrue (is_low_base b)
low_base first byte len b o h = first_of _ _ (first_of (is_low_base b && is_low_operand o) _ h)

pub low_offset : (first byte len : ℕ) (b : Base) (o : Operand) → IsTrue (is_access first byte len b o) → IsTrue (is_low_operand o)
low_offset first byte len b o h = last_of (is_low_base b) _ (first_of (is_low_base b && is_low_operand o) _ h)

unfoldable pub access_at : ℕ → ℕ → ℕ → Base → Operand → Option Access
access_at first byte len b o = where_true (is_access first byte len b o) (λ h. Some (record {
  first = first;
  byte = byte;
  len = len;
  base = b;
  offset = o;
  in_register = byte_in first byte len b o h;
  some_byte = some_byte first byte len b o h;
  below = below first byte len b o h;
  low_base = low_base first byte len b o h;
  low_offset = low_offset first byte len b o h;
}))

unfoldable pub access_of : Word → Base → Word → Word → Option Access
access_of (word.Field first part) b offset len = do
  byte ← byte_of part
  o ← value_of offset
  len ← number_of 120 len
  if nat_le first 29 then access_at first byte len b o else None
access_of _ b offset len = None

-- ---- instructions

unfoldable pub register_base : Word → Option Base
register_base w = register_of w >>= λ n. Some (base.Reg n)

-- the least offset of a branch
unfoldable pub least_offset : BranchOffset
least_offset = offset_at 512

unfoldable pub made : Mnemonic → Operands → Option Inst
made (Alu op) (Three d a b) = field_of d >>= λ d. field_of a >>= λ a. value_of b >>= λ b. Some (inst.Alu op d a b)
made Not (Two d a) = field_of d >>= λ d. field_of a >>= λ a. Some (inst.Not d a)
made Jmp (One to) = jump_of to >>= λ to. Some (inst.Jmp to)
made Jal (Two d to) = field_of d >>= λ d. jump_of to >>= λ to. Some (inst.Jal d to)
made Ldi (Two d n) = field_of d >>= λ d. number_of 65535 n >>= λ n. Some (inst.Ldi d n)
made Lmbd (Three d a b) = field_of d >>= λ d. field_of a >>= λ a. value_of b >>= λ b. Some (inst.Lmbd d a b)
made Halt Nothing = Some inst.Halt
made Xin (Three device first count) = transfer_of device first count >>= λ moved. Some (inst.Xin moved)
made Xout (Three device first count) = transfer_of device first count >>= λ moved. Some (inst.Xout moved)
made Loop (Two word.Label count) = body_of count >>= λ body. Some (inst.Loop body)
made (Branch condition) (Three word.Label a b) =
    field_of a >>= λ a. value_of b >>= λ b. Some (inst.Branch condition least_offset a b)
made Qba (One word.Label) = Some (inst.Qba least_offset)
made Lbbo (Four first from offset len) = register_base from >>= λ b. access_of first b offset len >>= λ access. Some (inst.Load access)
made Lbco (Four first from offset len) = constant_of from >>= λ b. access_of first b offset len >>= λ access. Some (inst.Load access)
made Sbbo (Four first from offset len) = register_base from >>= λ b. access_of first b offset len >>= λ access. Some (inst.Store access)
made Sbco (Four first from offset len) = constant_of from >>= λ b. access_of first b offset len >>= λ access. Some (inst.Store access)
made _ _ = None
