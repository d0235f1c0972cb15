-- Format by format: the row of an instruction is read as that instruction.
use Rattle.std.proofs.Common.{◌≡◌, ℕ, ◌+◌, ◌-◌, ◌*◌, ◌/◌, ◌%◌, ◌<◌, ◌≤◌, arith, refl, ap, sym, subst, ◌∙◌, Bool, true, false, Some, ◌≢◌}
use Rattle.std.specs.Prelude.{IsTrue, option_and_then, ◌==◌}
use Rattle.std.proofs.lemmas.Bool.Decides.{nat_tests}
use Rattle.isa.specs.declared.access.Access.{Access}
use Rattle.isa.specs.declared.access.Base.{Base}
use Rattle.isa.specs.declared.access.Base.TheVariants as base
use Rattle.isa.specs.declared.access.Constant.{Constant}
use Rattle.isa.specs.declared.control.BranchOffset.{BranchOffset}
use Rattle.isa.specs.declared.control.Condition.{Condition}
use Rattle.isa.specs.declared.control.Jump.{Jump}
use Rattle.isa.specs.declared.control.Jump.TheVariants as jump
use Rattle.isa.specs.declared.control.LoopBody.{LoopBody}
use Rattle.isa.specs.declared.field.Field.{Field}
use Rattle.isa.specs.declared.field.Operand.{Operand}
use Rattle.isa.specs.declared.field.Operand.TheVariants as operand
use Rattle.isa.specs.declared.inst.AluOp.{AluOp}
use Rattle.isa.specs.declared.inst.Inst.TheVariants.{Alu, Not, Jmp, Jal, Ldi, Lmbd, Halt, Xin, Xout, Loop, Branch, Qba, Load, Store}
use Rattle.isa.specs.declared.row.Row.{Row}
use Rattle.isa.specs.declared.transfer.Transfer.{Transfer}
use Rattle.isa.specs.Low.{is_low_base}
use Rattle.isa.specs.Row.{op_number, condition_number, device_number, field_code, io, operand_code}
use Rattle.isa.specs.Row.{offset_bits, store_number, load_number, base_number, access_row, row}
use Rattle.isa.specs.Decoded.{operand_at, offset_at, base_at, access_from, access_at, alu_at, jump_at, single_at, branch_at, memory_at}
use Rattle.isa.proofs.Ranged.{transfer_found, body_found, access_found}
use Rattle.isa.proofs.Operands.{op_number-is, op_at-op_number, condition_number-is, condition_at-condition_number}
use Rattle.isa.proofs.Operands.{bank_at-device_number, constant_at-constant_number, constant_number-lt, field_at-field_code}
use Rattle.isa.proofs.Operands.{operand_at-operand_code, io-lt, offset_bits-lt, offset_at-offset_bits}

-- ---- formats

pub alu_found : (r : Row) (op : AluOp) (d a : Field) (b : Operand) → r.top ≡ 2 * op_number op + io b → r.third ≡ operand_code b
    → r.second ≡ field_code a → r.low ≡ field_code d → alu_at r ≡ Some (Alu op d a b)
unfolding alu_at
alu_found r op d a b p q s t =
    let n = op_number-is op in
    let l = io-lt b in
    let e : (r.top == 0x16) ≡ false = grind (arith, nat_tests, n.below, n.other, l) in
    let half : r.top / 2 ≡ op_number op = omega (arith, l) in
    let bit : r.top % 2 ≡ io b = omega (arith, l) in
    rw (e, half, op_at-op_number op, bit, q, s, t, operand_at-operand_code b, field_at-field_code a, field_at-field_code d)

pub not_found : (d a : Field) → alu_at (row (Not d a)) ≡ Some (Not d a)
unfolding alu_at
not_found d a = rw (field_at-field_code a, field_at-field_code d)

number_again : (n : ℕ) → n / 256 * 256 + n % 256 ≡ n
number_again n = omega arith

pub jmp_found : (to : Jump) → jump_at (row (Jmp to)) ≡ Some (Jmp to)
unfolding jump_at
jmp_found (jump.Field f) = ap (λ x. Some (Jmp (jump.Field x))) (field_at-field_code f)
jmp_found (jump.Word n) = ap (λ x. Some (Jmp (jump.Word x))) (number_again n)

pub jal_found : (d : Field) (to : Jump) → jump_at (row (Jal d to)) ≡ Some (Jal d to)
unfolding jump_at
jal_found d (jump.Field f) = rw (field_at-field_code d, field_at-field_code f)
jal_found d (jump.Word n) = rw (field_at-field_code d, number_again n)

pub ldi_found : (d : Field) (n : ℕ) → single_at (row (Ldi d n)) ≡ Some (Ldi d n)
unfolding single_at
ldi_found d n = rw (field_at-field_code d, number_again n)

pub lmbd_found : (d a : Field) (b : Operand) → single_at (row (Lmbd d a b)) ≡ Some (Lmbd d a b)
unfolding single_at
lmbd_found d a (operand.Field f) = rw (field_at-field_code d, field_at-field_code a, field_at-field_code f)
lmbd_found d a (operand.Imm n) = rw (field_at-field_code d, field_at-field_code a)

pub halt_found : single_at (row Halt) ≡ Some Halt
unfolding single_at
halt_found = refl

pub xin_found : (t : Transfer) → single_at (row (Xin t)) ≡ Some (Xin t)
unfolding single_at
xin_found t = sym (ap (option_and_then (λ t. Some (Xin t))) (transfer_found t (device_number t.bank) t.first t.count
    (bank_at-device_number t.bank) refl refl))

pub xout_found : (t : Transfer) → single_at (row (Xout t)) ≡ Some (Xout t)
unfolding single_at
xout_found t = sym (ap (option_and_then (λ t. Some (Xout t)))
    (transfer_found t (device_number t.bank) t.first t.count (bank_at-device_number t.bank) refl refl))

pub loop_found : (b : LoopBody) → single_at (row (Loop b)) ≡ Some (Loop b)
unfolding single_at
loop_found b =
    let lower : 1 ≤ b.count = b.once in
    let upper : b.count ≤ 256 = b.at_most in
    sym (ap (option_and_then (λ b. Some (Loop b))) (body_found b (b.count - 1) b.length (omega arith) refl))

qba_bits : (n : ℕ) (o : BranchOffset) → n < 1024 → offset_at n ≡ o
    → branch_at (record { top = 8 * 0b01111 + 2 * (n / 256) + 1; third = 0; second = 0; low = n % 256 }) ≡ Some (Qba o)
unfolding branch_at
qba_bits n o l h =
    let number : (8 * 0b01111 + 2 * (n / 256) + 1) / 8 ≡ 0b01111 = omega arith in
    let bit : (8 * 0b01111 + 2 * (n / 256) + 1) % 2 ≡ 1 = omega arith in
    let bits : 256 * ((8 * 0b01111 + 2 * (n / 256) + 1) / 2 % 4) + n % 256 ≡ n = omega arith in
    rw (number, bit, bits, h)

pub qba_found : (o : BranchOffset) → branch_at (row (Qba o)) ≡ Some (Qba o)
qba_found o = qba_bits (offset_bits o) o (offset_bits-lt o) (offset_at-offset_bits o)

pub branch_found : (r : Row) (c : Condition) (o : BranchOffset) (a : Field) (b : Operand)
    → r.top ≡ 8 * condition_number c + 2 * (offset_bits o / 256) + io b → r.third ≡ operand_code b → r.second ≡ field_code a
    → r.low ≡ offset_bits o % 256 → branch_at r ≡ Some (Branch c o a b)
unfolding branch_at
branch_found r c o a b p q s t =
    let l : offset_bits o < 1024 = offset_bits-lt o in
    let i : io b < 2 = io-lt b in
    let n : condition_number c ≢ 15 = (condition_number-is c).other in
    let number : r.top / 8 ≡ condition_number c = omega arith in
    let e : (condition_number c == 15) ≡ false = grind (arith, nat_tests, n) in
    let bit : r.top % 2 ≡ io b = omega arith in
    let bits : 256 * (r.top / 2 % 4) + r.low ≡ offset_bits o = omega arith in
    rw (
      number,
      e,
      condition_at-condition_number c,
      bits,
      offset_at-offset_bits o,
      bit,
      q,
      s,
      operand_at-operand_code b,
      field_at-field_code a,
    )

-- the places of the numbers in the bytes of a memory word
pub record IsTop (top n h y i : ℕ) : Type 0 where
  pub number : top / 16 ≡ n
  pub high : top / 8 % 2 ≡ h
  pub byte : top / 2 % 4 ≡ y
  pub io : top % 2 ≡ i

top_is : (n h y i : ℕ) → h < 2 → y < 4 → i < 2 → IsTop (16 * n + 8 * h + 2 * y + i) n h y i
top_is n h y i p q s = record { number = omega arith; high = omega arith; byte = omega arith; io = omega arith }

cut_again : (k : ℕ) → k < 128 → 64 * (k / 64) + 8 * (k / 8 % 8) + k % 8 ≡ k
cut_again k h = omega arith

two_parts : (a b : ℕ) → b < 32 → ((32 * a + b) / 32 ≡ a) × ((32 * a + b) % 32 ≡ b)
two_parts a b h = (omega arith, omega arith)

pub base_number-lt : (b : Base) → IsTrue (is_low_base b) → base_number b < 32
base_number-lt (base.Constant c) h = constant_number-lt c
base_number-lt (base.Reg n) h = grind (arith, nat_tests)

pub top_of : (number : ℕ) (a : Access) → IsTop (access_row number a).top number ((a.len - 1) / 64) a.byte (io a.offset)
top_of number a =
    let byte : a.byte < 4 = a.in_register in
    let below : 4 * a.first + a.byte + a.len ≤ 120 = a.below in
    top_is number ((a.len - 1) / 64) a.byte (io a.offset) (omega arith) byte (io-lt a.offset)

-- a memory word has the access that it was made of
access_again : (number : ℕ) (a : Access) → Some a ≡ access_from (access_row number a) a.base a.offset
access_again number a =
    let k : ℕ = a.len - 1 in
    let some : 1 ≤ a.len = a.some_byte in
    let below : 4 * a.first + a.byte + a.len ≤ 120 = a.below in
    let t = top_of number a in
    let s = two_parts (k / 8 % 8) (base_number a.base) (base_number-lt a.base a.low_base) in
    let l = two_parts (k % 8) a.first (omega arith) in
    let e = cut_again k (omega arith) in
    access_found a (access_row number a) (sym l.1) (sym t.byte) (omega (arith, e, t.high, s.0, l.0))

access_place : (number : ℕ) (a : Access) (constant : Bool) → base_at constant (base_number a.base) ≡ Some a.base
    → Some a ≡ access_at constant (access_row number a)
access_place number a constant h =
    let r : Row = access_row number a in
    let s = two_parts ((a.len - 1) / 8 % 8) (base_number a.base) (base_number-lt a.base a.low_base) in
    let at_base : base_at constant (r.second % 32) ≡ Some a.base = ap (base_at constant) s.1 ∙ h in
    let at_offset : operand_at (r.top % 2) r.third ≡ a.offset =
    ap (λ i. operand_at i (operand_code a.offset)) (top_of number a).io ∙ operand_at-operand_code a.offset in
    access_again number a ∙ ap (access_from r a.base) (sym at_offset)
    ∙ ap (option_and_then (λ b. access_from r b (operand_at (r.top % 2) r.third))) (sym at_base)

sbco_found : (r : Row) (a : Access) → r.top / 16 ≡ 8 → Some a ≡ access_at true r → memory_at r ≡ Some (Store a)
unfolding memory_at
sbco_found r a e h = rw e (sym (ap (option_and_then (λ a. Some (Store a))) h))

lbco_found : (r : Row) (a : Access) → r.top / 16 ≡ 9 → Some a ≡ access_at true r → memory_at r ≡ Some (Load a)
unfolding memory_at
lbco_found r a e h = rw e (sym (ap (option_and_then (λ a. Some (Load a))) h))

sbbo_found : (r : Row) (a : Access) → r.top / 16 ≡ 14 → Some a ≡ access_at false r → memory_at r ≡ Some (Store a)
unfolding memory_at
sbbo_found r a e h = rw e (sym (ap (option_and_then (λ a. Some (Store a))) h))

lbbo_found : (r : Row) (a : Access) → r.top / 16 ≡ 15 → Some a ≡ access_at false r → memory_at r ≡ Some (Load a)
unfolding memory_at
lbbo_found r a e h = rw e (sym (ap (option_and_then (λ a. Some (Load a))) h))

constant_place : (c : Constant) (b : Base) → b ≡ base.Constant c → base_at true (base_number b) ≡ Some b
constant_place c b e = subst (λ b. base_at true (base_number b) ≡ Some b) (sym e)
    (ap (option_and_then (λ c. Some (base.Constant c))) (constant_at-constant_number c))

register_place : (n : ℕ) (b : Base) → b ≡ base.Reg n → base_at false (base_number b) ≡ Some b
register_place n b e = subst (λ b. base_at false (base_number b) ≡ Some b) (sym e) refl

pub load_found : (a : Access) (b : Base) → a.base ≡ b → memory_at (row (Load a)) ≡ Some (Load a)
load_found a (base.Constant c) e = lbco_found _ a ((top_of (load_number a.base) a).number ∙ ap load_number e)
    (access_place (load_number a.base) a true (constant_place c a.base e))
load_found a (base.Reg n) e = lbbo_found _ a ((top_of (load_number a.base) a).number ∙ ap load_number e)
    (access_place (load_number a.base) a false (register_place n a.base e))

pub store_found : (a : Access) (b : Base) → a.base ≡ b → memory_at (row (Store a)) ≡ Some (Store a)
store_found a (base.Constant c) e = sbco_found _ a ((top_of (store_number a.base) a).number ∙ ap store_number e)
    (access_place (store_number a.base) a true (constant_place c a.base e))
store_found a (base.Reg n) e = sbbo_found _ a ((top_of (store_number a.base) a).number ∙ ap store_number e)
    (access_place (store_number a.base) a false (register_place n a.base e))
