-- The instruction that has a word: the word table, read from the word. The table decides; that this undoes it is proved.
use Rattle.std.specs.Prelude.{◌≡◌, ◌≢◌, ℕ, ◌+◌, ◌*◌, ◌/◌, ◌%◌, ◌^◌, ◌==◌, ◌&&◌, ◌||◌, Bool, true, false, IsTrue, nat_lt, nat_le}
use Rattle.std.specs.Prelude.{if◌then◌else◌, refl, Option, Some, None, option_and_then, unwrap_or, find, [], ◌∷◌}
use Rattle.isa.specs.declared.access.Access.{Access}
use Rattle.isa.specs.declared.access.Base.{Base}
use Rattle.isa.specs.declared.access.Base.TheVariants as base
use Rattle.isa.specs.declared.access.Constant.{Constant}
use Rattle.isa.specs.declared.access.Constant.TheVariants.{C0, C4, C24, C25, C28}
use Rattle.isa.specs.declared.control.BranchOffset.{BranchOffset}
use Rattle.isa.specs.declared.control.Condition.{Condition}
use Rattle.isa.specs.declared.control.Condition.TheVariants.{Lt, Eq, Le, Gt, Ne, Ge, BitClear, BitSet}
use Rattle.isa.specs.declared.control.Jump.{Jump}
use Rattle.isa.specs.declared.control.Jump.TheVariants as jump
use Rattle.isa.specs.declared.control.LoopBody.{LoopBody}
use Rattle.isa.specs.declared.field.Part.{Part}
use Rattle.isa.specs.declared.field.Part.TheVariants.{B0, B1, B2, B3, W0, W1, W2, All}
use Rattle.isa.specs.declared.field.Field.{Field}
use Rattle.isa.specs.declared.field.Operand.{Operand}
use Rattle.isa.specs.declared.field.Operand.TheVariants as operand
use Rattle.isa.specs.declared.inst.AluOp.{AluOp}
use Rattle.isa.specs.declared.inst.AluOp.TheVariants.{Add, Sub, Lsl, Lsr, Rsb, And, Or, Xor, Min, Max, Clr, Set}
use Rattle.isa.specs.declared.inst.Inst.{Inst}
use Rattle.isa.specs.declared.inst.Inst.TheVariants.{Alu, Not, Jmp, Jal, Ldi, Lmbd, Halt, Xin, Xout, Loop, Branch, Qba, Load, Store}
use Rattle.isa.specs.declared.row.Row.{Row}
use Rattle.isa.specs.declared.transfer.Bank.{Bank}
use Rattle.isa.specs.declared.transfer.Bank.TheVariants.{Bank0, Bank1, Bank2}
use Rattle.isa.specs.declared.transfer.Transfer.{Transfer}
use Rattle.isa.specs.Low.{is_low_base, is_low_operand}
use Rattle.isa.specs.Ranges
use Rattle.isa.specs.Row.{part_number, op_number, condition_number, device_number, constant_number, field_code}

-- ---- what the numbers stand for

abbrev pub part_at : ℕ → Part
part_at k = unwrap_or (find (λ p. k == part_number p) (B0 ∷ B1 ∷ B2 ∷ B3 ∷ W0 ∷ W1 ∷ W2 ∷ [])) All

abbrev pub op_at : ℕ → Option AluOp
op_at k = find (λ op. k == op_number op) (Add ∷ Sub ∷ Lsl ∷ Lsr ∷ Rsb ∷ And ∷ Or ∷ Xor ∷ Min ∷ Max ∷ Clr ∷ Set ∷ [])

abbrev pub condition_at : ℕ → Option Condition
condition_at k = find (λ c. k == condition_number c) (Lt ∷ Eq ∷ Le ∷ Gt ∷ Ne ∷ Ge ∷ BitClear ∷ BitSet ∷ [])

abbrev pub bank_at : ℕ → Option Bank
bank_at k = find (λ b. k == device_number b) (Bank0 ∷ Bank1 ∷ Bank2 ∷ [])

abbrev pub constant_at : ℕ → Option Constant
constant_at k = find (λ c. k == constant_number c) (C0 ∷ C4 ∷ C24 ∷ C25 ∷ C28 ∷ [])

-- ---- operands

abbrev pub field_at : ℕ → Field
field_at c = record { reg = c % 32; part = part_at (c / 32); in_range = Ranges.register c }

abbrev pub operand_at : ℕ → ℕ → Operand
operand_at io c = if io == 0 then operand.Field (field_at c) else operand.Imm c

-- ten bits as two's complement
abbrev pub offset_at : ℕ → BranchOffset
offset_at bits = record { words = Ranges.signed bits; least = Ranges.signed_least bits; greatest = Ranges.signed_greatest bits }

-- f of a proof that the test passes, where it does
abbrev pub where_true : {X : Type 0} (b : Bool) → (IsTrue b → Option X) → Option X
where_true true f = f refl
where_true false f = None

-- a length of 1 to 255, and a count that is one more than is written
abbrev pub body_at : ℕ → ℕ → Option LoopBody
body_at count length =
    where_true (nat_lt 0 length && nat_le length 255) (λ h. Some (record {
      count = count % 256 + 1;
      length = length;
      once = Ranges.count_least count;
      at_most = Ranges.count_greatest count;
      some_word = Ranges.length_least length h;
      short = Ranges.length_greatest length h;
    }))

abbrev pub transfer_at : ℕ → ℕ → ℕ → Option Transfer
transfer_at device first count =
    option_and_then (λ bank. where_true (Ranges.is_transfer first count) (λ h. Some (record {
      bank = bank;
      first = first;
      count = count;
      some_register = Ranges.transfer_least first count h;
      at_most = Ranges.transfer_greatest first count h;
      below = Ranges.transfer_below first count h;
    }))) (bank_at device)

abbrev pub base_at : Bool → ℕ → Option Base
base_at true k = option_and_then (λ c. Some (base.Constant c)) (constant_at k)
base_at false k = Some (base.Reg k)

-- the length of an access less 1, out of its three places
abbrev pub length_bits : Row → ℕ
length_bits r = 64 * (r.top / 8 % 2) + 8 * (r.second / 32 % 8) + r.low / 32 % 8

unfoldable pub access_from : Row → Base → Operand → Option Access
access_from r b o =
    where_true (is_low_base b && is_low_operand o && nat_le (4 * (r.low % 32) + r.top / 2 % 4 + (length_bits r + 1)) 120)
    (λ h. Some (record {
      first = r.low % 32;
      byte = r.top / 2 % 4;
      len = length_bits r + 1;
      base = b;
      offset = o;
      in_register = Ranges.byte_in (r.top / 2);
      some_byte = Ranges.one_more (length_bits r);
      below = Ranges.below_of _ _ h;
      low_base = Ranges.first_of _ _ (Ranges.first_of _ _ h);
      low_offset = Ranges.last_of _ _ (Ranges.first_of _ _ h);
    }))

-- the access of a memory word; `constant` tells whether its base is one
abbrev pub access_at : Bool → Row → Option Access
access_at constant r = option_and_then (λ b. access_from r b (operand_at (r.top % 2) r.third)) (base_at constant (r.second % 32))

-- ---- instructions, format by format

unfoldable pub alu_at : Row → Option Inst
alu_at r =
    if r.top == 0x16 then (if r.third == 0 then Some (Not (field_at r.low) (field_at r.second)) else None)
    else option_and_then (λ op. Some (Alu op (field_at r.low) (field_at r.second) (operand_at (r.top % 2) r.third))) (op_at (r.top / 2))

-- a jump's target, where io is bit 24: a field, or a number
abbrev pub target_at : ℕ → Row → Option Jump
target_at io r =
    if io == 0 then (if r.second == 0 then Some (jump.Field (field_at r.third)) else None)
    else Some (jump.Word (r.third * 256 + r.second))

-- the bytes are those of a jump to the target, where `bit` is bit 24
abbrev pub IsTarget : ℕ → Jump → Row → Type 0
IsTarget bit (jump.Field f) r = (bit ≡ 0) × (field_code f ≡ r.third) × (0 ≡ r.second)
IsTarget bit (jump.Word n) r = (bit ≢ 0) × (n / 256 ≡ r.third) × (n % 256 ≡ r.second)

unfoldable pub jump_at : Row → Option Inst
jump_at r =
    option_and_then (λ to. if r.top / 2 == 0x11 then Some (Jal (field_at r.low) to) else if r.low == 0 then Some (Jmp to) else None)
    (target_at (r.top % 2) r)

unfoldable pub single_at : Row → Option Inst
single_at r =
    if r.top == 0x24 then Some (Ldi (field_at r.low) (r.third * 256 + r.second))
    else if r.top / 2 == 0x13 then Some (Lmbd (field_at r.low) (field_at r.second) (operand_at (r.top % 2) r.third))
    else if r.top == 0x2A then (if (r.third == 0) && (r.second == 0) && (r.low == 0) then Some Halt else None)
    else if r.top == 0x2E then option_and_then (λ t. Some (Xin t)) (transfer_at r.third r.second r.low)
    else if r.top == 0x2F then option_and_then (λ t. Some (Xout t)) (transfer_at r.third r.second r.low)
    else if r.top == 0x31 then (if r.low == 0 then option_and_then (λ b. Some (Loop b)) (body_at r.third r.second) else None)
    else None

unfoldable pub branch_at : Row → Option Inst
branch_at r =
    let offset = offset_at (256 * (r.top / 2 % 4) + r.low) in
    if r.top / 8 == 0b01111 then
    (if (r.top % 2 == 1) && (r.third == 0) && (r.second == 0) then Some (Qba offset) else None)
    else option_and_then (λ c. Some (Branch c offset (field_at r.second) (operand_at (r.top % 2) r.third))) (condition_at (r.top / 8))

unfoldable pub memory_at : Row → Option Inst
memory_at r =
    if r.top / 16 == 8 then option_and_then (λ a. Some (Store a)) (access_at true r)
    else if r.top / 16 == 9 then option_and_then (λ a. Some (Load a)) (access_at true r)
    else if r.top / 16 == 14 then option_and_then (λ a. Some (Store a)) (access_at false r)
    else if r.top / 16 == 15 then option_and_then (λ a. Some (Load a)) (access_at false r)
    else None

unfoldable pub inst_at : Row → Option Inst
inst_at r =
    if nat_lt r.top 0x20 then alu_at r
    else if nat_lt r.top 0x24 then jump_at r
    else if nat_lt r.top 0x40 then single_at r
    else if (nat_lt r.top 0x80) || ((nat_le 0xC0 r.top) && nat_lt r.top 0xE0) then branch_at r
    else memory_at r

-- ---- words

-- the bytes of a word, where the highest takes all that is left
abbrev pub split : ℕ → Row
split w = record { top = w / 2 ^ 24; third = w / 2 ^ 16 % 256; second = w / 2 ^ 8 % 256; low = w % 256 }

-- the instruction that has this word
unfoldable pub decoded : ℕ → Option Inst
decoded w = inst_at (split w)
