-- An instruction is made again of what it is written with.
use Rattle.std.proofs.Common.{◌≡◌, ℕ, ◌+◌, ◌-◌, ◌*◌, ◌<◌, ◌≤◌, arith, refl, ap, sym, ◌∙◌, Some, None, cond}
use Rattle.std.specs.Prelude.{IsTrue, option_and_then, ℤ, pos, negsuc}
use Rattle.std.proofs.lemmas.Bool.{le-leb, eqb-true}
use Rattle.std.proofs.lemmas.Bool.Decides.{nat_tests}
use Rattle.isa.specs.declared.access.Access.{Access}
use Rattle.isa.specs.declared.access.Base.{Base}
use Rattle.isa.specs.declared.access.Base.TheVariants as base
use Rattle.isa.specs.declared.access.Constant.{Constant}
use Rattle.isa.specs.declared.access.Constant.TheVariants.{C0, C4, C24, C25, C28}
use Rattle.isa.specs.declared.control.BranchOffset.{BranchOffset}
use Rattle.isa.specs.declared.control.Jump.{Jump}
use Rattle.isa.specs.declared.control.Jump.TheVariants as jump
use Rattle.isa.specs.declared.control.LoopBody.{LoopBody}
use Rattle.isa.specs.declared.field.Field.{Field}
use Rattle.isa.specs.declared.field.Operand.{Operand}
use Rattle.isa.specs.declared.field.Operand.TheVariants as operand
use Rattle.isa.specs.declared.field.Part.TheVariants.{All}
use Rattle.isa.specs.declared.inst.Inst.{Inst}
use Rattle.isa.specs.declared.inst.Inst.TheVariants as inst
use Rattle.isa.specs.declared.transfer.Bank.{Bank}
use Rattle.isa.specs.declared.transfer.Bank.TheVariants.{Bank0, Bank1, Bank2}
use Rattle.isa.specs.declared.transfer.Transfer.{Transfer}
use Rattle.isa.specs.Decoded.{bank_at, constant_at}
use Rattle.isa.specs.Low.{is_low_base}
use Rattle.isa.specs.Program.{is_least, has_target, is_least_offset}
use Rattle.isa.specs.Row.{Fits, OperandFits, constant_number, device_number}
use Rattle.isa.proofs.Ranged.{transfer_found, body_found, same_offset}
use Rattle.asmword.specs.declared.form.Operands.TheVariants.{Four}
use Rattle.asmword.specs.declared.mnemonic.Mnemonic.TheVariants as mnemonic
use Rattle.asmword.specs.declared.form.Word.TheVariants as word
use Rattle.asmword.specs.Forms.{field_word, value_word, jump_word, base_word, base_mnemonic, byte_part, written}
use Rattle.asmword.specs.Instructions.{field_at, field_of, at_most, value_of, jump_of, number_of, register_of, register_base}
use Rattle.asmword.specs.Instructions.{constant_of, byte_of, transfer_of, body_of, access_of, least_offset, made}
use Rattle.asmword.specs.Made.{stands_least}
use Rattle.asmword.proofs.Found.{field_found, access_found}

at_again : (f : Field) → field_at f.reg f.part ≡ Some f
at_again f = sym (field_found f f.reg f.part refl refl)

field_again : (f : Field) → field_of (field_word f) ≡ Some f
unfolding field_of
field_again f = at_again f

most_again : (most n : ℕ) → n ≤ most → at_most most n ≡ Some n
most_again most n h = ap (λ t. cond t (Some n) None) (le-leb n most h)

value_again : (o : Operand) → OperandFits o → value_of (value_word o) ≡ Some o
unfolding value_of
value_again (operand.Field f) h = ap (option_and_then _) (at_again f)
value_again (operand.Imm n) h = ap (option_and_then _) (most_again 255 n (omega (arith, h)))

jump_again : (to : Jump) → IsTrue (stands_least (inst.Jmp to)) → jump_of (jump_word to) ≡ Some to
unfolding jump_of
jump_again (jump.Field f) h = ap (option_and_then _) (at_again f)
jump_again (jump.Word n) h = ap (λ n. Some (jump.Word n)) (sym (eqb-true n 0 h))

number_again : (most n : ℕ) → n ≤ most → number_of most (word.Number n) ≡ Some n
unfolding number_of
number_again most n h = most_again most n h

register_again : (n : ℕ) → n ≤ 29 → register_of (word.Field n All) ≡ Some n
unfolding register_of
register_again n h = most_again 29 n h

device_again : (b : Bank) → device_number b ≤ 12
device_again Bank0 = omega arith
device_again Bank1 = omega arith
device_again Bank2 = omega arith

bank_again : (b : Bank) → bank_at (device_number b) ≡ Some b
bank_again Bank0 = refl
bank_again Bank1 = refl
bank_again Bank2 = refl

transfer_again : (t : Transfer) → transfer_of (word.Number (device_number t.bank)) (word.Field t.first All) (word.Number t.count) ≡ Some t
unfolding transfer_of
transfer_again t =
    let count : t.count ≤ 4 = t.at_most in
    let some : 1 ≤ t.count = t.some_register in
    let below : t.first + t.count ≤ 30 = t.below in
    rw (number_again 12 (device_number t.bank) (device_again t.bank), register_again t.first (omega arith), number_again 4 t.count count)
    (sym (transfer_found t (device_number t.bank) t.first t.count (bank_again t.bank) refl refl))

body_again : (b : LoopBody) → b.length ≡ 1 → body_of (word.Number b.count) ≡ Some b
unfolding body_of
body_again b e =
    let once : 1 ≤ b.count = b.once in
    let most : b.count ≤ 256 = b.at_most in
    rw (number_again 256 b.count most, le-leb 1 b.count once) (sym (body_found b (b.count - 1) 1 (omega arith) e))

constant_again : (c : Constant) → constant_at (constant_number c) ≡ Some c
constant_again C0 = refl
constant_again C4 = refl
constant_again C24 = refl
constant_again C25 = refl
constant_again C28 = refl

byte_again : (n : ℕ) → n < 4 → byte_of (byte_part n) ≡ Some n
unfolding byte_of
byte_again n h = grind (arith, nat_tests)

access_again : (a : Access) → OperandFits a.offset
    → access_of (word.Field a.first (byte_part a.byte)) a.base (value_word a.offset) (word.Number a.len) ≡ Some a
unfolding access_of
access_again a fits =
    let some : 1 ≤ a.len = a.some_byte in
    let below : 4 * a.first + a.byte + a.len ≤ 120 = a.below in
    rw (
      byte_again a.byte a.in_register,
      value_again a.offset fits,
      number_again 120 a.len (omega arith),
      le-leb a.first 29 (omega arith),
    ) (sym (access_found a a.first a.byte a.len a.base a.offset refl refl refl refl refl))

least_again : (o : BranchOffset) → IsTrue (is_least_offset o) → least_offset ≡ o
unfolding least_offset
least_again o h = same_offset _ o (by o.words h)
  where
    by : (z : ℤ) → IsTrue (Rattle.isa.specs.Program.is_least_number z) → negsuc 511 ≡ z
    by (pos n) h = absurd (cc)
    by (negsuc n) h = ap negsuc (sym (eqb-true n 511 h))

-- the base of an access, and the access with it
base_again : (n : ℕ) → IsTrue (is_low_base (base.Reg n)) → register_base (word.Field n All) ≡ Some (base.Reg n)
unfolding register_base
base_again n h = let below : n ≤ 29 = grind (arith, nat_tests) in ap (option_and_then _) (register_again n below)

named_again : (c : Constant) → constant_of (word.Constant (constant_number c)) ≡ Some (base.Constant c)
unfolding constant_of
named_again c = ap (option_and_then _) (constant_again c)

based_again : (a : Access) (b : Base) → OperandFits a.offset → b ≡ a.base
    → access_of (word.Field a.first (byte_part a.byte)) b (value_word a.offset) (word.Number a.len) ≡ Some a
based_again a b fits e =
    ap (λ b. access_of (word.Field a.first (byte_part a.byte)) b (value_word a.offset) (word.Number a.len)) e ∙ access_again a fits

load_again : (a : Access) (b : Base) → OperandFits a.offset → b ≡ a.base → IsTrue (is_low_base b)
    → made (base_mnemonic mnemonic.Lbbo mnemonic.Lbco b)
    (Four (word.Field a.first (byte_part a.byte)) (base_word b) (value_word a.offset) (word.Number a.len)) ≡ Some (inst.Load a)
unfolding made
load_again a (base.Reg n) fits e low = rw (base_again n low, based_again a (base.Reg n) fits e)
load_again a (base.Constant c) fits e low = rw (named_again c, based_again a (base.Constant c) fits e)

store_again : (a : Access) (b : Base) → OperandFits a.offset → b ≡ a.base → IsTrue (is_low_base b)
    → made (base_mnemonic mnemonic.Sbbo mnemonic.Sbco b)
    (Four (word.Field a.first (byte_part a.byte)) (base_word b) (value_word a.offset) (word.Number a.len)) ≡ Some (inst.Store a)
unfolding made
store_again a (base.Reg n) fits e low = rw (base_again n low, based_again a (base.Reg n) fits e)
store_again a (base.Constant c) fits e low = rw (named_again c, based_again a (base.Constant c) fits e)

pub made_again : (i : Inst) → Fits i → IsTrue (stands_least i) → made (written i).mnemonic (written i).operands ≡ Some i
unfolding made
made_again (inst.Alu op d a b) fits least = rw (field_again d, field_again a, value_again b fits)
made_again (inst.Not d a) fits least = rw (field_again d, field_again a)
made_again (inst.Jmp to) fits least = rw (jump_again to least)
made_again (inst.Jal d (jump.Field f)) fits least = rw (field_again d, jump_again (jump.Field f) refl)
made_again (inst.Jal d (jump.Word n)) fits least = rw (field_again d, jump_again (jump.Word n) least)
made_again (inst.Ldi d n) fits least = rw (field_again d, number_again 65535 n (omega (arith, fits)))
made_again (inst.Lmbd d a b) fits least = rw (field_again d, field_again a, value_again b fits)
made_again inst.Halt fits least = refl
made_again (inst.Xin t) fits least = rw (transfer_again t)
made_again (inst.Xout t) fits least = rw (transfer_again t)
made_again (inst.Loop body) fits least = rw (body_again body (eqb-true body.length 1 least))
made_again (inst.Branch c o a b) fits least = rw (field_again a, value_again b fits, least_again o least)
made_again (inst.Qba o) fits least = rw (least_again o least)
made_again (inst.Load access) fits least = load_again access access.base fits refl access.low_base
made_again (inst.Store access) fits least = store_again access access.base fits refl access.low_base
