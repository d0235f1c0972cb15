-- What operations cost at most.
use Rattle.std.proofs.Common.{◌≡◌, ℕ, ◌+◌, ◌*◌, ◌≤◌, true, false, List, length, refl, arith, IsTrue, length-take, nat_le, lit≤}
use Rattle.std.specs.List.{list_all}
use Rattle.std.proofs.lemmas.Bool.{and_parts, leb-true}
use Rattle.prunum.specs.declared.width.Width.{Width}
use Rattle.midcode.specs.declared.op.BinaryOp.TheVariants as binary
use Rattle.midcode.specs.declared.op.OpKind.{OpKind}
use Rattle.midcode.specs.declared.op.OpKind.TheVariants as op
use Rattle.midcode.specs.declared.register.Registers.{Registers}
use Rattle.midcode.specs.declared.signature.Signature.{Signature}
use Rattle.midcode.specs.Operation.{is_delay, listed, parameters}
use Rattle.midcode.specs.Function.{fits}
use Rattle.midcode.specs.Cost.{charge, zeroings, entry_size}
use Rattle.midcode.proofs.Valid.{parts-of}
use Rattle.midcode.specs.Weight.{constructs, is_light, is_quick}

few_listed : (r : Registers) → length (listed r) ≤ 8
few_listed r = omega (arith, length-take r.count r.registers, r.few)

few_zeroings : (n : ℕ) → n ≤ 256 → zeroings n ≤ 16
few_zeroings n few = omega (arith, few)

pub charge_few : (registers : List Width) (labels : ℕ) (k : OpKind) → fits registers labels k ≡ true → is_delay k ≡ false → charge k ≤ 512
charge_few registers labels (op.Constant to n) h d = lit≤ tt
charge_few registers labels (op.Address to object offset) h d = lit≤ tt
charge_few registers labels (op.Copy to from) h d = lit≤ tt
charge_few registers labels (op.Unary o to from) h d = lit≤ tt
charge_few registers labels (op.Binary binary.Add to left right) h d = lit≤ tt
charge_few registers labels (op.Binary binary.Subtract to left right) h d = lit≤ tt
charge_few registers labels (op.Binary binary.And to left right) h d = lit≤ tt
charge_few registers labels (op.Binary binary.Or to left right) h d = lit≤ tt
charge_few registers labels (op.Binary binary.Xor to left right) h d = lit≤ tt
charge_few registers labels (op.Binary binary.ShiftLeft to left right) h d = lit≤ tt
charge_few registers labels (op.Binary binary.ShiftRight to left right) h d = lit≤ tt
charge_few registers labels (op.Binary binary.ShiftRightSigned to left right) h d = lit≤ tt
charge_few registers labels (op.Binary binary.Multiply to left right) h d = lit≤ tt
charge_few registers labels (op.Binary binary.Quotient to left right) h d = lit≤ tt
charge_few registers labels (op.Binary binary.QuotientSigned to left right) h d = lit≤ tt
charge_few registers labels (op.Binary binary.Remainder to left right) h d = lit≤ tt
charge_few registers labels (op.Binary binary.RemainderSigned to left right) h d = lit≤ tt
charge_few registers labels (op.Binary binary.Equal to left right) h d = lit≤ tt
charge_few registers labels (op.Binary binary.NotEqual to left right) h d = lit≤ tt
charge_few registers labels (op.Binary binary.Less to left right) h d = lit≤ tt
charge_few registers labels (op.Binary binary.LessSigned to left right) h d = lit≤ tt
charge_few registers labels (op.Binary binary.LessOrEqual to left right) h d = lit≤ tt
charge_few registers labels (op.Binary binary.LessOrEqualSigned to left right) h d = lit≤ tt
charge_few registers labels (op.Binary binary.LeftmostBit to left right) h d = lit≤ tt
charge_few registers labels (op.Widen to from) h d = lit≤ tt
charge_few registers labels (op.Load to b offset) h d = lit≤ tt
charge_few registers labels (op.Store b offset from width) h d = lit≤ tt
charge_few registers labels (op.Zero object offset bytes) h d =
    let sized = (parts-of registers labels (op.Zero object offset bytes) h).sized in
    let most = leb-true bytes 256 (and_parts (nat_le 1 bytes) (nat_le bytes 256) sized).1 in
    omega (arith, few_zeroings bytes most)
charge_few registers labels (op.Read to b offset own) h d = lit≤ tt
charge_few registers labels (op.Write b offset from width own) h d = lit≤ tt
charge_few registers labels (op.ReadRegister to register) h d = lit≤ tt
charge_few registers labels (op.WriteRegister register from) h d = lit≤ tt
charge_few registers labels (op.ReadPad to bank register) h d = lit≤ tt
charge_few registers labels (op.WritePad bank register from) h d = lit≤ tt
charge_few registers labels (op.Call function arguments to) h d = omega (arith, few_listed arguments)
charge_few registers labels (op.Return value) h d = lit≤ tt
charge_few registers labels (op.Label l) h d = lit≤ tt
charge_few registers labels (op.Jump l) h d = lit≤ tt
charge_few registers labels (op.Branch left test right to turns) h d = lit≤ tt
charge_few registers labels (op.Mark m) h d = lit≤ tt
charge_few registers labels (op.Delay n) h d = cc
charge_few registers labels op.Halt h d = lit≤ tt

pub all_light : IsTrue (list_all is_light constructs)
all_light = refl

pub all_quick : IsTrue (list_all is_quick constructs)
all_quick = refl

pub entry_few : (s : Signature) → entry_size s ≤ 40 + 12 * length (parameters s)
entry_few s = omega arith

pub ruleset cost_rules = (all_light, all_quick, entry_few)
