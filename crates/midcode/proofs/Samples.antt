-- Small programs, run by hand: what each shows and how it stands.
use Rattle.std.proofs.Common.{◌≡◌, ℕ, ◌+◌, Bool, true, false, List, [], ◌∷◌, ◌++◌, Option, Some, None, refl, lit≤}
use Rattle.std.specs.Prelude.{replicate}
use Rattle.behaviour.specs.declared.stop.Stop.{Stop}
use Rattle.behaviour.specs.declared.stop.Stop.TheVariants.{Dry, More, Ended, Undefined, Stuck}
use Rattle.behaviour.specs.Ran.{Ran, Done, Stopped}
use Rattle.prunum.specs.declared.width.Width.TheVariants.{B1, B2, B4}
use Rattle.prutrace.specs.declared.event.Event.{Event}
use Rattle.prutrace.specs.declared.event.Event.TheVariants as event
use Rattle.prutrace.specs.declared.event.Place.TheVariants as place
use Rattle.midcode.specs.declared.object.FirstPart.{FirstPart}
use Rattle.midcode.specs.declared.object.FirstPart.TheVariants as first
use Rattle.midcode.specs.declared.register.VReg.{VReg}
use Rattle.midcode.specs.declared.register.Label.{Label}
use Rattle.midcode.specs.declared.register.Registers.{Registers}
use Rattle.midcode.specs.declared.signature.Signature.{Signature}
use Rattle.midcode.specs.declared.op.Base.TheVariants as base
use Rattle.midcode.specs.declared.op.BinaryOp.TheVariants as binary
use Rattle.midcode.specs.declared.op.CoreRegister.TheVariants.{R30, R31}
use Rattle.midcode.specs.declared.op.Mark.TheVariants as mark
use Rattle.midcode.specs.declared.op.Op.{Op}
use Rattle.midcode.specs.declared.op.Operand.TheVariants as operand
use Rattle.midcode.specs.declared.op.UnaryOp.TheVariants as unary
use Rattle.midcode.specs.declared.op.Test.TheVariants as test
use Rattle.midcode.specs.declared.op.VolatileBase.TheVariants as volatile
use Rattle.midcode.specs.declared.op.OpKind.{OpKind}
use Rattle.midcode.specs.declared.op.OpKind.TheVariants as op
use Rattle.midcode.specs.Value.{unary_value, binary_value}
use Rattle.midcode.specs.Function.{Function, fits, kinds, stands, standing, are_distinct}
use Rattle.midcode.specs.Stored.{Stored}
use Rattle.midcode.specs.Program.{Program, is_whole}
use Rattle.midcode.specs.Machine.{Wild, UnsetRegister, OutsideObjects, Misaligned, OutsideWindows, NotOwn, MoreTurns, FewerTurns, State}
use Rattle.midcode.specs.Meaning.{mid, step, are_addresses}
use Rattle.midcode.specs.Region.{is_plain, is_straight}
use Rattle.prunum.specs.Number.{sext, quot_s, rem_s, shr_s}

abbrev v : ℕ → VReg
v n = record { 0 = n }

abbrev l : ℕ → Label
l n = record { 0 = n }

abbrev numbered : ℕ → List OpKind → List (ℕ × Op)
numbered n [] = []
numbered n (k ∷ ks) = (n, record { line = 1; kind = k }) ∷ numbered (n + 1) ks

abbrev nothing : Signature
nothing = record { params = replicate 8 B4; count = 0; result = None; few = lit≤ tt }

-- takes a byte and gives four
abbrev byte_to_word : Signature
byte_to_word = record { params = replicate 8 B1; count = 1; result = Some B4; few = lit≤ tt }

abbrev one : VReg → Registers
one r = record { registers = replicate 8 r; count = 1; few = lit≤ tt }

abbrev function : Signature → List OpKind → Function
function s ks = record { signature = s; registers = B1 ∷ B2 ∷ B4 ∷ B4 ∷ []; labels = 3; nodes = numbered 0 ks }

-- An object of 8 bytes, the first two of which hold 0x0102; `main`, another function and one region.
abbrev program : List OpKind → List OpKind → Program
program ks ls = record {
  functions = function nothing ks ∷ function byte_to_word ls ∷ [];
  objects = record { bytes = 8; first = first.Number B2 0x0102 ∷ [] } ∷ [];
  regions = 1;
  main = 0;
}

abbrev how : Ran Wild State (Unit {0}) → Option (Stop Wild) × List Event
how (Done u s) = (None, s.events)
how (Stopped c s) = (Some c, s.events)

abbrev runs : List OpKind → List ℕ → ℕ → Option (Stop Wild) × List Event
runs ks values m = how (mid (program ks (op.Return None ∷ [])) (0x20 ∷ []) values m)

abbrev shows : ℕ → Event
shows n = event.Write place.Reg30 B4 n

-- a value is written to R30, and the program ends
abbrev out : List OpKind → List OpKind
out ks = ks ++ op.WriteRegister R30 (v 2) ∷ op.Halt ∷ []

-- ---- values

constant_is_cut : runs (out (op.Constant (v 0) 0x1ff ∷ op.Copy (v 2) (v 0) ∷ [])) ([]) 9
    ≡ (Some Ended, shows 0xff ∷ event.Halted ∷ [])
unfolding step unary_value binary_value sext quot_s rem_s shr_s
constant_is_cut = refl

address : runs (out (op.Address (v 2) 0 3 ∷ [])) ([]) 9
    ≡ (Some Ended, shows 0x23 ∷ event.Halted ∷ [])
unfolding step unary_value binary_value sext quot_s rem_s shr_s
address = refl

negate : runs (out (op.Constant (v 3) 1 ∷ op.Unary unary.Negate (v 2) (v 3) ∷ [])) ([]) 9
    ≡ (Some Ended, shows 0xffffffff ∷ event.Halted ∷ [])
unfolding step unary_value binary_value sext quot_s rem_s shr_s
negate = refl

complement : runs (out (op.Constant (v 3) 1 ∷ op.Unary unary.Complement (v 2) (v 3) ∷ [])) ([]) 9
    ≡ (Some Ended, shows 0xfffffffe ∷ event.Halted ∷ [])
unfolding step unary_value binary_value sext quot_s rem_s shr_s
complement = refl

not : runs (out (op.Constant (v 3) 0 ∷ op.Unary unary.Not (v 2) (v 3) ∷ [])) ([]) 9
    ≡ (Some Ended, shows 1 ∷ event.Halted ∷ [])
unfolding step unary_value binary_value sext quot_s rem_s shr_s
not = refl

Add : runs (out (op.Constant (v 3) 0xffffffff ∷ op.Binary binary.Add (v 2) (v 3) (operand.Constant 2) ∷ [])) ([]) 9
    ≡ (Some Ended, shows 1 ∷ event.Halted ∷ [])
unfolding step unary_value binary_value sext quot_s rem_s shr_s
Add = refl

Subtract : runs (out (op.Constant (v 3) 1 ∷ op.Binary binary.Subtract (v 2) (v 3) (operand.Constant 2) ∷ [])) ([]) 9
    ≡ (Some Ended, shows 0xffffffff ∷ event.Halted ∷ [])
unfolding step unary_value binary_value sext quot_s rem_s shr_s
Subtract = refl

ShiftLeft : runs (out (op.Constant (v 3) 3 ∷ op.Binary binary.ShiftLeft (v 2) (v 3) (operand.Constant 33) ∷ [])) ([]) 9
    ≡ (Some Ended, shows 6 ∷ event.Halted ∷ [])
unfolding step unary_value binary_value sext quot_s rem_s shr_s
ShiftLeft = refl

ShiftRight : runs (out (op.Constant (v 3) 0x80000000 ∷ op.Binary binary.ShiftRight (v 2) (v 3) (operand.Constant 31) ∷ [])) ([]) 9
    ≡ (Some Ended, shows 1 ∷ event.Halted ∷ [])
unfolding step unary_value binary_value sext quot_s rem_s shr_s
ShiftRight = refl

ShiftRightSigned : runs (out (op.Constant (v 3) 0x80000000 ∷ op.Binary binary.ShiftRightSigned (v 2) (v 3) (operand.Constant 31) ∷
    [])) ([]) 9
    ≡ (Some Ended, shows 0xffffffff ∷ event.Halted ∷ [])
unfolding step unary_value binary_value sext quot_s rem_s shr_s
ShiftRightSigned = refl

Multiply : runs (out (op.Constant (v 3) 0x10001 ∷ op.Binary binary.Multiply (v 2) (v 3) (operand.Constant 0x10001) ∷ [])) ([]) 9
    ≡ (Some Ended, shows 0x20001 ∷ event.Halted ∷ [])
unfolding step unary_value binary_value sext quot_s rem_s shr_s
Multiply = refl

Quotient : runs (out (op.Constant (v 3) 7 ∷ op.Binary binary.Quotient (v 2) (v 3) (operand.Constant 0) ∷ [])) ([]) 9
    ≡ (Some Ended, shows 0xffffffff ∷ event.Halted ∷ [])
unfolding step unary_value binary_value sext quot_s rem_s shr_s
Quotient = refl

QuotientSigned : runs (out (op.Constant (v 3) 0xfffffff9 ∷ op.Binary binary.QuotientSigned (v 2) (v 3) (operand.Constant 2) ∷ [])) ([]) 9
    ≡ (Some Ended, shows 0xfffffffd ∷ event.Halted ∷ [])
unfolding step unary_value binary_value sext quot_s rem_s shr_s
QuotientSigned = refl

Remainder : runs (out (op.Constant (v 3) 7 ∷ op.Binary binary.Remainder (v 2) (v 3) (operand.Constant 4) ∷ [])) ([]) 9
    ≡ (Some Ended, shows 3 ∷ event.Halted ∷ [])
unfolding step unary_value binary_value sext quot_s rem_s shr_s
Remainder = refl

RemainderSigned : runs (out (op.Constant (v 3) 0xfffffff9 ∷ op.Binary binary.RemainderSigned (v 2) (v 3) (operand.Constant 2) ∷ [])) ([]) 9
    ≡ (Some Ended, shows 0xffffffff ∷ event.Halted ∷ [])
unfolding step unary_value binary_value sext quot_s rem_s shr_s
RemainderSigned = refl

Equal : runs (out (op.Constant (v 3) 7 ∷ op.Binary binary.Equal (v 2) (v 3) (operand.Constant 7) ∷ [])) ([]) 9
    ≡ (Some Ended, shows 1 ∷ event.Halted ∷ [])
unfolding step unary_value binary_value sext quot_s rem_s shr_s
Equal = refl

NotEqual : runs (out (op.Constant (v 3) 7 ∷ op.Binary binary.NotEqual (v 2) (v 3) (operand.Constant 7) ∷ [])) ([]) 9
    ≡ (Some Ended, shows 0 ∷ event.Halted ∷ [])
unfolding step unary_value binary_value sext quot_s rem_s shr_s
NotEqual = refl

Less : runs (out (op.Constant (v 3) 0xffffffff ∷ op.Binary binary.Less (v 2) (v 3) (operand.Constant 1) ∷ [])) ([]) 9
    ≡ (Some Ended, shows 0 ∷ event.Halted ∷ [])
unfolding step unary_value binary_value sext quot_s rem_s shr_s
Less = refl

LessSigned : runs (out (op.Constant (v 3) 0xffffffff ∷ op.Binary binary.LessSigned (v 2) (v 3) (operand.Constant 1) ∷ [])) ([]) 9
    ≡ (Some Ended, shows 1 ∷ event.Halted ∷ [])
unfolding step unary_value binary_value sext quot_s rem_s shr_s
LessSigned = refl

LessOrEqual : runs (out (op.Constant (v 3) 1 ∷ op.Binary binary.LessOrEqual (v 2) (v 3) (operand.Constant 1) ∷ [])) ([]) 9
    ≡ (Some Ended, shows 1 ∷ event.Halted ∷ [])
unfolding step unary_value binary_value sext quot_s rem_s shr_s
LessOrEqual = refl

LessOrEqualSigned : runs (out (op.Constant (v 3) 1 ∷ op.Binary binary.LessOrEqualSigned (v 2) (v 3) (operand.Constant 0xffffffff) ∷
    [])) ([]) 9
    ≡ (Some Ended, shows 0 ∷ event.Halted ∷ [])
unfolding step unary_value binary_value sext quot_s rem_s shr_s
LessOrEqualSigned = refl

LeftmostBit : runs (out (op.Constant (v 3) 0x00400000 ∷ op.Binary binary.LeftmostBit (v 2) (v 3) (operand.Constant 1) ∷ [])) ([]) 9
    ≡ (Some Ended, shows 22 ∷ event.Halted ∷ [])
unfolding step unary_value binary_value sext quot_s rem_s shr_s
LeftmostBit = refl

LeftmostBit-none : runs (out (op.Constant (v 3) 0 ∷ op.Binary binary.LeftmostBit (v 2) (v 3) (operand.Constant 1) ∷ [])) ([]) 9
    ≡ (Some Ended, shows 32 ∷ event.Halted ∷ [])
unfolding step unary_value binary_value sext quot_s rem_s shr_s
LeftmostBit-none = refl

bits : runs (out (op.Constant (v 3) 12 ∷ op.Constant (v 2) 10 ∷ op.Binary binary.And (v 2) (v 2) (operand.Register (v 3)) ∷
    op.Binary binary.Xor (v 2) (v 2) (operand.Constant 1) ∷ op.Binary binary.Or (v 2) (v 2) (operand.Constant 2) ∷ [])) ([]) 9
    ≡ (Some Ended, shows 11 ∷ event.Halted ∷ [])
unfolding step unary_value binary_value sext quot_s rem_s shr_s
bits = refl

widen : runs (out (op.Constant (v 0) 0x80 ∷ op.Widen (v 2) (v 0) ∷ [])) ([]) 9
    ≡ (Some Ended, shows 0xffffff80 ∷ event.Halted ∷ [])
unfolding step unary_value binary_value sext quot_s rem_s shr_s
widen = refl

-- ---- memory and events

load_at_first : runs (out (op.Load (v 1) (base.Object 0) 0 ∷ op.Copy (v 2) (v 1) ∷ [])) ([]) 9
    ≡ (Some Ended, shows 0x102 ∷ event.Halted ∷ [])
unfolding step unary_value binary_value sext quot_s rem_s shr_s
load_at_first = refl

store_low_bytes : runs (out (op.Constant (v 3) 0x11223344 ∷ op.Store (base.Object 0) 4 (v 3) B2 ∷ op.Address (v 2) 0 0 ∷
    op.Load (v 2) (base.Register (v 2)) 4 ∷ [])) ([]) 9
    ≡ (Some Ended, shows 0x3344 ∷ event.Halted ∷ [])
unfolding step unary_value binary_value sext quot_s rem_s shr_s
store_low_bytes = refl

zeroed : runs (out (op.Zero 0 0 1 ∷ op.Load (v 2) (base.Object 0) 0 ∷ [])) ([]) 9
    ≡ (Some Ended, shows 0x100 ∷ event.Halted ∷ [])
unfolding step unary_value binary_value sext quot_s rem_s shr_s
zeroed = refl

read_and_write : runs (out (op.Read (v 1) (volatile.Address 0x10000) 2 false ∷ op.Write (volatile.Address 0x1e00) 0 (v 1) B1 true ∷
    op.Copy (v 2) (v 1) ∷ [])) (0x12345 ∷ []) 9
    ≡ (Some Ended, event.Read (place.Addr 0x10002) B2 0x2345 ∷ event.Write (place.Addr 0x1e00) B1 0x45 ∷ shows 0x2345 ∷ event.Halted ∷ [])
unfolding step unary_value binary_value sext quot_s rem_s shr_s
read_and_write = refl

registers_and_pads : runs (out (op.ReadRegister (v 2) R31 ∷ op.WritePad 1 2 (v 2) ∷ op.ReadPad (v 2) 2 29 ∷ [])) (5 ∷ 6 ∷ []) 9
    ≡ (
      Some Ended,
      event.Read place.Reg31 B4 5 ∷ event.Write (place.Pad 1 2) B4 5 ∷ event.Read (place.Pad 2 29) B4 6 ∷ shows 6 ∷
          event.Halted ∷ [],
    )
unfolding step unary_value binary_value sext quot_s rem_s shr_s
registers_and_pads = refl

dry : runs (op.ReadRegister (v 2) R31 ∷ []) ([]) 9
    ≡ (Some Dry, [])
unfolding step unary_value binary_value sext quot_s rem_s shr_s
dry = refl

more : runs (out (op.Constant (v 2) 1 ∷ [])) ([]) 2
    ≡ (Some More, shows 1 ∷ [])
unfolding step unary_value binary_value sext quot_s rem_s shr_s
more = refl

region_and_delay : runs (op.Mark (mark.Enter 0) ∷ op.Delay 7 ∷ op.Mark (mark.Leave 0) ∷ op.Return None ∷ []) ([]) 9
    ≡ (Some Ended, event.Enter 0 ∷ event.DelayIn 7 ∷ event.DelayOut 7 ∷ event.Leave 0 ∷ event.Halted ∷ [])
unfolding step unary_value binary_value sext quot_s rem_s shr_s
region_and_delay = refl

place_past_the_end : runs (op.Label (l 0) ∷ []) ([]) 9
    ≡ (Some Stuck, [])
unfolding step unary_value binary_value sext quot_s rem_s shr_s
place_past_the_end = refl

-- ---- wild operations

unset_register : runs (op.Copy (v 2) (v 3) ∷ []) ([]) 9
    ≡ (Some (Undefined UnsetRegister), [])
unfolding step unary_value binary_value sext quot_s rem_s shr_s
unset_register = refl

byte_behind_object : runs (op.Load (v 2) (base.Object 0) 5 ∷ []) ([]) 9
    ≡ (Some (Undefined OutsideObjects), [])
unfolding step unary_value binary_value sext quot_s rem_s shr_s
byte_behind_object = refl

zero_behind_object : runs (op.Zero 0 0 9 ∷ []) ([]) 9
    ≡ (Some (Undefined OutsideObjects), [])
unfolding step unary_value binary_value sext quot_s rem_s shr_s
zero_behind_object = refl

null : runs (op.Constant (v 2) 0 ∷ op.Store (base.Register (v 2)) 0 (v 2) B4 ∷ []) ([]) 9
    ≡ (Some (Undefined OutsideObjects), [])
unfolding step unary_value binary_value sext quot_s rem_s shr_s
null = refl

misaligned : runs (op.Read (v 1) (volatile.Address 0x1e01) 0 false ∷ []) (1 ∷ []) 9
    ≡ (Some (Undefined Misaligned), [])
unfolding step unary_value binary_value sext quot_s rem_s shr_s
misaligned = refl

outside_windows : runs (op.Read (v 2) (volatile.Address 0x1dfc) 0 false ∷ []) (1 ∷ []) 9
    ≡ (Some (Undefined OutsideWindows), [])
unfolding step unary_value binary_value sext quot_s rem_s shr_s
outside_windows = refl

not_own : runs (op.Read (v 2) (volatile.Address 0x10000) 0 true ∷ []) (1 ∷ []) 9
    ≡ (Some (Undefined NotOwn), [])
unfolding step unary_value binary_value sext quot_s rem_s shr_s
not_own = refl

-- ---- loops with turns

counted_loop : runs (op.Constant (v 2) 0 ∷ op.Label (l 0) ∷ op.Binary binary.Add (v 2) (v 2) (operand.Constant 1) ∷
    op.Branch (v 2) test.NotEqual 3 (l 0) (Some 3) ∷ op.WriteRegister R30 (v 2) ∷ op.Halt ∷ []) ([]) 20
    ≡ (Some Ended, shows 3 ∷ event.Halted ∷ [])
unfolding step unary_value binary_value sext quot_s rem_s shr_s
counted_loop = refl

one_turn_more : runs (op.Constant (v 2) 0 ∷ op.Label (l 0) ∷ op.Binary binary.Add (v 2) (v 2) (operand.Constant 1) ∷
    op.Branch (v 2) test.NotEqual 3 (l 0) (Some 2) ∷ op.WriteRegister R30 (v 2) ∷ op.Halt ∷ []) ([]) 20
    ≡ (Some (Undefined MoreTurns), [])
unfolding step unary_value binary_value sext quot_s rem_s shr_s
one_turn_more = refl

one_turn_fewer : runs (op.Constant (v 2) 0 ∷ op.Label (l 0) ∷ op.Binary binary.Add (v 2) (v 2) (operand.Constant 1) ∷
    op.Branch (v 2) test.NotEqual 3 (l 0) (Some 4) ∷ op.WriteRegister R30 (v 2) ∷ op.Halt ∷ []) ([]) 20
    ≡ (Some (Undefined FewerTurns), [])
unfolding step unary_value binary_value sext quot_s rem_s shr_s
one_turn_fewer = refl

-- ---- calls

call : how (mid (program (out (op.Constant (v 0) 0x80 ∷ op.Call 1 (one (v 0)) (Some (v 2)) ∷ []))
    (op.Widen (v 2) (v 0) ∷ op.Return (Some (v 2)) ∷ [])) (0x20 ∷ []) [] 9)
    ≡ (Some Ended, shows 0xffffff80 ∷ event.Halted ∷ [])
unfolding step sext
call = refl

-- the caller's register isn't written where the return has no value
call_without_value : how (mid (program (out (op.Constant (v 0) 0 ∷ op.Call 1 (one (v 0)) (Some (v 2)) ∷ [])) (op.Return None ∷
    [])) (0x20 ∷ []) [] 9)
    ≡ (Some (Undefined UnsetRegister), [])
unfolding step
call_without_value = refl

-- ---- addresses

abbrev object : ℕ → Stored
object n = record { bytes = n; first = [] }

apart : are_addresses (0x10 ∷ 0x18 ∷ []) (object 8 ∷ object 4 ∷ []) ≡ true
apart = refl

odd_address : are_addresses (0x12 ∷ []) (object 4 ∷ []) ≡ false
odd_address = refl

below_first : are_addresses (0xc ∷ []) (object 4 ∷ []) ≡ false
below_first = refl

past_private : are_addresses (0x1dfc ∷ []) (object 5 ∷ []) ≡ false
past_private = refl

overlapping : are_addresses (0x14 ∷ 0x10 ∷ []) (object 4 ∷ object 8 ∷ []) ≡ false
overlapping = refl

-- ---- what is valid

abbrev is_valid : List OpKind → Bool
is_valid ks = is_whole (program ks (op.Return None ∷ []))

abbrev marked : List OpKind → List OpKind
marked ks = op.Mark (mark.Enter 0) ∷ (ks ++ op.Mark (mark.Leave 0) ∷ op.Halt ∷ [])

empty_region : is_valid (marked []) ≡ true
empty_region = refl

region_missing : is_valid (op.Halt ∷ []) ≡ false
region_missing = refl

region_twice : is_valid (op.Mark (mark.Enter 0) ∷ op.Mark (mark.Leave 0) ∷ marked []) ≡ false
region_twice = refl

region_ends_first : is_valid (op.Mark (mark.Leave 0) ∷ op.Mark (mark.Enter 0) ∷ op.Halt ∷ []) ≡ false
region_ends_first = refl

region_unknown : is_valid (op.Mark (mark.Enter 1) ∷ marked []) ≡ false
region_unknown = refl

jump_into_region : is_valid (op.Jump (l 0) ∷ marked (op.Label (l 0) ∷ [])) ≡ false
jump_into_region = refl

jump_out_of_region : is_valid (op.Label (l 0) ∷ marked (op.Branch (v 2) test.Equal 0 (l 0) None ∷ [])) ≡ false
jump_out_of_region = refl

return_out_of_region : is_valid (marked (op.Return None ∷ [])) ≡ false
return_out_of_region = refl

jump_within_region : is_valid (marked (op.Label (l 0) ∷ op.Branch (v 2) test.Equal 0 (l 0) None ∷ [])) ≡ true
jump_within_region = refl

label_elsewhere : is_valid (marked (op.Jump (l 0) ∷ [])) ≡ false
label_elsewhere = refl

object_unknown : is_valid (marked (op.Zero 1 0 4 ∷ [])) ≡ false
object_unknown = refl

function_unknown : is_valid (marked (op.Call 2 (one (v 0)) None ∷ [])) ≡ false
function_unknown = refl

argument_of_another_width : is_valid (marked (op.Call 1 (one (v 1)) None ∷ [])) ≡ false
argument_of_another_width = refl

value_of_another_width : is_valid (marked (op.Call 1 (one (v 0)) (Some (v 1)) ∷ [])) ≡ false
value_of_another_width = refl

call_of_its_widths : is_valid (marked (op.Call 1 (one (v 0)) (Some (v 2)) ∷ [])) ≡ true
call_of_its_widths = refl

value_returned_by_main : is_valid (marked [] ++ op.Return (Some (v 2)) ∷ []) ≡ false
value_returned_by_main = refl

last_is_a_label : is_valid (marked [] ++ op.Label (l 0) ∷ []) ≡ false
last_is_a_label = refl

loop_in_region : is_valid (marked (op.Label (l 0) ∷ op.Branch (v 2) test.Equal 0 (l 0) (Some 2) ∷ [])) ≡ true
loop_in_region = refl

loop_across_region : is_valid (op.Label (l 0) ∷ op.Mark (mark.Enter 0) ∷ op.Branch (v 2) test.Equal 0 (l 0) (Some 2) ∷
    op.Mark (mark.Leave 0) ∷ op.Halt ∷ []) ≡ false
loop_across_region = refl

loop_entered_behind_its_target : is_valid (op.Jump (l 1) ∷ op.Label (l 0) ∷ op.Label (l 1) ∷
    op.Branch (v 2) test.Equal 0 (l 0) (Some 2) ∷ marked []) ≡ false
loop_entered_behind_its_target = refl

loop_left_before_its_jump : is_valid (op.Label (l 0) ∷ op.Branch (v 2) test.Equal 0 (l 1) None ∷
    op.Branch (v 2) test.Equal 0 (l 0) (Some 2) ∷ op.Label (l 1) ∷ marked []) ≡ false
loop_left_before_its_jump = refl

loops_overlap : is_valid (op.Label (l 0) ∷ op.Label (l 1) ∷ op.Branch (v 2) test.Equal 0 (l 0) (Some 2) ∷
    op.Branch (v 2) test.Equal 0 (l 1) (Some 2) ∷ marked []) ≡ false
loops_overlap = refl

turns_forwards : is_valid (op.Branch (v 2) test.Equal 0 (l 0) (Some 2) ∷ op.Label (l 0) ∷ marked []) ≡ false
turns_forwards = refl

-- ---- jumps, labels, main and objects

jump : runs (op.Jump (l 0) ∷ op.WriteRegister R30 (v 2) ∷ op.Label (l 0) ∷ op.Halt ∷ []) ([]) 9
    ≡ (Some Ended, event.Halted ∷ [])
unfolding step
jump = refl

-- a label that stands already may not follow
label_twice : stands (kinds (function nothing (op.Label (l 0) ∷ op.Halt ∷ []))) 0 ≡ true
label_twice = refl

labels_twice : are_distinct (standing (op.Label (l 0) ∷ op.Halt ∷ op.Label (l 0) ∷ op.Halt ∷ [])) ≡ false
labels_twice = refl

main_with_argument : is_whole (record (program (marked []) (op.Return None ∷ [])) { main = 1 }) ≡ false
main_with_argument = refl

main_missing : is_whole (record (program (marked []) (op.Return None ∷ [])) { main = 2 }) ≡ false
main_missing = refl

abbrev giving : Signature
giving = record { params = replicate 8 B4; count = 0; result = Some B4; few = lit≤ tt }

main_with_result : is_whole (record (program (marked []) (op.Return None ∷ [])) {
  functions = function giving (marked []) ∷ function byte_to_word (op.Return None ∷ []) ∷ [];
}) ≡ false
main_with_result = refl

function_without_operations : is_whole (program (marked []) []) ≡ false
function_without_operations = refl

abbrev with_object : List FirstPart → Bool
with_object parts =
    is_whole (record (program (marked []) (op.Return None ∷ [])) { objects = record { bytes = 8; first = parts } ∷ [] })

parts_that_fill : with_object (first.Number B2 1 ∷ first.Zeros 2 ∷ first.Address 0 4 ∷ []) ≡ true
parts_that_fill = refl

parts_too_long : with_object (first.Number B4 1 ∷ first.Address 0 0 ∷ first.Zeros 1 ∷ []) ≡ false
parts_too_long = refl

address_of_no_object : with_object (first.Address 1 0 ∷ []) ≡ false
address_of_no_object = refl

abbrev fit : OpKind → Bool
fit k = fits (B1 ∷ B2 ∷ B4 ∷ B4 ∷ []) 3 k

fits_word : fit (op.Address (v 2) 0 0) ≡ true
fits_word = refl

address_in_a_byte : fit (op.Address (v 0) 0 0) ≡ false
address_in_a_byte = refl

register_unknown : fit (op.Copy (v 4) (v 0)) ≡ false
register_unknown = refl

register_unknown_read : fit (op.Copy (v 0) (v 4)) ≡ false
register_unknown_read = refl

label_unknown : fit (op.Jump (l 3)) ≡ false
label_unknown = refl

narrower_widened : fit (op.Widen (v 0) (v 1)) ≡ false
narrower_widened = refl

stored_from_a_narrower : fit (op.Store (base.Object 0) 0 (v 0) B2) ≡ false
stored_from_a_narrower = refl

no_bytes_zeroed : fit (op.Zero 0 0 0) ≡ false
no_bytes_zeroed = refl

many_bytes_zeroed : fit (op.Zero 0 0 257) ≡ false
many_bytes_zeroed = refl

no_turns : fit (op.Branch (v 2) test.Equal 0 (l 0) (Some 0)) ≡ false
no_turns = refl

no_delay : fit (op.Delay 0) ≡ false
no_delay = refl

pad_unknown : fit (op.WritePad 3 0 (v 2)) ≡ false
pad_unknown = refl

-- ---- regions

plain : is_plain (program (marked (op.Call 1 (one (v 0)) None ∷ op.Branch (v 2) test.Equal 0 (l 0) None ∷ op.Label (l 0) ∷
    [])) (op.Return None ∷ [])) 0 ≡ true
plain = refl

not_straight : is_straight (program (marked (op.Branch (v 2) test.Equal 0 (l 0) None ∷ op.Label (l 0) ∷ [])) (op.Return None ∷
    [])) 0 ≡ false
not_straight = refl

turning_is_straight : is_straight (program (marked (op.Label (l 0) ∷ op.Branch (v 2) test.Equal 0 (l 0) (Some 2) ∷
    [])) (op.Return None ∷ [])) 0 ≡ true
turning_is_straight = refl

endless : is_plain (program (marked (op.Label (l 0) ∷ op.Jump (l 0) ∷ [])) (op.Return None ∷ [])) 0 ≡ false
endless = refl

halt_in_a_call : is_plain (program (marked (op.Call 1 (one (v 0)) None ∷ [])) (op.Halt ∷ [])) 0 ≡ false
halt_in_a_call = refl

shared_read : is_plain (program (marked (op.Read (v 2) (volatile.Address 0x10000) 0 false ∷ [])) (op.Return None ∷ [])) 0 ≡ false
shared_read = refl
