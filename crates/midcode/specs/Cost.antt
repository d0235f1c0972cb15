-- What operations cost at most: words, with every register in memory and every branch far, and cycles.
use Rattle.std.specs.Prelude.{ℕ, ◌+◌, ◌*◌, ◌/◌, ◌||◌, Bool, true, false, nat_le, List, length, if◌then◌else◌}
use Rattle.std.specs.List.{list_any}
use Rattle.midcode.specs.declared.op.Base.{Base}
use Rattle.midcode.specs.declared.op.Base.TheVariants as base
use Rattle.midcode.specs.declared.op.BinaryOp.{BinaryOp}
use Rattle.midcode.specs.declared.op.BinaryOp.TheVariants as binary
use Rattle.midcode.specs.declared.op.Operand.{Operand}
use Rattle.midcode.specs.declared.op.Operand.TheVariants as operand
use Rattle.midcode.specs.declared.op.VolatileBase.{VolatileBase}
use Rattle.midcode.specs.declared.op.VolatileBase.TheVariants as volatile
use Rattle.midcode.specs.declared.op.OpKind.{OpKind}
use Rattle.midcode.specs.declared.op.OpKind.TheVariants as op
use Rattle.midcode.specs.declared.signature.Signature.{Signature}
use Rattle.midcode.specs.Operation.{listed, parameters}

-- ---- words

-- a register is read from memory, or written to it, by an LDI of its address and a load or store
abbrev pub slot : ℕ
slot = 2

-- a constant of 32 bits is two LDI
abbrev pub constant : ℕ
constant = 2

-- a branch over 511 words is the inverted branch over a JMP
abbrev pub far_branch : ℕ
far_branch = 2

-- a number up to 255 stands in the instruction
abbrev pub number_size : ℕ → ℕ
number_size n = if nat_le n 255 then 0 else constant

-- the words of a binary operation between its operands and its result, where it is done in registers
abbrev pub work : BinaryOp → ℕ
-- LSR, the sign bit shifted (3), XOR, SUB
work binary.ShiftRightSigned = 6
-- R14 to R25 saved (2), JAL, the result put aside, R14 to R25 loaded again (2), and 4 to spare
work binary.Multiply = 10
work binary.Quotient = 10
work binary.QuotientSigned = 10
work binary.Remainder = 10
work binary.RemainderSigned = 10
-- XOR, MIN, XOR
work binary.Equal = 3
work binary.NotEqual = 2
-- MAX, XOR, MIN, and XOR for the other answer
work binary.Less = 3
work binary.LessOrEqual = 4
-- the sign bit (2), XOR of both operands
work binary.LessSigned = 7
work binary.LessOrEqualSigned = 8
work _ = 1

-- the same with the right operand's words
abbrev pub work_with : BinaryOp → Operand → ℕ
work_with o (operand.Register r) = slot + work o
-- LSR by the number, the sign bit so shifted, XOR, SUB
work_with binary.ShiftRightSigned (operand.Constant n) = 3 + constant
-- nothing to spare is needed
work_with binary.Multiply (operand.Constant n) = 6 + constant
work_with binary.Quotient (operand.Constant n) = 10 + constant
work_with binary.QuotientSigned (operand.Constant n) = 10 + constant
work_with binary.Remainder (operand.Constant n) = 10 + constant
work_with binary.RemainderSigned (operand.Constant n) = 10 + constant
work_with binary.LessSigned (operand.Constant n) = 7 + constant
work_with binary.LessOrEqualSigned (operand.Constant n) = 8 + constant
work_with o (operand.Constant n) = work o + number_size n

-- an address with its offset: a constant, or a register and an offset, by an LDI where it is above 255
abbrev pub offset_size : ℕ → ℕ
offset_size offset = if nat_le offset 255 then 0 else 1

abbrev pub base_size : Base → ℕ → ℕ
base_size (base.Object object) offset = constant
base_size (base.Register r) offset = slot + offset_size offset

abbrev pub volatile_size : VolatileBase → ℕ → ℕ
volatile_size (volatile.Address address) offset = constant
volatile_size (volatile.Register r) offset = slot + offset_size offset

-- how many times 16 bytes are set to 0
abbrev pub zeroings : ℕ → ℕ
zeroings bytes = (bytes + 15) / 16

abbrev pub size : OpKind → ℕ
size (op.Constant to n) = constant + slot
size (op.Address to object offset) = constant + slot
-- an ADD of 0 between them, which fills the upper bytes of a wider register
size (op.Copy to from) = slot + 1 + slot
size (op.Unary o to from) = slot + 2 + slot
size (op.Binary o to left right) = slot + work_with o right + slot
-- the sign bit, XOR, SUB
size (op.Widen to from) = slot + 3 + slot
size (op.Load to b offset) = base_size b offset + 1 + slot
size (op.Store b offset from width) = base_size b offset + slot + 1
-- 16 bytes of 0 in registers, the address, a store for each 16 bytes
size (op.Zero object offset bytes) = 4 + constant + zeroings bytes
size (op.Read to b offset own) = volatile_size b offset + 1 + slot
size (op.Write b offset from width own) = volatile_size b offset + slot + 1
size (op.ReadRegister to register) = 1 + slot
size (op.WriteRegister register from) = slot + 1
-- the register that moves is saved and loaded again
size (op.ReadPad to bank register) = 12
size (op.WritePad bank register from) = 12
-- R14 to R25 saved, the arguments, JAL, the result put aside, R14 to R25 loaded again, the result
size (op.Call function arguments to) = slot + slot * length (listed arguments) + 2 + slot + slot
-- the value, R5 to R13 and the return address loaded again, JMP
size (op.Return value) = slot + 2 * slot + 1
size (op.Label l) = 0
size (op.Jump l) = 1
size (op.Branch left test right to turns) = slot + number_size right + far_branch
size (op.Mark m) = 1
size (op.Delay n) = 20
size op.Halt = 1

-- R5 to R13 and the return address saved, R14 to R21 stored once, each parameter loaded from there and put to its place
abbrev pub entry_size : Signature → ℕ
entry_size s = 3 * slot + 2 * slot * length (parameters s)

-- what stands outside all functions
abbrev pub start_size : ℕ
start_size = 16

-- ---- helpers

abbrev pub multiplies : OpKind → Bool
multiplies (op.Binary binary.Multiply to left right) = true
multiplies _ = false

abbrev pub divides : OpKind → Bool
divides (op.Binary binary.Quotient to left right) = true
divides (op.Binary binary.QuotientSigned to left right) = true
divides (op.Binary binary.Remainder to left right) = true
divides (op.Binary binary.RemainderSigned to left right) = true
divides _ = false

-- the bodies of the helpers that operations need, each once
abbrev pub helper_size : List OpKind → ℕ
helper_size ks = (if list_any multiplies ks then 120 else 0) + (if list_any divides ks then 280 else 0)

-- ---- cycles, by the slower table

-- an LDI, and a load of up to 4 bytes from the core's own RAM (4) or a store to it (3)
abbrev pub slot_read : ℕ
slot_read = 5

abbrev pub slot_write : ℕ
slot_write = 4

abbrev pub is_helped : OpKind → Bool
is_helped k = multiplies k || divides k

-- At most 400 in the helper's body. Round it R14 to R25 are stored (1 + 14) and loaded again (1 + 15).
abbrev pub helped_charge : ℕ
helped_charge = 400 + 15 + 2 * slot_read + 2 + 16 + slot_write

-- The entry of the function that is called: R5 to R13 (1 + 11), the return address (1 + 3) and R14 to R21 (1 + 10) are stored, each
-- parameter is loaded and put to its place.
abbrev pub entry_charge : ℕ → ℕ
entry_charge count = 27 + (slot_read + slot_write) * count

-- cycles, where accesses are to the core's own RAM
abbrev pub charge : OpKind → ℕ
charge (op.Constant to n) = constant + slot_write
charge (op.Address to object offset) = constant + slot_write
charge (op.Copy to from) = slot_read + 1 + slot_write
charge (op.Unary o to from) = slot_read + 2 + slot_write
charge (op.Binary o to left right) =
    if is_helped (op.Binary o to left right) then helped_charge else 2 * slot_read + work o + constant + slot_write
charge (op.Widen to from) = slot_read + 3 + slot_write
charge (op.Load to b offset) = slot_read + 5 + slot_write
charge (op.Store b offset from width) = 2 * slot_read + 4
charge (op.Zero object offset bytes) = 4 + constant + 6 * zeroings bytes
charge (op.Read to b offset own) = slot_read + 5 + slot_write
charge (op.Write b offset from width own) = 2 * slot_read + 4
charge (op.ReadRegister to register) = 1 + slot_write
charge (op.WriteRegister register from) = slot_read + 1
charge (op.ReadPad to bank register) = 24
charge (op.WritePad bank register from) = 24
charge (op.Call function arguments to) =
    15 + slot_read * length (listed arguments) + 2 + 16 + slot_write + entry_charge (length (listed arguments))
-- the value, R5 to R13 (1 + 12) and the return address (1 + 4) loaded again, JMP
charge (op.Return value) = slot_read + 13 + 5 + 1
charge (op.Label l) = 0
charge (op.Jump l) = 1
charge (op.Branch left test right to turns) = slot_read + constant + far_branch
charge (op.Mark m) = 1
charge (op.Delay n) = n
charge op.Halt = 1
