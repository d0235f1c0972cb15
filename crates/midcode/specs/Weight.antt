-- The operations of each construct of C, with its weight in words. The weights are twice the sums of the source's nodes, as the
-- project's limits on sources have them: each construct's operations are at most its weight, whatever registers are in memory.
use Rattle.std.specs.Prelude.{ℕ, ◌+◌, ◌*◌, Bool, true, false, nat_le, List, [], ◌∷◌, Some, None, sum_by, replicate}
use Rattle.std.proofs.Common.{lit≤}
use Rattle.prunum.specs.declared.width.Width.TheVariants.{B4}
use Rattle.midcode.specs.declared.register.VReg.{VReg}
use Rattle.midcode.specs.declared.register.Label.{Label}
use Rattle.midcode.specs.declared.register.Registers.{Registers}
use Rattle.midcode.specs.declared.op.Base.TheVariants as base
use Rattle.midcode.specs.declared.op.BinaryOp.TheVariants as binary
use Rattle.midcode.specs.declared.op.CoreRegister.TheVariants.{R30, R31}
use Rattle.midcode.specs.declared.op.Mark.TheVariants as mark
use Rattle.midcode.specs.declared.op.Operand.TheVariants as operand
use Rattle.midcode.specs.declared.op.UnaryOp.TheVariants as unary
use Rattle.midcode.specs.declared.op.Test.TheVariants as test
use Rattle.midcode.specs.declared.op.VolatileBase.TheVariants as volatile
use Rattle.midcode.specs.declared.op.OpKind.{OpKind}
use Rattle.midcode.specs.declared.op.OpKind.TheVariants as op
use Rattle.midcode.specs.Cost.{size, charge}

-- some register, some label; the costs are the same for all
abbrev pub r : VReg
r = record { 0 = 0 }

abbrev pub l : Label
l = record { 0 = 0 }

abbrev pub none : Registers
none = record { registers = replicate 8 r; count = 0; few = lit≤ tt }

-- a number above 255 and below 2^32
abbrev pub large : ℕ
large = 65536

-- What a construct is made of: operations without those of its parts, and its weight. A place costs nothing by itself: the access stands
-- at the node whose value is taken, and has the weights of the nodes of the place.
pub record Construct : Type 0 where
  pub ops : List OpKind
  pub weight : ℕ

abbrev pub of : List OpKind → ℕ → Construct
of ops weight = record { ops = ops; weight = weight }

abbrev pub all_registers : Registers
all_registers = record { registers = replicate 8 r; count = 8; few = lit≤ tt }

-- a read of an element of an array whose size is no power of two: the index, the address, their sum, the access
abbrev pub element : List OpKind
element =
    op.Binary binary.Multiply r r (operand.Constant large) ∷ op.Address r 0 0 ∷ op.Binary binary.Add r r (operand.Register r) ∷
    op.Load r (base.Register r) 0 ∷ []

abbrev pub constructs : List Construct
constructs =
    -- a number; names: a local scalar, an object, a volatile object, an array, R30 and R31
    of (op.Constant r large ∷ []) 8 ∷
    of (op.Copy r r ∷ []) 8 ∷
    of (op.Load r (base.Object 0) 0 ∷ []) 8 ∷
    of (op.Read r (volatile.Address large) 0 true ∷ []) 8 ∷
    of (op.Address r 0 0 ∷ []) 8 ∷
    of (op.ReadRegister r R31 ∷ []) 8 ∷
    -- prefix operators; through a pointer; an address
    of (op.Unary unary.Not r r ∷ []) 12 ∷
    of (op.Load r (base.Register r) 0 ∷ []) 12 ∷
    of (op.Address r 0 0 ∷ []) 8 ∷
    -- binary operators, shifts, comparisons, products and quotients
    of (op.Binary binary.Add r r (operand.Register r) ∷ []) 20 ∷
    of (op.Binary binary.ShiftRightSigned r r (operand.Register r) ∷ []) 20 ∷
    of (op.Binary binary.LessOrEqualSigned r r (operand.Register r) ∷ []) 32 ∷
    of (op.Binary binary.Multiply r r (operand.Register r) ∷ []) 32 ∷
    of (op.Binary binary.RemainderSigned r r (operand.Register r) ∷ []) 32 ∷
    -- a difference of pointers over a size that is no power of two
    of (op.Binary binary.Subtract r r (operand.Register r) ∷ op.Binary binary.Multiply r r (operand.Constant large) ∷
    op.Binary binary.ShiftRightSigned r r (operand.Constant 2) ∷ []) 32 ∷
    -- `&&` and `||`, and `?:`
    of (op.Branch r test.Equal 0 l None ∷ op.Branch r test.Equal 0 l None ∷ op.Constant r 1 ∷ op.Jump l ∷ op.Label l ∷ op.Constant r 0 ∷
    op.Label l ∷ []) 24 ∷
    of (op.Branch r test.Equal 0 l None ∷ op.Copy r r ∷ op.Jump l ∷ op.Label l ∷ op.Copy r r ∷ op.Label l ∷ []) 24 ∷
    -- an assignment to a local, and with the node of its target: to an object, through a pointer, to a volatile object, to R30
    of (op.Copy r r ∷ []) 8 ∷
    of (op.Store (base.Object 0) 0 r B4 ∷ []) (8 + 8) ∷
    of (op.Store (base.Register r) 256 r B4 ∷ []) (8 + 12) ∷
    of (op.Write (volatile.Address large) 0 r B4 true ∷ []) (8 + 8) ∷
    of (op.WriteRegister R30 r ∷ []) (8 + 8) ∷
    -- `*q += n` over a size that is no power of two, and `v++` of a volatile name
    of (op.Binary binary.Multiply r r (operand.Constant large) ∷ op.Load r (base.Register r) 0 ∷
    op.Binary binary.Add r r (operand.Register r) ∷
    op.Store (base.Register r) 0 r B4 ∷ []) (28 + 12) ∷
    of (op.Read r (volatile.Address large) 0 false ∷ op.Binary binary.Add r r (operand.Constant 1) ∷
    op.Write (volatile.Address large) 0 r B4 false ∷ []) 28 ∷
    -- a conversion that changes the width
    of (op.Widen r r ∷ []) 16 ∷
    of (op.Copy r r ∷ []) 16 ∷
    -- a member through a pointer, an element, and its member
    of (op.Load r (base.Register r) 256 ∷ []) 16 ∷
    of element 32 ∷
    -- a call without arguments and with eight
    of (op.Call 0 none (Some r) ∷ []) 32 ∷
    of (op.Call 0 all_registers (Some r) ∷ []) (32 + 8 * 12) ∷
    -- `__lmbd`, `__xin` and `__xout`, a delay, `__halt`
    of (op.Binary binary.LeftmostBit r r (operand.Register r) ∷ []) 16 ∷
    of (op.ReadPad r 0 0 ∷ []) 24 ∷
    of (op.WritePad 0 0 r ∷ []) 24 ∷
    of (op.Delay 1 ∷ []) 20 ∷
    of (op.Halt ∷ []) 4 ∷
    -- initialisers: of a scalar, of a leaf, of missing leaves of 4 and of 256 bytes
    of (op.Copy r r ∷ []) 8 ∷
    of (op.Store (base.Object 0) 0 r B4 ∷ []) 12 ∷
    of (op.Zero 0 0 4 ∷ []) 12 ∷
    of (op.Zero 0 0 256 ∷ []) (64 * 12) ∷
    -- if-else; a loop with its test first, and a constant-count loop; a case; break and continue; return; a region
    of (op.Branch r test.Equal 0 l None ∷ op.Jump l ∷ op.Label l ∷ op.Label l ∷ []) 16 ∷
    of (op.Label l ∷ op.Branch r test.Equal 0 l None ∷ op.Label l ∷ op.Jump l ∷ op.Label l ∷ []) 24 ∷
    of (op.Label l ∷ op.Label l ∷ op.Branch r test.NotEqual 0 l (Some 2) ∷ op.Label l ∷ []) 24 ∷
    of (op.Branch r test.Equal large l None ∷ op.Label l ∷ []) 28 ∷
    of (op.Jump l ∷ []) 8 ∷
    of (op.Return (Some r) ∷ []) 16 ∷
    of (op.Mark (mark.Enter 0) ∷ op.Mark (mark.Leave 0) ∷ []) 4 ∷ []

-- words within the weight
abbrev pub is_light : Construct → Bool
is_light c = nat_le (sum_by size c.ops) c.weight

-- cycles within those of a step
abbrev pub is_quick : Construct → Bool
is_quick c = nat_le (sum_by charge c.ops) 512
