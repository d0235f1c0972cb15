-- What operations name: registers, labels, objects, functions, regions.
use Rattle.std.specs.Prelude.{ℕ, Bool, true, false, List, [], ◌∷◌, ◌++◌, Option, Some, None, option_to_list, take}
use Rattle.prunum.specs.declared.width.Width.{Width}
use Rattle.midcode.specs.declared.register.VReg.{VReg}
use Rattle.midcode.specs.declared.register.Label.{Label}
use Rattle.midcode.specs.declared.register.Registers.{Registers}
use Rattle.midcode.specs.declared.signature.Signature.{Signature}
use Rattle.midcode.specs.declared.op.Base.{Base}
use Rattle.midcode.specs.declared.op.Base.TheVariants as base
use Rattle.midcode.specs.declared.op.VolatileBase.{VolatileBase}
use Rattle.midcode.specs.declared.op.VolatileBase.TheVariants as volatile
use Rattle.midcode.specs.declared.op.Operand.{Operand}
use Rattle.midcode.specs.declared.op.Operand.TheVariants as operand
use Rattle.midcode.specs.declared.op.Mark.{Mark}
use Rattle.midcode.specs.declared.op.Mark.TheVariants as mark
use Rattle.midcode.specs.declared.op.OpKind.{OpKind}
use Rattle.midcode.specs.declared.op.OpKind.TheVariants as op

abbrev pub listed : Registers → List VReg
listed r = take r.count r.registers

abbrev pub parameters : Signature → List Width
parameters s = take s.count s.params

-- ---- registers

abbrev pub base_reads : Base → List VReg
base_reads (base.Object object) = []
base_reads (base.Register r) = r ∷ []

abbrev pub volatile_reads : VolatileBase → List VReg
volatile_reads (volatile.Address address) = []
volatile_reads (volatile.Register r) = r ∷ []

abbrev pub operand_reads : Operand → List VReg
operand_reads (operand.Register r) = r ∷ []
operand_reads (operand.Constant n) = []

-- the registers that an operation reads, in order
abbrev pub reads : OpKind → List VReg
reads (op.Copy to from) = from ∷ []
reads (op.Unary o to from) = from ∷ []
reads (op.Binary o to left right) = left ∷ operand_reads right
reads (op.Widen to from) = from ∷ []
reads (op.Load to b offset) = base_reads b
reads (op.Store b offset from width) = base_reads b ++ from ∷ []
reads (op.Read to b offset own) = volatile_reads b
reads (op.Write b offset from width own) = volatile_reads b ++ from ∷ []
reads (op.WriteRegister register from) = from ∷ []
reads (op.WritePad bank register from) = from ∷ []
reads (op.Call function arguments to) = listed arguments
reads (op.Return value) = option_to_list value
reads (op.Branch left test right to turns) = left ∷ []
reads _ = []

-- the register that it writes
abbrev pub writes : OpKind → Option VReg
writes (op.Constant to value) = Some to
writes (op.Address to object offset) = Some to
writes (op.Copy to from) = Some to
writes (op.Unary o to from) = Some to
writes (op.Binary o to left right) = Some to
writes (op.Widen to from) = Some to
writes (op.Load to b offset) = Some to
writes (op.Read to b offset own) = Some to
writes (op.ReadRegister to register) = Some to
writes (op.ReadPad to bank register) = Some to
writes (op.Call function arguments to) = to
writes _ = None

-- ---- labels

-- the label that stands here
abbrev pub label_of : OpKind → Option Label
label_of (op.Label l) = Some l
label_of _ = None

-- the label that it may go to
abbrev pub target_of : OpKind → Option Label
target_of (op.Jump l) = Some l
target_of (op.Branch left test right to turns) = Some to
target_of _ = None

-- how many turns the loop of a jump back is run for
abbrev pub turns_of : OpKind → Option ℕ
turns_of (op.Branch left test right to turns) = turns
turns_of _ = None

-- ---- parts of the program

abbrev pub base_objects : Base → List ℕ
base_objects (base.Object object) = object ∷ []
base_objects (base.Register r) = []

abbrev pub objects_of : OpKind → List ℕ
objects_of (op.Address to object offset) = object ∷ []
objects_of (op.Load to b offset) = base_objects b
objects_of (op.Store b offset from width) = base_objects b
objects_of (op.Zero object offset bytes) = object ∷ []
objects_of _ = []

abbrev pub mark_region : Mark → ℕ
mark_region (mark.Enter region) = region
mark_region (mark.Leave region) = region

abbrev pub region_of : OpKind → Option ℕ
region_of (op.Mark m) = Some (mark_region m)
region_of _ = None

-- ---- kinds

-- It only computes a value: no event, no place, no way to go.
abbrev pub is_value : OpKind → Bool
is_value (op.Constant to value) = true
is_value (op.Address to object offset) = true
is_value (op.Copy to from) = true
is_value (op.Unary o to from) = true
is_value (op.Binary o to left right) = true
is_value (op.Widen to from) = true
is_value (op.Load to b offset) = true
is_value _ = false

-- a function may end with it
abbrev pub is_last : OpKind → Bool
is_last (op.Return value) = true
is_last (op.Jump l) = true
is_last op.Halt = true
is_last _ = false

abbrev pub is_return : OpKind → Bool
is_return (op.Return value) = true
is_return _ = false

abbrev pub is_delay : OpKind → Bool
is_delay (op.Delay n) = true
is_delay _ = false
