-- That operations on values become instructions that do them, and in how many words, with every register in a slot.
use Rattle.std.specs.Prelude.{◌≡◌, ◌≢◌, ℕ, ◌%◌, ◌^◌, ◌<◌, Bool, true, IsTrue, nat_le, List, [], ◌∷◌, length, Option, Some, slice_get}
use Rattle.prunum.specs.Number.{bit_count, sext, wrap_signed}
use Rattle.prunum.specs.Width.{byte_count}
use Rattle.prunum.specs.declared.width.Width.{Width}
use Rattle.prunum.specs.declared.width.Width.TheVariants.{B1, B2, B4}
use Rattle.isa.specs.declared.field.Field.{Field}
use Rattle.isa.specs.declared.inst.Inst.{Inst}
use Rattle.midcode.specs.declared.op.BinaryOp.{BinaryOp}
use Rattle.midcode.specs.declared.op.BinaryOp.TheVariants as binary
use Rattle.midcode.specs.declared.op.Operand.TheVariants as operand
use Rattle.midcode.specs.declared.op.OpKind.{OpKind}
use Rattle.midcode.specs.declared.op.OpKind.TheVariants as op
use Rattle.midcode.specs.declared.op.UnaryOp.TheVariants as unary
use Rattle.midcode.specs.declared.register.VReg.{VReg}
use Rattle.midcode.specs.Cost.{size}
use Rattle.midcode.specs.Machine.{with_register}
use Rattle.midcode.specs.Value.{binary_value}
use Rattle.subreg.specs.Allocation.{LivesWell, AreApart}
use Rattle.subreg.specs.declared.home.Home.{Home}
use Rattle.subreg.specs.declared.home.Home.TheVariants as home
use Rattle.fieldcode.specs.Homes.{HomesHold}
use Rattle.fieldcode.specs.Works.{Work, is_direct, unary_work, copy_work, widen_work}
use Rattle.fieldcode.specs.Values.{Place, Right, InPlace, Constant, one_code, two_code, constant_code}
use Rattle.fieldcode.specs.Effects.{HasRoom, IsPlace, IsRight, HasValue, HasRight, IsPut, Performs}

-- ---- effects

-- The work of one operand, from any home to any home, gives this of its value.
abbrev pub OneLaw : (Field → Work) → (ℕ → ℕ) → Type 0
OneLaw work value = (slots spills : ℕ) (to from : Place) (registers ram : List ℕ) (x : ℕ) → HasRoom slots spills registers ram
    → IsPlace spills to → IsPlace spills from → HasValue slots from registers ram x
    → Performs slots to (value x) (one_code slots work to from) registers ram

-- the same of a number that is extended by its sign
abbrev pub WidenLaw : Type 0
WidenLaw = (slots spills : ℕ) (to from : Place) (registers ram : List ℕ) (x : ℕ) → HasRoom slots spills registers ram
    → IsPlace spills to → IsPlace spills from → HasValue slots from registers ram x → byte_count from.width < 4
    → Performs slots to (wrap_signed B4 (sext from.width x)) (one_code slots (widen_work from.width) to from) registers ram

abbrev pub ConstantLaw : Type 0
ConstantLaw = (slots spills : ℕ) (to : Place) (registers ram : List ℕ) (n : ℕ) → HasRoom slots spills registers ram → IsPlace spills to
    → n < 2 ^ 32 → Performs slots to n (constant_code slots to n) registers ram

-- each operator that needs no helper, of a place and a place or a number
abbrev pub TwoLaw : Type 0
TwoLaw = (o : BinaryOp) (slots spills : ℕ) (to left : Place) (right : Right) (registers ram : List ℕ) (x y : ℕ) → is_direct o ≡ true
    → HasRoom slots spills registers ram → IsPlace spills to → IsPlace spills left → IsRight spills right
    → HasValue slots left registers ram x → HasRight slots right registers ram y
    → Performs slots to (binary_value o x y) (two_code slots o to left right) registers ram

-- ---- registers

-- Each other register that is live behind the operation was live before it, and its home is apart from the result's.
abbrev pub AreOthers : ℕ → List Width → List Home → (ℕ → Type 0) → (ℕ → Type 0) → ℕ → Place → Type 0
AreOthers spills widths homes live next r to = (q : ℕ) (w : Width) (h : Home) → next q → q ≢ r → slice_get widths q ≡ Some w
    → slice_get homes q ≡ Some h → live q × LivesWell spills w h × AreApart h to.home

abbrev pub are : (ℕ → Bool) → ℕ → Type 0
are test q = IsTrue (test q)

-- Where a number is put into the home of a register, the core holds what the registers hold with the number, cut to its width, in this one.
abbrev pub HomesLaw : Type 0
HomesLaw = (slots spills r n : ℕ) (widths : List Width) (homes : List Home) (live next : ℕ → Bool) (values : ℕ → Option ℕ) (to : Place)
    (registers ram after left : List ℕ) → slice_get widths r ≡ Some to.width → slice_get homes r ≡ Some to.home
    → LivesWell spills to.width to.home → AreOthers spills widths homes (are live) (are next) r to
    → HomesHold slots widths homes (are live) values registers ram → IsPut slots to n registers ram after left
    → HomesHold slots widths homes (are next) (with_register values r (n % 2 ^ bit_count to.width)) after left

-- ---- words

-- an operation and its words, with every register in a slot
pub record Sample : Type 0 where
  pub words : ℕ
  pub most : ℕ

abbrev pub r : VReg
r = record { 0 = 0 }

abbrev pub slot : Place
slot = record { width = B4; home = home.Slot 0 }

abbrev pub half_slot : Place
half_slot = record { width = B2; home = home.Slot 1 }

abbrev pub of : List Inst → OpKind → Sample
of code k = record { words = length code; most = size k }

abbrev pub with_slot : BinaryOp → Sample
with_slot o = of (two_code 0 o slot slot (InPlace slot)) (op.Binary o r r (operand.Register r))

abbrev pub with_number : BinaryOp → ℕ → Sample
with_number o n = of (two_code 0 o slot slot (Constant n)) (op.Binary o r r (operand.Constant n))

abbrev pub each_direct : (BinaryOp → Sample) → List Sample
each_direct f =
    f binary.Add ∷ f binary.Subtract ∷ f binary.And ∷ f binary.Or ∷ f binary.Xor ∷ f binary.ShiftLeft ∷ f binary.ShiftRight
    ∷ f binary.ShiftRightSigned ∷ f binary.Equal ∷ f binary.NotEqual ∷ f binary.Less ∷ f binary.LessSigned ∷ f binary.LessOrEqual
    ∷ f binary.LessOrEqualSigned ∷ f binary.LeftmostBit ∷ []

abbrev pub other_samples : List Sample
other_samples =
    of (constant_code 0 slot 65536) (op.Constant r 65536)
    ∷ of (one_code 0 copy_work slot slot) (op.Copy r r)
    ∷ of (one_code 0 (unary_work unary.Negate) slot slot) (op.Unary unary.Negate r r)
    ∷ of (one_code 0 (unary_work unary.Complement) slot slot) (op.Unary unary.Complement r r)
    ∷ of (one_code 0 (unary_work unary.Not) slot slot) (op.Unary unary.Not r r)
    ∷ of (one_code 0 (widen_work B2) slot half_slot) (op.Widen r r) ∷ []

abbrev pub is_small : Sample → Bool
is_small s = nat_le s.words s.most
