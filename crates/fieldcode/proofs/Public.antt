-- The laws of operations on values.
use Rattle.std.proofs.Common.{◌≡◌, ℕ, ◌+◌, ◌^◌, ◌<◌, List, refl, arith, IsTrue, lit<}
use Rattle.std.specs.List.{list_all}
use Rattle.prunum.specs.Number.{bit_count, sext, wrap_signed}
use Rattle.prunum.specs.Width.{byte_count}
use Rattle.prunum.specs.declared.width.Width.{Width}
use Rattle.prunum.specs.declared.width.Width.TheVariants.{B1, B2, B4}
use Rattle.midcode.specs.declared.op.UnaryOp.{UnaryOp}
use Rattle.midcode.specs.Value.{unary_value, binary_value}
use Rattle.fieldcode.specs.Works.{unary_work, copy_work, widen_work}
use Rattle.fieldcode.specs.Values.{one_code, two_code, constant_code}
use Rattle.fieldcode.specs.Laws.{OneLaw, WidenLaw, ConstantLaw, TwoLaw, with_slot, with_number, each_direct, other_samples, is_small}
use Rattle.fieldcode.proofs.Ones.{IsNarrow}
use Rattle.fieldcode.proofs.Ops.{unary_puts, copy_puts, widen_puts, constant_puts}
use Rattle.fieldcode.proofs.TwoOps.{two_puts}
use Rattle.fieldcode.proofs.Standing.{performs}

pub unary_law : (o : UnaryOp) → OneLaw (unary_work o) (unary_value o)
unary_law o slots spills to from registers ram x core to_lives lives holds =
    performs slots to (unary_value o x) (one_code slots (unary_work o) to from) registers ram
    (unary_puts slots spills to from registers ram core to_lives lives x holds o)

pub copy_law : OneLaw copy_work (λ x. x)
copy_law slots spills to from registers ram x core to_lives lives holds =
    performs slots to x (one_code slots copy_work to from) registers ram
    (copy_puts slots spills to from registers ram core to_lives lives x holds)

narrow_of : (w : Width) (x : ℕ) → byte_count w < 4 → x < 2 ^ bit_count w → IsNarrow w x
narrow_of B1 x less fits = fits
narrow_of B2 x less fits = fits
narrow_of B4 x less fits = absurd (omega arith)

pub widen_law : WidenLaw
widen_law slots spills to from registers ram x core to_lives lives holds less =
    performs slots to (wrap_signed B4 (sext from.width x)) (one_code slots (widen_work from.width) to from) registers ram
    (widen_puts slots spills to from registers ram core to_lives lives x holds from.width (narrow_of from.width x less holds.fits))

pub constant_law : ConstantLaw
constant_law slots spills to registers ram n core lives fits =
    performs slots to n (constant_code slots to n) registers ram (constant_puts slots spills to n registers ram core lives fits)

pub two_law : TwoLaw
two_law o slots spills to left right registers ram x y direct core to_lives lives right_lives holds right_holds =
    performs slots to (binary_value o x y) (two_code slots o to left right) registers ram
    (two_puts slots spills o to left registers ram core direct to_lives lives x holds right y right_lives right_holds)

pub slots_small : IsTrue (list_all is_small (each_direct with_slot))
slots_small = refl

pub numbers_small : IsTrue (list_all is_small (each_direct (λ o. with_number o 200)))
numbers_small = refl

pub large_small : IsTrue (list_all is_small (each_direct (λ o. with_number o 70000)))
large_small = refl

pub others_small : IsTrue (list_all is_small other_samples)
others_small = refl

pub ruleset word_rules = (slots_small, numbers_small, large_small, others_small)
