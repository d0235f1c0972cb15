use Rattle.std.proofs.Common.{arith, get_or}
use Rattle.textline.proofs.HexLaws.{digit_of, digits_step, value_step, small_step, room}
use Rattle.textline.proofs.number.hex_value.Goals as goal

pub overflow_mul-value : goal.overflow_mul-value
overflow_mul-value c = omega (arith, room c.loop-byte.byte-index c.loop-byte.value (omega arith) c.loop-byte.invariant.small)

pub overflow_add-value : goal.overflow_add-value
overflow_add-value c =
    let one = digit_of (get_or c.args.word.now c.loop-byte.byte-index 0) c.in_ok-value.field-0 c.in_ok-value.ensures in
    omega (arith, one.2, room c.loop-byte.byte-index c.loop-byte.value (omega arith) c.loop-byte.invariant.small)

pub loop-byte-preserved : goal.loop-byte-preserved
loop-byte-preserved c =
    let l = c.loop-byte in
    let one = digit_of (get_or c.args.word.now c.loop-byte.byte-index 0) c.in_ok-value.field-0 c.in_ok-value.ensures in
    record {
      digits = digits_step c.args.word.now l.byte-index c.loop-byte-test.true l.invariant.digits one.0;
      value = value_step c.args.word.now l.byte-index l.value c.in_ok-value.field-0 c.loop-byte-test.true l.invariant.value one.1;
      small = small_step l.byte-index l.value c.in_ok-value.field-0 l.invariant.small one.2;
    }
