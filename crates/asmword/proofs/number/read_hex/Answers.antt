use Rattle.std.proofs.Common.{get_or}
use Rattle.asmword.proofs.HexLaws.{digits_step, value_step, digit_of}
use Rattle.asmword.proofs.number.read_hex.Goals as goal

pub loop-digit-preserved : goal.loop-digit-preserved
loop-digit-preserved c =
    let l = c.loop-digit in
    let one = digit_of (get_or c.args.digits.now l.digit-index 0) c.in_ok-hex_digit.field-0 c.in_ok-hex_digit.ensures in
    record {
      digits = digits_step c.args.digits.now l.digit-index c.loop-digit-test.true l.invariant.digits one.0;
      value = value_step c.args.digits.now l.digit-index l.value c.in_ok-hex_digit.field-0 c.capped-value.result
          c.loop-digit-test.true l.invariant.value one.1 c.capped-value.ensures;
    }
