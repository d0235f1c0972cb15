use Rattle.std.proofs.Common.{sym}
use Rattle.textline.proofs.DecimalLaws.{digits_step, value_step}
use Rattle.textline.proofs.number.value_of_digits.Goals as goal

pub loop-digit-preserved : goal.loop-digit-preserved
loop-digit-preserved c =
    let l = c.loop-digit in
    let one = sym c.if-not-is_ascii_digit.ensures.value in
    let word = c.args.digits.now in
    record {
      digits = digits_step word l.digit-index c.loop-digit-test.true l.invariant.digits one;
      value = value_step word l.digit-index l.value c.saturating_mul.result c.from.result c.saturating_add-value.result
          c.loop-digit-test.true l.invariant.value one c.saturating_mul.ensures c.from.ensures c.saturating_add-value.ensures;
    }
