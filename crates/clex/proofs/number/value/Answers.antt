use Rattle.std.proofs.Common.{◌+◌, ◌*◌, cond, leb, Some, None, sym, ap, ◌∙◌, arith}
use Rattle.std.specs.Str.Parse.{digits_value}
use Rattle.clex.specs.Numbers.{most}
use Rattle.clex.proofs.Numbers.{too_large}
use Rattle.clex.proofs.number.value.Goals as goal

pub returns-in_err-value : goal.returns-in_err-value
returns-in_err-value c =
    let total = digits_value c.args.radix c.args.digits.now in
    c.from_residual.ensures ∙ sym (ap (λ b. cond b (Some total) None)
    (too_large c.args.radix c.loop-rest.value c.loop-rest.rest.now total c.with_digit.result c.requires
    (omega (arith, c.in-len1-up.len_at_least)) (c.with_digit.ensures
    ∙ ap (λ d. cond (leb (c.loop-rest.value * c.args.radix + d) most) (Some (c.loop-rest.value * c.args.radix + d)) None)
    c.digit_value.ensures) c.in_err-value.was c.loop-rest.invariant.1))
