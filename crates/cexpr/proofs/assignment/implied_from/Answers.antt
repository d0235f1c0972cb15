use Rattle.std.proofs.Common.{◌∙◌, Bool, ap}
use Rattle.ctypes.specs.Convert.{implied}
use Rattle.cexpr.specs.Assign.{implied_from}
use Rattle.cexpr.proofs.assignment.implied_from.Goals as goal

pub returns : goal.returns
unfolding implied_from
returns g c = c.implied.ensures ∙ ap (λ (z : Bool). implied z c.args.value.now.ctype c.args.to.now) c.is_zero.ensures
