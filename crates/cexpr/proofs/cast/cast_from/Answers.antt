use Rattle.std.proofs.Common.{◌∙◌, Bool, ap}
use Rattle.ctypes.specs.Convert.{cast}
use Rattle.cexpr.specs.Cast.{cast_from}
use Rattle.cexpr.proofs.cast.cast_from.Goals as goal

pub returns : goal.returns
unfolding cast_from
returns g c = c.cast.ensures ∙ ap (λ (z : Bool). cast z c.args.item.now.ctype c.args.ctype.now) c.is_zero.ensures
