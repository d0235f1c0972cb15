use Rattle.std.proofs.Common.{◌∙◌, Option, ap}
use Rattle.cprogram.specs.declared.scalar.Conversion.{Conversion}
use Rattle.cexpr.specs.Assign.{implied_from}
use Rattle.cexpr.specs.Pair.{unified, unify}
use Rattle.cexpr.proofs.pair.unify.Goals as goal

pub returns : goal.returns
unfolding unify
returns g c =
    c.unified.ensures
    ∙ (ap (λ (l : Option Conversion). unified c.args.a c.args.b l c.implied_from-right.result) c.implied_from-left.ensures
    ∙ ap (λ (r : Option Conversion). unified c.args.a c.args.b (implied_from c.args.a c.args.b.ctype) r) c.implied_from-right.ensures)
