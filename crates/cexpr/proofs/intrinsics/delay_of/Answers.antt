use Rattle.std.proofs.Common.{refl, ap, sym, ◌∙◌}
use Rattle.cexpr.specs.Intrinsic.{delay_of}
use Rattle.cexpr.proofs.Delays.{delay_of_is}
use Rattle.cexpr.proofs.intrinsics.delay_of.Goals as goal

pub returns-then-cycles-le1000000 : goal.returns-then-cycles-le1000000
returns-then-cycles-le1000000 c = delay_of_is c.in-Some.cycles _ refl ∙ ap delay_of (sym c.in-Some.is)
