use Rattle.std.proofs.Common.{refl, arith}
use Rattle.csize.proofs.Sizes.{element_at_is}
use Rattle.csize.proofs.size.element_at.Goals as goal

pub returns-then-leaves-size : goal.returns-then-leaves-size
returns-then-leaves-size c = element_at_is c.args.leaves c.args.size _ refl refl (omega arith)
