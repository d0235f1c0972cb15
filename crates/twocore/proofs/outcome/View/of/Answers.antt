use Rattle.std.proofs.Common.{refl}
use Rattle.twocore.proofs.outcome.View.of.Goals as goal

pub returns : goal.returns
returns c = rw (c.pc.ensures, c.is_between.ensures, c.registers.ensures) refl
