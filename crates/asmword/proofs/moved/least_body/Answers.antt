-- A body's numbers tell it.
use Rattle.std.proofs.Common.{refl, arith, sym, ◌-◌}
use Rattle.isa.proofs.Ranged.{body_found}
use Rattle.asmword.proofs.moved.least_body.Goals as goal

pub returns-clause-value : goal.returns-clause-value
returns-clause-value c = sym (body_found _ (c.args.count - 1) 1 (omega arith) refl)
