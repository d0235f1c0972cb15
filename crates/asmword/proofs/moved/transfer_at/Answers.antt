-- A transfer's numbers tell it.
use Rattle.std.proofs.Common.{refl, rules}
use Rattle.isa.proofs.Ranged.{transfer_found}
use Rattle.asmword.proofs.moved.transfer_at.Goals as goal

pub returns-then-is_transfer-clause-value : goal.returns-then-is_transfer-clause-value
returns-then-is_transfer-clause-value c = transfer_found _ c.args.device c.args.first c.args.count (search rules) refl refl
