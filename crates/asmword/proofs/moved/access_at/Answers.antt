-- An access's numbers tell it.
use Rattle.std.proofs.Common.{refl}
use Rattle.asmword.proofs.Found.{access_found}
use Rattle.asmword.proofs.moved.access_at.Goals as goal

pub returns-then-is_access-clause-value : goal.returns-then-is_access-clause-value
returns-then-is_access-clause-value c =
    access_found _ c.args.first c.args.byte c.args.len c.args.base c.args.offset refl refl refl refl refl
