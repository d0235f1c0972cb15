-- The access's numbers are those of the word.
use Rattle.std.proofs.Common.{refl, rules, arith}
use Rattle.isa.proofs.Ranged.{access_found, access_refused}
use Rattle.isa.proofs.decoding.access_from.Goals as goal

pub returns-then-is_access-clause-value : goal.returns-then-is_access-clause-value
returns-then-is_access-clause-value c = access_found _ c.args.r (search rules) (search rules) (search rules)

pub returns-else-is_access-clause-value : goal.returns-else-is_access-clause-value
returns-else-is_access-clause-value c =
    access_refused c.args.r c.args.base c.args.offset _ _ _ c.is_access.result c.is_access.ensures c.if-is_access.false refl refl
    (omega arith)
