-- The quotient and what it leaves over belong together.
use Rattle.std.proofs.Common.{rules, arith}
use Rattle.prunum.specs.Number.{quot_s}
use Rattle.prunum.proofs.Signed.{quotient_at}
use Rattle.prunum.proofs.number.quot_s.Goals as goal

pub returns-clause-cut : goal.returns-clause-cut
unfolding quot_s
returns-clause-cut c = quotient_at c.args.a c.args.b _ (search rules) (omega arith)
