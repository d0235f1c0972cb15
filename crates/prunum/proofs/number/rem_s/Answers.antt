-- The quotient and what it leaves over belong together.
use Rattle.std.proofs.Common.{rules, arith}
use Rattle.prunum.specs.Number.{rem_s}
use Rattle.prunum.proofs.Signed.{rest_at}
use Rattle.prunum.proofs.number.rem_s.Goals as goal

pub returns-clause-cut : goal.returns-clause-cut
unfolding rem_s
returns-clause-cut c = rest_at c.args.a c.args.b _ (search rules) (omega arith)
