use Rattle.std.proofs.Common.{◌%◌, arith}
use Rattle.std.proofs.lemmas.Bool.Decides.{nat_tests}
use Rattle.corestep.proofs.BitSearch.{below_none, below_more}
use Rattle.corestep.proofs.compute.leftmost.Goals as goal

pub returns-then-bit-b : goal.returns-then-bit-b
returns-then-bit-b c = grind (arith, nat_tests, below_more c.args.a (c.args.b % 2) c.loop-n.n)

pub loop-n-preserved : goal.loop-n-preserved
loop-n-preserved c = grind (arith, nat_tests, below_more c.args.a (c.args.b % 2) c.loop-n.n)

pub returns : goal.returns
returns c = grind (arith, below_none c.args.a (c.args.b % 2))
