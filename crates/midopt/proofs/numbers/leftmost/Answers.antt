use Rattle.std.proofs.Common.{arith}
use Rattle.std.proofs.lemmas.Bool.Decides.{nat_tests}
use Rattle.midopt.proofs.Search.{none-left, more-left}
use Rattle.midopt.proofs.numbers.leftmost.Goals as goal

pub returns-then-bit-wanted : goal.returns-then-bit-wanted
returns-then-bit-wanted c = grind (arith, nat_tests, more-left c.args.a c.args.wanted c.loop-n.n)

pub loop-n-preserved : goal.loop-n-preserved
loop-n-preserved c = grind (arith, nat_tests, more-left c.args.a c.args.wanted c.loop-n.n)

pub returns : goal.returns
returns c = grind (arith, none-left c.args.a c.args.wanted)
