-- What the narrow types' bits mean.
use Rattle.std.proofs.Common.{rules}
use Rattle.prunum.specs.Number.{sext}
use Rattle.prunum.proofs.Signed.{IsSignedOf-at}
use Rattle.prunum.proofs.number.sext.Goals as goal

pub returns-in-B1-clause-meaning : goal.returns-in-B1-clause-meaning
unfolding sext
returns-in-B1-clause-meaning c = IsSignedOf-at c.args.w c.args.v _ (search rules)

pub returns-in-B2-clause-meaning : goal.returns-in-B2-clause-meaning
unfolding sext
returns-in-B2-clause-meaning c = IsSignedOf-at c.args.w c.args.v _ (search rules)

pub returns-in-B4-clause-meaning : goal.returns-in-B4-clause-meaning
unfolding sext
returns-in-B4-clause-meaning c = IsSignedOf-at c.args.w c.args.v _ (search rules)
