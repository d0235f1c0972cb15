-- What has the word is what it is decoded as.
use Rattle.std.proofs.Common.{rules}
use Rattle.isa.specs.Decoded.{decoded}
use Rattle.isa.proofs.WholeWords.{decoded_again}
use Rattle.isa.proofs.decoding.decode.Goals as goal

pub returns-clause-again : goal.returns-clause-again
unfolding decoded
returns-clause-again c = decoded_again c.args.w _ (search rules)
