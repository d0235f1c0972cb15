use Rattle.twocore.proofs.StampLemmas.{stamps_ascend}
use Rattle.twocore.proofs.laws.stamp_laws.Goals as goal

pub returns : goal.returns
returns c = stamps_ascend
