-- Those that are judged whole are whole.
use Rattle.isa.proofs.Wholeness.{judged_result}
use Rattle.isa.proofs.whole.is_whole.Goals as goal

pub returns : goal.returns
returns c = judged_result c.judge.result c.args.items.now c.judge.ensures
