use Rattle.midopt.proofs.Relation.{function-more}
use Rattle.midfold.proofs.unread.take_unread.Goals as goal

pub returns-clause-better : goal.returns-clause-better
returns-clause-better c = function-more c.args.f.now c.drain.new.f c.remove_idle.new.f c.drain.ensures.better c.remove_idle.ensures.better
