use Rattle.midopt.proofs.Relation.{function-more}
use Rattle.midfold.proofs.whole.tidy_function.Goals as goal

pub returns-clause-better : goal.returns-clause-better
returns-clause-better c = function-more c.args.f.now c.fold.new.f c.take_unread.new.f c.fold.ensures.better c.take_unread.ensures.better
