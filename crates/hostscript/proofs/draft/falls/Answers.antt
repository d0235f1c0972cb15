use Rattle.hostscript.proofs.OrderLaws.{falls_or_rises}
use Rattle.hostscript.proofs.draft.falls.Goals as goal

pub returns-in-Some : goal.returns-in-Some
returns-in-Some c = let item = c.in-Some.ensures.item in falls_or_rises c.args.acts.now c.in-Some.last.now c.args.act.now item.3.0 item.1
