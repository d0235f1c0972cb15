-- What is read of a line is what the line tells.
use Rattle.prutrace.proofs.EventLaws.{told_fits, told_text, told_only}
use Rattle.prutrace.proofs.line.read_event.Goals as goal

pub returns-clause-found : goal.returns-clause-found
returns-clause-found c = told_fits c.args.line.now c.told_event.result c.told_event.ensures

pub returns-clause-text : goal.returns-clause-text
returns-clause-text c = told_text c.args.line.now c.told_event.result c.told_event.ensures

pub returns-clause-only : goal.returns-clause-only
returns-clause-only c = told_only c.args.line.now c.told_event.result c.told_event.ensures
