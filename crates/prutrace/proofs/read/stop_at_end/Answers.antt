-- Something without its end is left.
use Rattle.prutrace.proofs.Cuts.{untrue}
use Rattle.prutrace.proofs.FileLaws.{ends}
use Rattle.prutrace.proofs.read.stop_at_end.Goals as goal

pub returns-else-is_end : goal.returns-else-is_end
returns-else-is_end c = ends c.args.lines.now.text c.requires (untrue c.is_end.result c.if-is_end.false c.is_end.ensures.1)
