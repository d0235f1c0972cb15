-- The line is missing, or another one.
use Rattle.prutrace.proofs.Cuts.{untrue}
use Rattle.prutrace.proofs.FileLaws.{no_line, no_head}
use Rattle.prutrace.proofs.read.read_head.Goals as goal

pub returns-in_default-clause-fault : goal.returns-in_default-clause-fault
returns-in_default-clause-fault c = (c.number-number.ensures, no_line c.args.lines.now.text c.in_default.ensures.none.0)

pub returns-else-names_zero-clause-fault : goal.returns-else-names_zero-clause-fault
returns-else-names_zero-clause-fault c = (
  c.number-number.ensures,
  no_head c.args.lines.now.text c.in-Some.line.now c.next_whole.new.self.text c.in-Some.ensures.some.0 c.in-Some.ensures.some.1
      (untrue c.names_zero.result c.if-names_zero.false c.names_zero.ensures.1),
)
