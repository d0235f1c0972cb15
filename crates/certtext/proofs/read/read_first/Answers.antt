-- The line names no edition.
use Rattle.std.proofs.Common.{None, refl}
use Rattle.certtext.proofs.FileLaws.{no_first_line, other_first_line, nothing_named}
use Rattle.certtext.proofs.read.read_first.Goals as goal

pub returns-in_default-clause-fault : goal.returns-in_default-clause-fault
returns-in_default-clause-fault c = (c.number-number.ensures, no_first_line c.args.lines.now.text c.in_default.ensures.none.0)

pub returns-in_default-read_edition-clause-fault : goal.returns-in_default-read_edition-clause-fault
returns-in_default-read_edition-clause-fault c = (
  c.number-number.ensures,
  other_first_line c.args.lines.now.text c.in-Some.line.now c.next_whole.new.self.text c.in-Some.ensures.some.0 c.in-Some.ensures.some.1
      (nothing_named None c.in-Some.line.now refl c.in_default-read_edition.ensures.only),
)
