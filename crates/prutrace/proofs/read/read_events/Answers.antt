-- What is a file is read.
use Rattle.prutrace.proofs.FileLaws.{file_gives}
use Rattle.prutrace.proofs.read.read_events.Goals as goal

pub returns-clause-only : goal.returns-clause-only
returns-clause-only c = file_gives (λ v. v.items) c.args.bytes.now c.args.core c.read_core.result c.read_core.ensures.found
    c.read_core.ensures.fault
