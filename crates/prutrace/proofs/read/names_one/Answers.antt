use Rattle.std.proofs.Common.{codes}
use Rattle.prutrace.specs.Reading.{head}
use Rattle.prutrace.proofs.FileLaws.{head_one, named}
use Rattle.prutrace.proofs.read.names_one.Goals as goal

pub returns : goal.returns
returns c = named c.eq.result c.args.line.now c.as_slice.result.now (codes "core 1") (head 1) c.eq.ensures c.as_slice.ensures head_one
