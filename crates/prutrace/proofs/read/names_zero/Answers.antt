use Rattle.std.proofs.Common.{codes}
use Rattle.prutrace.specs.Reading.{head}
use Rattle.prutrace.proofs.FileLaws.{head_zero, named}
use Rattle.prutrace.proofs.read.names_zero.Goals as goal

pub returns : goal.returns
returns c = named c.eq.result c.args.line.now c.as_slice.result.now (codes "core 0") (head 0) c.eq.ensures c.as_slice.ensures head_zero
