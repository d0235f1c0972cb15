use Rattle.prucc.proofs.SourceParts.{not_built_fails}
use Rattle.prucc.proofs.sources.source_writes.Goals as goal

pub returns-in-Err-NotBuilt-clause-err : goal.returns-in-Err-NotBuilt-clause-err
returns-in-Err-NotBuilt-clause-err c =
    not_built_fails c.args.core c.args.name.now c.args.source.now c.in-Err-NotBuilt.span c.not_built.result
    (rw c.in-Err-NotBuilt.field-0-is at c.in-Err-NotBuilt.ensures.err) c.not_built.ensures
