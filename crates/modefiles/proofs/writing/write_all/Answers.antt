use Rattle.std.proofs.Common.{List, subst}
use Rattle.std.specs.Prelude.{IfErr}
use Rattle.modefiles.specs.declared.output.Output.{Output}
use Rattle.modefiles.specs.Writing.{OutputFails, named}
use Rattle.modefiles.proofs.writing.write_all.Goals as goal

pub returns-clause-err : goal.returns-clause-err
returns-clause-err g c = subst (λ (outputs : List Output). IfErr c.write_rest.result (OutputFails (named outputs)
    (g.F.Files.told c.args.files.now) (g.F.Files.told c.write_rest.new.files)
    (g.F.Files.faults c.args.files.now) (g.F.Files.faults c.write_rest.new.files))) c.into_iter-rest.ensures.rest c.write_rest.ensures.err
