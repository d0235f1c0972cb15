use Rattle.std.proofs.Common.{ap}
use Rattle.std.proofs.lemmas.Result.{err_from_is_err_and}
use Rattle.std.specs.Vec.Iter.{into_iter_items}
use Rattle.modefiles.specs.Writing.{named}
use Rattle.modefiles.proofs.InTurn.{write_fails}
use Rattle.modefiles.proofs.writing.+write_rest.Goals as goal

pub returns-in_err-write_output-clause-err : goal.returns-in_err-write_output-clause-err
returns-in_err-write_output-clause-err g t c =
    let p = err_from_is_err_and c.from_residual.result c.from_residual.ensures.1 in
    rw (p.1, p.2) (write_fails (c.in-Some.output.name, c.in-Some.output.bytes.items) (named (into_iter_items c.args.outputs.now))
    (named (into_iter_items c.next.new.self)) (g.F.Files.told c.args.files.now) (g.F.Files.told c.write_output.new.files)
    (g.F.Files.faults c.args.files.now) (g.F.Files.faults c.write_output.new.files) c.in_err-write_output.field-0.0
    (ap named c.in-Some.ensures.cases.0) c.in_err-write_output.ensures.err)
