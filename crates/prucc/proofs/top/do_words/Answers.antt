use Rattle.std.proofs.lemmas.Result.{err_from_is_err_and}
use Rattle.prucc.specs.Job.{texts}
use Rattle.prucc.proofs.WholeJob.{write_fails, put_fails, finishes}
use Rattle.prucc.proofs.top.do_words.Goals as goal

pub returns-in_err-write_all-clause-err : goal.returns-in_err-write_all-clause-err
returns-in_err-write_all-clause-err g c =
    let p = err_from_is_err_and c.from_residual-in_err-write_all.result c.from_residual-in_err-write_all.ensures.1 in
    rw (p.1, p.2) (write_fails (texts c.args.words.now) c.in_ok-outputs.field-0
    (g.F.Files.told c.args.files.now) (g.F.Files.told c.plan.new.files) (g.F.Files.told c.write_all.new.files)
    (g.F.Files.faults c.args.files.now) (g.F.Files.faults c.plan.new.files) (g.F.Files.faults c.write_all.new.files)
    (g.S.Sink.told c.args.out.now) (g.S.Sink.faults c.args.out.now) c.in_err-write_all.field-0.0
    c.in_ok-outputs.ensures.work c.in_ok-outputs.ensures.grows c.in_err-write_all.ensures.err)

pub returns-in_err-put_lines-clause-err : goal.returns-in_err-put_lines-clause-err
returns-in_err-put_lines-clause-err g c =
    let p = err_from_is_err_and c.from_residual-in_err-put_lines.result c.from_residual-in_err-put_lines.ensures.1 in
    rw (p.1, p.2) (put_fails (texts c.args.words.now) c.in_ok-outputs.field-0 c.as_bytes.result.now
    (g.F.Files.told c.args.files.now) (g.F.Files.told c.plan.new.files) (g.F.Files.told c.write_all.new.files)
    (g.F.Files.faults c.args.files.now) (g.F.Files.faults c.write_all.new.files)
    (g.S.Sink.told c.args.out.now) (g.S.Sink.told c.put_lines.new.out) (g.S.Sink.faults c.args.out.now) (g.S.Sink.faults c.put_lines.new.out)
    c.in_err-put_lines.field-0.0
    c.in_ok-outputs.ensures.work c.as_bytes.ensures.value c.in_ok-write_all.ensures.ok c.in_err-put_lines.ensures.err)

pub returns-clause-ok : goal.returns-clause-ok
returns-clause-ok g c = finishes (texts c.args.words.now) c.in_ok-outputs.field-0 c.as_bytes.result.now
    (g.F.Files.told c.args.files.now) (g.F.Files.told c.plan.new.files) (g.F.Files.told c.write_all.new.files)
    (g.S.Sink.told c.args.out.now) (g.S.Sink.told c.put_lines.new.out)
    c.in_ok-outputs.ensures.work c.as_bytes.ensures.value c.in_ok-write_all.ensures.ok c.in_ok-put_lines.ensures.ok
