use Rattle.std.proofs.Common.{subst}
use Rattle.prucc.specs.Job.{texts}
use Rattle.prucc.specs.Answers.{Fails}
use Rattle.prucc.proofs.WholeJob.{only_words}
use Rattle.prucc.proofs.top.prucc.Goals as goal

pub returns-in-Err-clause-no_job : goal.returns-in-Err-clause-no_job
returns-in-Err-clause-no_job g c = λ none.
    only_words (texts c.args.words.now) (g.F.Files.told c.args.files.now) (g.F.Files.told c.do_words.new.files)
    (g.F.Files.faults c.args.files.now) (g.F.Files.faults c.do_words.new.files)
    (g.S.Sink.told c.args.out.now) (g.S.Sink.told c.do_words.new.out) (g.S.Sink.faults c.args.out.now)
    (g.S.Sink.faults c.do_words.new.out) c.in-Err.status none c.in-Err.ensures.err

pub returns-in-Ok-clause-no_job : goal.returns-in-Ok-clause-no_job
returns-in-Ok-clause-no_job g c = λ none. absurd (none c.in-Ok.ensures.ok.made.job c.in-Ok.ensures.ok.made.given.asks)

pub returns-in-Err-clause-write : goal.returns-in-Err-clause-write
returns-in-Err-clause-write g c = λ name is.
    subst (Fails (texts c.args.words.now) (g.F.Files.told c.args.files.now) (g.F.Files.told c.do_words.new.files)
    (g.F.Files.faults c.args.files.now) (g.F.Files.faults c.do_words.new.files)
    (g.S.Sink.told c.args.out.now) (g.S.Sink.told c.do_words.new.out) (g.S.Sink.faults c.args.out.now)
    (g.S.Sink.faults c.do_words.new.out)) is c.in-Err.ensures.err

pub returns-in-Err-clause-memory : goal.returns-in-Err-clause-memory
returns-in-Err-clause-memory g c = λ is.
    (subst (Fails (texts c.args.words.now) (g.F.Files.told c.args.files.now) (g.F.Files.told c.do_words.new.files)
    (g.F.Files.faults c.args.files.now) (g.F.Files.faults c.do_words.new.files)
    (g.S.Sink.told c.args.out.now) (g.S.Sink.told c.do_words.new.out) (g.S.Sink.faults c.args.out.now)
    (g.S.Sink.faults c.do_words.new.out)) is c.in-Err.ensures.err).0
