use Rattle.std.proofs.Common.{◌≡◌, ℕ, List, Option, Some, subst}
use Rattle.std.specs.Prelude.{MatchOption}
use Rattle.std.proofs.lemmas.Result.{err_from_is_err_and}
use Rattle.std.specs.String.{string_bytes}
use Rattle.fileset.specs.Told.{Held, Tells}
use Rattle.modefiles.specs.Writing.{named}
use Rattle.modefiles.specs.declared.input.Input.{Input}
use Rattle.modefiles.specs.Reading.{AreWithin, InputFails, bytes_of, contents}
use Rattle.prucc.specs.declared.job.Job.{Job}
use Rattle.prucc.specs.Job.{Asks, inputs, texts}
use Rattle.prucc.specs.Answers.{IsGiven, Makes, Refuses}
use Rattle.prucc.proofs.WholeJob.{unread_fails, refused}
use Rattle.prucc.proofs.top.plan.Goals as goal

asks_it : (words : List (List ℕ)) (o : Option Job) (job : Job) → o ≡ Some job
    → MatchOption o ((job : Job) → Asks words job → ⊥) (λ job. Asks words job) → Asks words job
asks_it words o job is h =
    subst (λ (o : Option Job). MatchOption o ((job : Job) → Asks words job → ⊥) (λ job. Asks words job)) is h

is_given : (words : List (List ℕ)) (held now : Option Held) (job : Job) (given : List Input) (read : List (List ℕ)) → Asks words job
    → given ≡ inputs job → AreWithin given read → Tells held now (λ before _. read ≡ contents before given)
    → IsGiven words held now job read
is_given words held now job given read asks is within told = record {
  asks = asks;
  within = subst (λ (list : List Input). AreWithin list read) is within;
  read = subst (λ (list : List Input). Tells held now (λ before _. read ≡ contents before list)) is told;
}

pub returns-in_err-texts-clause-err : goal.returns-in_err-texts-clause-err
returns-in_err-texts-clause-err g c =
    let p = err_from_is_err_and c.from_residual-in_err-texts.result c.from_residual-in_err-texts.ensures.1 in
    let asks = asks_it (texts c.args.words.now) c.in_ok-job.field-0 c.in-Some.job c.in-Some.is c.in_ok-job.ensures in
    rw (p.1, p.2) (unread_fails (texts c.args.words.now) c.in-Some.job (g.F.Files.told c.args.files.now)
    (g.F.Files.told c.read_all.new.files) (g.F.Files.faults c.args.files.now) (g.F.Files.faults c.read_all.new.files)
    c.in_err-texts.field-0.0 asks
    (subst (λ (list : List Input). InputFails list (g.F.Files.told c.args.files.now) (g.F.Files.told c.read_all.new.files)
    (g.F.Files.faults c.args.files.now) (g.F.Files.faults c.read_all.new.files) c.in_err-texts.field-0.0) c.in_ok-inputs.ensures
    (subst (λ (list : List Input). InputFails list (g.F.Files.told c.args.files.now) (g.F.Files.told c.read_all.new.files)
    (g.F.Files.faults c.args.files.now) (g.F.Files.faults c.read_all.new.files) c.in_err-texts.field-0.0) c.deref.ensures.value
    c.in_err-texts.ensures.err)))

pub returns-in_err-work_of-clause-err : goal.returns-in_err-work_of-clause-err
returns-in_err-work_of-clause-err g c =
    let p = err_from_is_err_and c.from_residual-in_err-work_of.result c.from_residual-in_err-work_of.ensures.1 in
    let words = texts c.args.words.now in
    let job = c.in-Some.job in
    let held = g.F.Files.told c.args.files.now in
    let now = g.F.Files.told c.read_all.new.files in
    let read = bytes_of c.in_ok-texts.texts.items in
    let asks = asks_it words c.in_ok-job.field-0 job c.in-Some.is c.in_ok-job.ensures in
    let within = subst (λ (list : List Input). AreWithin list read) c.deref.ensures.value c.in_ok-texts.ensures.within in
    let told = subst (λ (list : List Input). Tells held now (λ before _. read ≡ contents before list)) c.deref.ensures.value
    c.in_ok-texts.ensures.bytes in
    let given = is_given words held now job c.in_ok-inputs.inputs.items read asks c.in_ok-inputs.ensures within told in
    rw (p.1, p.2) (refused words job read held now (g.F.Files.faults c.args.files.now) (g.F.Files.faults c.read_all.new.files)
    c.in_err-work_of.field-0.0 given
    (subst (λ ts. Refuses job (bytes_of ts) c.in_err-work_of.field-0.0) c.deref-2.ensures.value c.in_err-work_of.ensures.refuses))

pub returns-clause-work : goal.returns-clause-work
returns-clause-work g c =
    let words = texts c.args.words.now in
    let job = c.in-Some.job in
    let held = g.F.Files.told c.args.files.now in
    let now = g.F.Files.told c.read_all.new.files in
    let read = bytes_of c.in_ok-texts.texts.items in
    let work = c.in_ok-work_of.field-0 in
    let asks = asks_it words c.in_ok-job.field-0 job c.in-Some.is c.in_ok-job.ensures in
    let within = subst (λ (list : List Input). AreWithin list read) c.deref.ensures.value c.in_ok-texts.ensures.within in
    let told = subst (λ (list : List Input). Tells held now (λ before _. read ≡ contents before list)) c.deref.ensures.value
    c.in_ok-texts.ensures.bytes in
    record {
      made = record {
        job = job;
        texts = read;
        given = is_given words held now job c.in_ok-inputs.inputs.items read asks c.in_ok-inputs.ensures within told;
        makes = subst (λ ts. Makes job (bytes_of ts) (named work.outputs.items) (string_bytes work.lines)) c.deref-2.ensures.value
            c.in_ok-work_of.ensures.makes;
      };
      same = c.in_ok-texts.ensures.same;
    }
