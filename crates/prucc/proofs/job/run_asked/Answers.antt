use Rattle.std.proofs.Common.{rules, [], map, subst}
use Rattle.cmdwords.specs.Given.{said}
use Rattle.cmdwords.specs.Modes.{run_form}
use Rattle.prucc.specs.Job.{texts, values_of}
use Rattle.prucc.proofs.JobWords.{IsRead, AreCores, run_ended}
use Rattle.prucc.proofs.job.run_asked.Goals as goal

pub returns-in_default : goal.returns-in_default
returns-in_default c = λ r asks.
    let words = texts c.args.words.now in
    let never = subst (IsRead run_form words) c.in_default.is
    (subst (λ f. IsRead f words c.in_ok-given.field-0) c.form.ensures c.in_ok-given.ensures) in
    never (record { values = values_of r; options = [] }) asks

pub returns : goal.returns
returns c =
    let words = texts c.args.words.now in
    let given = subst (IsRead run_form words) c.in-Some.is
    (subst (λ f. IsRead f words c.in_ok-given.field-0) c.form.ensures c.in_ok-given.ensures) in
    let values = map said c.in-Some.given.values.items in
    let cores : AreCores values c.in_ok-cores.cores = search rules in
    run_ended words values _ given c.in_ok-cores.cores cores
