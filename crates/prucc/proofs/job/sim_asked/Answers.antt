use Rattle.std.proofs.Common.{Some, None, [], ◌∷◌, map, option_map, subst, rules}
use Rattle.cmdwords.specs.Given.{said}
use Rattle.cmdwords.specs.Modes.{sim_form}
use Rattle.prucc.specs.Job.{texts, values_of}
use Rattle.prucc.proofs.JobWords.{IsRead, AreCores, IsTableIn, sim_options, sim_values, sim_ended}
use Rattle.prucc.proofs.job.sim_asked.Goals as goal

pub returns-in_default : goal.returns-in_default
returns-in_default c = λ r t asks.
    let words = texts c.args.words.now in
    let never = subst (IsRead sim_form words) c.in_default.is
    (subst (λ f. IsRead f words c.in_ok-given.field-0) c.form.ensures c.in_ok-given.ensures) in
    never (record { values = values_of r; options = asks.0 ∷ [] }) asks.2

pub returns-in_default-table_in : goal.returns-in_default-table_in
returns-in_default-table_in c = λ r t asks.
    let words = texts c.args.words.now in
    let given = subst (IsRead sim_form words) c.in-Some.is
    (subst (λ f. IsRead f words c.in_ok-given.field-0) c.form.ensures c.in_ok-given.ensures) in
    let none = subst (IsTableIn (map (option_map (λ text. text.now)) c.as_slice.result.now)) c.in_default-table_in.is c.table_in.ensures in
    let never : IsTableIn (map (option_map (λ text. text.now)) c.in-Some.given.options.items) None =
    subst (λ l. IsTableIn (map (option_map (λ text. text.now)) l) None) c.as_slice.ensures.value none in
    never asks.0 t (sim_options words _ _ given r t asks) asks.1

pub returns-in_default-2 : goal.returns-in_default-2
returns-in_default-2 c = λ r t asks.
    let words = texts c.args.words.now in
    let given = subst (IsRead sim_form words) c.in-Some.is
    (subst (λ f. IsRead f words c.in_ok-given.field-0) c.form.ensures c.in_ok-given.ensures) in
    let values = map said c.in-Some.given.values.items in
    let cores : AreCores values c.in_ok-cores.field-0 = search rules in
    let never = subst (AreCores values) c.in_default-2.is cores in
    never r (sim_values words _ _ given r t asks)

pub returns : goal.returns
returns c =
    let words = texts c.args.words.now in
    let given = subst (IsRead sim_form words) c.in-Some.is
    (subst (λ f. IsRead f words c.in_ok-given.field-0) c.form.ensures c.in_ok-given.ensures) in
    let values = map said c.in-Some.given.values.items in
    let cores : AreCores values c.in_ok-cores.field-0 = search rules in
    let are = subst (AreCores values) c.in-Some-2.is cores in
    let some = subst (IsTableIn (map (option_map (λ text. text.now)) c.as_slice.result.now)) c.in-Some-table_in.is c.table_in.ensures in
    let table : IsTableIn (map (option_map (λ text. text.now)) c.in-Some.given.options.items) (Some c.in-Some-table_in.table) =
    subst (λ l. IsTableIn (map (option_map (λ text. text.now)) l) (Some c.in-Some-table_in.table)) c.as_slice.ensures.value some in
    sim_ended words values _ table.0 c.in-Some-table_in.table given table.1 table.2 c.in-Some-2.cores are
