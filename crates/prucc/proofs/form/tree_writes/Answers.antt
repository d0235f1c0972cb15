use Rattle.std.proofs.Common.{subst}
use Rattle.std.proofs.lemmas.Result.{IfErr-weaker}
use Rattle.csyn.specs.declared.span.Span.{Span}
use Rattle.csyn.specs.declared.unit.Units.{Units}
use Rattle.prucc.specs.Form.{IsMainAlone}
use Rattle.prucc.specs.SourceAnswer.{BodyFails, FormFails}
use Rattle.prucc.proofs.TreeForm.{form_fails}
use Rattle.prucc.proofs.form.tree_writes.Goals as goal

pub returns-in-Ok-clause-err : goal.returns-in-Ok-clause-err
returns-in-Ok-clause-err c =
    let main : IsMainAlone c.args.tree.now.units c.in-Ok.body.now =
    subst (λ (all : Units). IsMainAlone all c.in-Ok.body.now) c.units.ensures.value c.in-Ok.ensures.main in
    IfErr-weaker c.body_writes.result _ (FormFails c.args.tree.now)
    (λ fault h. form_fails c.args.tree.now c.in-Ok.body.now fault main
    (subst (λ (end : Span). BodyFails end c.in-Ok.body.now fault) c.end-end.ensures h)) c.body_writes.ensures.err
