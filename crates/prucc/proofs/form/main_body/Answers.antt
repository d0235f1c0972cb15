use Rattle.std.proofs.Common.{Option, Some, sym, ap, subst, ◌∙◌}
use Rattle.csyn.specs.declared.span.Span.{Span}
use Rattle.csyn.specs.declared.unit.Unit as unit
use Rattle.prucc.specs.Form.{IsMain, units_departure}
use Rattle.prucc.proofs.TreeForm.{other_unit}
use Rattle.prucc.proofs.form.main_body.Goals as goal

abbrev begin_of : unit.Unit → Option Span
begin_of u = Some u.mark.span

pub returns-in_default-main_of-clause-err : goal.returns-in_default-main_of-clause-err
returns-in_default-main_of-clause-err c =
    ap (units_departure c.args.end) c.in-More.is
    ∙ other_unit c.args.end c.in-More.unit _ c.in-More.rest.value
    (λ body h. c.in_default-main_of.ensures body (subst (λ (u : unit.Unit). IsMain u.kind body) (sym c.deref.ensures) h))
    ∙ ap begin_of (sym c.deref-in_default-main_of.ensures)
