use Rattle.std.proofs.Common.{◌≡◌, Bool, true, false, length, Option, Some, None, refl, sym, ap, subst, ◌∙◌, rules}
use Rattle.std.specs.Prelude.{◌&&◌}
use Rattle.csyn.specs.declared.span.Span.{Span}
use Rattle.csyn.specs.declared.declaration.LocalObject.{LocalObject}
use Rattle.csyn.specs.declared.statement.Stmt.{Stmt}
use Rattle.csyn.specs.declared.statement.Items.{Items}
use Rattle.prucc.specs.Form.{halts, is_end}
use Rattle.prucc.proofs.TreeForm.{IsLeft, allowed_of, goes_on, ends, refused, at_object, at_end, end_of, loadable_write}
use Rattle.prucc.proofs.form.body_writes.Goals as goal
use Rattle.prucc.proofs.form.body_writes.Goals.{else-halts-via-then-halts+else-is_end, else-halts-via-else-halts}

pub returns-then-is_end-clause-writes : goal.returns-then-is_end-clause-writes
returns-then-is_end-clause-writes c =
    let left = subst (λ (l : Items). IsLeft c.args.end c.args.body.now l c.loop-left.writes.items) c.in-Statement.is
    c.loop-left.invariant in
    let halt : halts c.in-Statement.statement.value.kind ≡ true = search rules in
    let last : is_end c.in-Statement.rest.value ≡ true = search rules in
    ends c.args.end c.args.body.now _ _ c.in-Statement.statement.value.kind _ c.in-Statement.rest.value c.loop-left.writes.items
    left halt last

both_false : (a b : Bool) → b ≡ false → a && b ≡ false
both_false true b e = e
both_false false b e = refl

first_false : (a b : Bool) → a ≡ false → a && b ≡ false
first_false true b e = absurd cc
first_false false b e = refl

abbrev statement_begin : Stmt → Option Span
statement_begin s = Some s.mark.span

abbrev object_begin : LocalObject → Option Span
object_begin o = Some o.mark.span

pub returns-in_default-allowed-clause-err : goal.returns-in_default-allowed-clause-err
returns-in_default-allowed-clause-err c =
    let left = subst (λ (l : Items). IsLeft c.args.end c.args.body.now l c.loop-left.writes.items) c.in-Statement.is
    c.loop-left.invariant in
    let none : None ≡ allowed_of c.in-Statement.statement.value.kind (length c.loop-left.writes.items) = search rules in
    let other : halts c.in-Statement.statement.value.kind && is_end c.in-Statement.rest.value ≡ false = elim c.else-halts.branch [
      | else-halts-via-then-halts+else-is_end w ↦ both_false _ _
          (let last : is_end c.in-Statement.rest.value ≡ false = search rules in last)
      | else-halts-via-else-halts w ↦ first_false _ _ (let halt : halts c.in-Statement.statement.value.kind ≡ false = search rules in halt)
    ] in
    refused c.args.end c.args.body.now _ _ c.in-Statement.statement.value.kind _ c.in-Statement.rest.value c.loop-left.writes.items
    left none other
    ∙ ap statement_begin (sym c.deref-in_default-allowed-2.ensures)

pub loop-left-preserved : goal.loop-left-preserved
loop-left-preserved c =
    let left = subst (λ (l : Items). IsLeft c.args.end c.args.body.now l c.loop-left.writes.items) c.in-Statement.is
    c.loop-left.invariant in
    let some : Some c.in-Some.k ≡ allowed_of c.in-Statement.statement.value.kind (length c.loop-left.writes.items) = search rules in
    let loadable = loadable_write c.in-Statement.statement.value.kind (length c.loop-left.writes.items) c.in-Some.k some in
    rw (c.deref-left.ensures, c.in_ok-push.ensures.items) (goes_on c.args.end c.args.body.now _ _
    c.in-Statement.statement.value.kind _ c.in-Statement.rest.value c.loop-left.writes.items left c.in-Some.k loadable some)

pub returns-in-Object : goal.returns-in-Object
returns-in-Object c =
    let left = subst (λ (l : Items). IsLeft c.args.end c.args.body.now l c.loop-left.writes.items) c.in-Object.is c.loop-left.invariant in
    record {
      writes = tt;
      each = tt;
      err = at_object c.args.end c.args.body.now c.in-Object.object _ c.in-Object.field-1.value c.loop-left.writes.items left
          ∙ ap object_begin (sym c.deref-in-Object.ensures);
    }

pub returns : goal.returns
returns c =
    let left = subst (λ (l : Items). IsLeft c.args.end c.args.body.now l c.loop-left.writes.items)
    (end_of c.loop-left.left.now c.in_default.not-Statement c.in_default-left.not-Object) c.loop-left.invariant in
    record { writes = tt; each = tt; err = at_end c.args.end c.args.body.now c.loop-left.writes.items left }
