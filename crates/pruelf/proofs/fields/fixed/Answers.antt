use Rattle.std.proofs.Common.{get_or, refl}
use Rattle.std.specs.Int.{w8}
use Rattle.std.proofs.lemmas.Result.{err_from_is_err_and}
use Rattle.pruelf.specs.Fields.{kind_of, fixed_in}
use Rattle.pruelf.proofs.Loop.{value_read, value_fails, values_done}
use Rattle.pruelf.proofs.fields.fixed.Goals as goal

pub returns-in_err-rest : goal.returns-in_err-rest
returns-in_err-rest c =
    let l = c.loop-value in
    let p = err_from_is_err_and c.from_residual.result c.from_residual.ensures.1 in
    rw (p.1, p.2) (value_fails c.in_err-rest.field-0.0 c.args.cause (kind_of c.args.width) c.args.values.now l.value-index
    c.args.end l.rest.now _
    (fixed_in c.args.cause (kind_of c.args.width) c.args.values.now c.args.end c.args.bytes.now) c.loop-value-test.true refl
    c.in_err-rest.ensures l.invariant)

pub loop-value-preserved : goal.loop-value-preserved
loop-value-preserved c =
    let l = c.loop-value in
    value_read c.args.cause (kind_of c.args.width) c.args.values.now l.value-index c.args.end l.rest.now _ c.in_ok-rest.rest.now
    (fixed_in c.args.cause (kind_of c.args.width) c.args.values.now c.args.end c.args.bytes.now) c.loop-value-test.true refl
    c.in_ok-rest.ensures l.invariant

pub returns : goal.returns
returns c =
    let l = c.loop-value in
    values_done c.args.cause (kind_of c.args.width) c.args.values.now l.value-index c.args.end l.rest.now
    (fixed_in c.args.cause (kind_of c.args.width) c.args.values.now c.args.end c.args.bytes.now) c.loop-value-test.false l.invariant
