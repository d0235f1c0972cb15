use Rattle.std.proofs.Common.{arith}
use Rattle.std.proofs.lemmas.Result.{err_from_is_err_and}
use Rattle.restable.specs.Reading.{offsets_at}
use Rattle.restable.proofs.LoopLaws.{offset_read, offset_fails, offsets_done}
use Rattle.restable.proofs.reading.fixed_offsets.Goals as goal

pub returns-in_err-rest-clause-value : goal.returns-in_err-rest-clause-value
returns-in_err-rest-clause-value c =
    let l = c.offsets in
    let p = err_from_is_err_and c.from_residual.result c.from_residual.ensures.1 in
    rw (p.1, p.2) (offset_fails c.in_err-rest.field-0.0 c.args.count l.counter l.value l.at l.rest.now
    (offsets_at c.args.count c.args.first 16 c.args.bytes.now) c.offsets-test.true c.in_err-rest.ensures.value l.invariant.told)

pub offsets-preserved : goal.offsets-preserved
offsets-preserved c =
    let l = c.offsets in
    record {
      told = offset_read c.args.count l.counter l.value l.at l.rest.now c.in_ok-rest.rest.now
          (offsets_at c.args.count c.args.first 16 c.args.bytes.now) c.offsets-test.true c.in_ok-rest.ensures.value l.invariant.told;
      value = omega (arith, l.invariant.value);
      at = omega (arith, l.invariant.at);
      len = omega (arith, l.invariant.len, c.in_ok-rest.ensures.len);
    }

pub returns-clause-value : goal.returns-clause-value
returns-clause-value c =
    let l = c.offsets in
    offsets_done c.args.count l.counter l.value l.at l.rest.now (offsets_at c.args.count c.args.first 16 c.args.bytes.now)
    c.offsets-test.false l.invariant.told
