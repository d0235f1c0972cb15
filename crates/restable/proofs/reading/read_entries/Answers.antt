use Rattle.std.proofs.Common.{arith}
use Rattle.std.proofs.lemmas.Result.{err_from_is_err_and}
use Rattle.restable.specs.Reading.{entries_at}
use Rattle.restable.proofs.LoopLaws.{goes_on, ends, is_done}
use Rattle.restable.proofs.reading.read_entries.Goals as goal

pub returns-in_err-trace-clause-value : goal.returns-in_err-trace-clause-value
returns-in_err-trace-clause-value c =
    let l = c.entries in
    let p = err_from_is_err_and c.from_residual.result c.from_residual.ensures.1 in
    rw (p.1, p.2) (ends c.in_err-trace.field-0.0 l.traces.items c.args.count l.counter l.at l.rest.now
    (entries_at c.args.count c.args.first c.args.bytes.now) c.entries-test.true c.in_err-trace.ensures.value l.invariant.told)

pub entries-preserved : goal.entries-preserved
entries-preserved c =
    let l = c.entries in
    record {
      told = rw c.in_ok-push.ensures.items (goes_on l.traces.items c.args.count l.counter l.at l.rest.now c.in_ok-trace.trace
          c.in_ok-trace.behind.now (entries_at c.args.count c.args.first c.args.bytes.now) c.entries-test.true
          c.in_ok-trace.ensures.value l.invariant.told);
      at = omega (arith, l.invariant.at);
      len = omega (arith, l.invariant.len, c.in_ok-trace.ensures.len);
    }

pub returns-clause-value : goal.returns-clause-value
returns-clause-value c =
    let l = c.entries in
    is_done l.traces.items c.args.count l.counter l.at l.rest.now (entries_at c.args.count c.args.first c.args.bytes.now)
    c.entries-test.false l.invariant.told
