use Rattle.std.proofs.lemmas.Result.{err_from_is_err_and}
use Rattle.elfrec.specs.Record.{records_at}
use Rattle.elfrec.proofs.Loop.{records_go_on, records_end, records_done}
use Rattle.elfrec.proofs.reading.read_records.Goals as goal

pub returns-in_err-record : goal.returns-in_err-record
returns-in_err-record g c =
    let p = err_from_is_err_and c.from_residual.result c.from_residual.ensures.1 in
    rw (p.1, p.2) (records_end c.in_err-record.field-0.0 g.R.Record.format c.loop.records.items c.args.count c.loop.counter
    c.loop.next c.args.bytes.now
    (records_at g.R.Record.format c.args.count c.args.at c.args.bytes.now) c.loop-test.true c.in_err-record.ensures.gives c.loop.invariant)

pub loop-preserved : goal.loop-preserved
loop-preserved g c =
    rw (c.in_ok-push.ensures.items, c.size-next.ensures) (records_go_on g.R.Record.format c.loop.records.items c.args.count
    c.loop.counter c.loop.next c.args.bytes.now c.in_ok-record.record
    (records_at g.R.Record.format c.args.count c.args.at c.args.bytes.now) c.loop-test.true c.in_ok-record.ensures.gives c.loop.invariant)

pub returns : goal.returns
returns g c =
    records_done g.R.Record.format c.loop.records.items c.args.count c.loop.counter c.loop.next c.args.bytes.now
    (records_at g.R.Record.format c.args.count c.args.at c.args.bytes.now) c.loop-test.false c.loop.invariant
