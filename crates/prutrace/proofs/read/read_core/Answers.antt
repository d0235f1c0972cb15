-- A fault of a part is one of the text.
use Rattle.std.proofs.Common.{ap, arith}
use Rattle.std.proofs.lemmas.Result.{err_from_is_err_and}
use Rattle.prutrace.proofs.FileLaws.{head_fault, zero_fault, one_fault, are_read, chosen_zero, chosen_one}
use Rattle.prutrace.proofs.read.read_core.Goals as goal

pub returns-in_err-read_head-clause-fault : goal.returns-in_err-read_head-clause-fault
returns-in_err-read_head-clause-fault c =
    let p = err_from_is_err_and c.from_residual.result c.from_residual.ensures.1 in
    rw (p.1, p.2) (head_fault c.args.bytes.now c.of-lines.result.text c.of-lines.result.number _
    (ap (λ l. l.text) c.of-lines.ensures) (ap (λ l. l.number) c.of-lines.ensures)
    c.in_err-read_head.ensures.fault)

pub returns-in_err-zero-clause-fault : goal.returns-in_err-zero-clause-fault
returns-in_err-zero-clause-fault c =
    let p = err_from_is_err_and c.from_residual-in_err-zero.result c.from_residual-in_err-zero.ensures.1 in
    let read = c.in_ok-read_head.ensures in
    rw (p.1, p.2) (zero_fault c.args.bytes.now c.of-lines.result.text c.read_head.new.lines.text c.of-lines.result.number
    c.read_head.new.lines.number _
    (ap (λ l. l.text) c.of-lines.ensures) (ap (λ l. l.number) c.of-lines.ensures) read.text read.number c.in_err-zero.ensures.fault)

pub returns-in_err-one-clause-fault : goal.returns-in_err-one-clause-fault
returns-in_err-one-clause-fault c =
    let p = err_from_is_err_and c.from_residual-in_err-one.result c.from_residual-in_err-one.ensures.1 in
    let read = c.in_ok-read_head.ensures in
    let zero = c.in_ok-zero.ensures in
    rw (p.1, p.2) (one_fault c.args.bytes.now c.of-lines.result.text c.read_head.new.lines.text c.read_zero.new.lines.text
    c.in_ok-zero.zero.items
    c.of-lines.result.number c.read_head.new.lines.number c.read_zero.new.lines.number _
    (ap (λ l. l.text) c.of-lines.ensures) (ap (λ l. l.number) c.of-lines.ensures) read.text read.number zero.fits zero.text
    zero.number c.in_err-one.ensures.fault)

pub returns-then-core-eq0-clause-found : goal.returns-then-core-eq0-clause-found
returns-then-core-eq0-clause-found c =
    let read = c.in_ok-read_head.ensures in
    let zero = c.in_ok-zero.ensures in
    let one = c.in_ok-one.ensures in
    are_read c.args.bytes.now c.of-lines.result.text c.read_head.new.lines.text c.read_zero.new.lines.text c.in_ok-zero.zero.items
    c.in_ok-one.one.items
    c.in_ok-zero.zero.items c.args.core (ap (λ l. l.text) c.of-lines.ensures) read.text zero.fits zero.text one.fits one.text
    (chosen_zero c.args.core c.in_ok-zero.zero.items c.in_ok-one.one.items c.if-core-eq0.true)

pub returns-else-core-eq0-clause-found : goal.returns-else-core-eq0-clause-found
returns-else-core-eq0-clause-found c =
    let read = c.in_ok-read_head.ensures in
    let zero = c.in_ok-zero.ensures in
    let one = c.in_ok-one.ensures in
    are_read c.args.bytes.now c.of-lines.result.text c.read_head.new.lines.text c.read_zero.new.lines.text c.in_ok-zero.zero.items
    c.in_ok-one.one.items
    c.in_ok-one.one.items c.args.core (ap (λ l. l.text) c.of-lines.ensures) read.text zero.fits zero.text one.fits one.text
    (chosen_one c.args.core c.in_ok-zero.zero.items c.in_ok-one.one.items c.if-core-eq0.false)
