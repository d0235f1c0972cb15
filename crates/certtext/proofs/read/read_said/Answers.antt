-- A fault of a part is one of the text.
use Rattle.std.proofs.Common.{ap}
use Rattle.std.proofs.lemmas.Result.{err_from_is_err_and}
use Rattle.certtext.proofs.FileLaws.{first_fault, rest_fault}
use Rattle.certtext.proofs.read.read_said.Goals as goal

pub returns-in_err-edition-clause-fault : goal.returns-in_err-edition-clause-fault
returns-in_err-edition-clause-fault c =
    let p = err_from_is_err_and c.from_residual.result c.from_residual.ensures.1 in
    rw (p.1, p.2) (first_fault c.args.bytes.now c.of-lines.result.text c.of-lines.result.number _
    (ap (λ l. l.text) c.of-lines.ensures) (ap (λ l. l.number) c.of-lines.ensures)
    c.in_err-edition.ensures.fault)

pub returns-in_err-said-clause-fault : goal.returns-in_err-said-clause-fault
returns-in_err-said-clause-fault c =
    let p = err_from_is_err_and c.from_residual-in_err-said.result c.from_residual-in_err-said.ensures.1 in
    let read = c.in_ok-edition.ensures in
    rw (p.1, p.2) (rest_fault c.args.bytes.now c.of-lines.result.text c.read_first.new.lines.text c.in_ok-edition.edition
    c.of-lines.result.number c.read_first.new.lines.number _
    (ap (λ l. l.text) c.of-lines.ensures) (ap (λ l. l.number) c.of-lines.ensures) read.text read.number c.in_err-said.ensures.fault)
