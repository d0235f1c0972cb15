use Rattle.std.proofs.Common.{None, rules}
use Rattle.std.proofs.lemmas.Result.{err_from_is_err_and}
use Rattle.pruelf.specs.Fields.{many_in}
use Rattle.pruelf.specs.Parts.{entry_in}
use Rattle.pruelf.proofs.Loop.{begins, goes_on, ends, is_done}
use Rattle.pruelf.proofs.symbols.many_entries.Goals as goal

pub entries-init : goal.entries-init
entries-init c = begins (entry_in c.args.names c.args.end) c.new-entries.result.items c.args.count None c.args.bytes.now (search rules)

pub returns-in_err-entry : goal.returns-in_err-entry
returns-in_err-entry c =
    let l = c.entries in
    let p = err_from_is_err_and c.from_residual.result c.from_residual.ensures.1 in
    rw (p.1, p.2) (ends c.in_err-entry.field-0.0 (entry_in c.args.names c.args.end) l.entries.items c.args.count l.i l.before l.rest.now
    (many_in (entry_in c.args.names c.args.end) c.args.count None c.args.bytes.now) c.entries-test.true c.in_err-entry.ensures l.invariant)

pub entries-preserved : goal.entries-preserved
entries-preserved c =
    let l = c.entries in
    rw c.in_ok-push.ensures.items (goes_on (entry_in c.args.names c.args.end) l.entries.items c.args.count l.i l.before l.rest.now
    c.in_ok-entry.entry c.in_ok-entry.behind.now
    (many_in (entry_in c.args.names c.args.end) c.args.count None c.args.bytes.now) c.entries-test.true c.in_ok-entry.ensures l.invariant)

pub returns : goal.returns
returns c =
    let l = c.entries in
    is_done (entry_in c.args.names c.args.end) l.entries.items c.args.count l.i l.before l.rest.now
    (many_in (entry_in c.args.names c.args.end) c.args.count None c.args.bytes.now) c.entries-test.false l.invariant
