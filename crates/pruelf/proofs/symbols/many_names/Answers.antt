use Rattle.std.proofs.lemmas.Result.{err_from_is_err_and}
use Rattle.pruelf.specs.Parts.{named_in}
use Rattle.pruelf.proofs.Loop.{names_go_on, names_end, names_done}
use Rattle.pruelf.proofs.symbols.many_names.Goals as goal

pub returns-in_err-name : goal.returns-in_err-name
returns-in_err-name c =
    let l = c.loop-i in
    let p = err_from_is_err_and c.from_residual.result c.from_residual.ensures.1 in
    rw (p.1, p.2) (names_end c.in_err-name.field-0.0 l.symbols.items c.args.size c.args.entries.now l.i _ c.args.end l.rest.now
    c.name_length-count.result
    (named_in c.args.size c.args.entries.now c.args.end c.args.bytes.now) c.loop-i-test.true
    (rw c.behind-others.ensures at c.name_length-count.ensures) c.in_err-name.ensures l.invariant)

pub loop-i-preserved : goal.loop-i-preserved
loop-i-preserved c =
    let l = c.loop-i in
    rw (c.in_ok-push.ensures.items, c.named.ensures) (names_go_on l.symbols.items c.args.size c.args.entries.now l.i _ c.args.end
    l.rest.now c.name_length-count.result c.in_ok-name.name c.in_ok-name.after.now
    (named_in c.args.size c.args.entries.now c.args.end c.args.bytes.now) c.loop-i-test.true
    (rw c.behind-others.ensures at c.name_length-count.ensures) c.in_ok-name.ensures l.invariant)

pub returns : goal.returns
returns c =
    let l = c.loop-i in
    names_done l.symbols.items c.args.size c.args.entries.now l.i c.args.end l.rest.now
    (named_in c.args.size c.args.entries.now c.args.end c.args.bytes.now) c.loop-i-test.false l.invariant
