use Rattle.std.proofs.Common.{None, rules}
use Rattle.std.proofs.lemmas.Result.{err_from_is_err_and}
use Rattle.pruelf.specs.Fields.{many_in}
use Rattle.pruelf.specs.Parts.{note_in}
use Rattle.pruelf.proofs.Loop.{begins, goes_on, ends, is_done}
use Rattle.pruelf.proofs.notes.notes.Goals as goal

pub notes-init : goal.notes-init
notes-init c = begins (note_in c.args.words.now c.args.end) c.new-notes.result.items c.args.count None c.args.bytes.now (search rules)

pub returns-in_err-note : goal.returns-in_err-note
unfolding note_in
returns-in_err-note c =
    let l = c.notes in
    let p = err_from_is_err_and c.from_residual.result c.from_residual.ensures.1 in
    rw (p.1, p.2) (ends c.in_err-note.field-0.0 (note_in c.args.words.now c.args.end) l.notes.items c.args.count l.counter l.before
    l.rest.now
    (many_in (note_in c.args.words.now c.args.end) c.args.count None c.args.bytes.now) c.notes-test.true c.in_err-note.ensures l.invariant)

pub notes-preserved : goal.notes-preserved
unfolding note_in
notes-preserved c =
    let l = c.notes in
    rw c.in_ok-push.ensures.items (goes_on (note_in c.args.words.now c.args.end) l.notes.items c.args.count l.counter l.before
    l.rest.now c.in_ok-note.note c.in_ok-note.behind.now
    (many_in (note_in c.args.words.now c.args.end) c.args.count None c.args.bytes.now) c.notes-test.true c.in_ok-note.ensures l.invariant)

pub returns : goal.returns
returns c =
    let l = c.notes in
    is_done (note_in c.args.words.now c.args.end) l.notes.items c.args.count l.counter l.before l.rest.now
    (many_in (note_in c.args.words.now c.args.end) c.args.count None c.args.bytes.now) c.notes-test.false l.invariant
