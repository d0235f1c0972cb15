use Rattle.std.proofs.Common.{None, Some, rules}
use Rattle.std.proofs.lemmas.Result.{err_from_is_err_and}
use Rattle.pruelf.specs.Fields.{many_in}
use Rattle.pruelf.specs.Parts.{word_in}
use Rattle.pruelf.proofs.Loop.{begins, goes_on, ends, is_done}
use Rattle.pruelf.proofs.words.words.Goals as goal

pub words-init : goal.words-init
words-init c = (None, begins (word_in c.args.end) c.new-words.result.items c.args.count None c.args.bytes.now (search rules))

pub returns-in_err-number : goal.returns-in_err-number
returns-in_err-number c =
    let l = c.words in
    let p = err_from_is_err_and c.from_residual.result c.from_residual.ensures.1 in
    rw (p.1, p.2) (ends c.in_err-number.field-0.0 (word_in c.args.end) l.words.items c.args.count l.counter l.invariant.0 l.rest.now
    (many_in (word_in c.args.end) c.args.count None c.args.bytes.now) c.words-test.true c.in_err-number.ensures l.invariant.1)

pub words-preserved : goal.words-preserved
words-preserved c =
    let l = c.words in (
      Some c.in_ok-number.number,
      rw c.in_ok-push.ensures.items (goes_on (word_in c.args.end) l.words.items c.args.count l.counter l.invariant.0 l.rest.now
          c.in_ok-number.number c.in_ok-number.behind.now
          (many_in (word_in c.args.end) c.args.count None c.args.bytes.now) c.words-test.true c.in_ok-number.ensures l.invariant.1),
    )

pub returns : goal.returns
returns c =
    let l = c.words in
    is_done (word_in c.args.end) l.words.items c.args.count l.counter l.invariant.0 l.rest.now
    (many_in (word_in c.args.end) c.args.count None c.args.bytes.now) c.words-test.false l.invariant.1
