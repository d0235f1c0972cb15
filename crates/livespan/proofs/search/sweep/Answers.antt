use Rattle.std.proofs.Common.{◌-◌, refl, ◌∙◌, arith}
use Rattle.livespan.proofs.Marked.{more-more, closed-first, closed-step, closed-end}
use Rattle.livespan.proofs.search.sweep.Goals as goal

pub loop-place-init : goal.loop-place-init
loop-place-init c = record {
  within = omega (arith, c.requires.marks);
  short = omega arith;
  len = refl;
  sound = λ s. s;
  more = (refl, refl);
  closed = closed-first c.args.kinds.now c.args.turn.first c.args.turn.last c.args.v c.args.marks.now;
}

pub loop-place-preserved : goal.loop-place-preserved
loop-place-preserved c =
    let i = c.loop-place.invariant in
    record {
      within = omega arith;
      short = omega arith;
      len = c.mark-changed.ensures.len ∙ i.len;
      sound = λ s. c.mark-changed.ensures.sound (i.sound s);
      more = more-more c.loop-place.changed c.mark-changed.result c.args.marks.now c.loop-place.marks c.mark-changed.new.marks i.more
          c.mark-changed.ensures.more;
      closed = closed-step c.args.kinds.now c.args.turn.first c.args.turn.last c.args.v c.loop-place.changed c.mark-changed.result
          c.loop-place.marks c.mark-changed.new.marks c.loop-place.place (c.loop-place.place - 1) (omega arith)
          c.mark-changed.ensures.more i.closed
          c.mark-changed.ensures.closed;
    }

pub returns-clause-closed : goal.returns-clause-closed
returns-clause-closed c =
    closed-end c.args.kinds.now c.args.turn.first c.args.turn.last c.args.v c.loop-place.changed c.loop-place.marks c.loop-place.place
    c.loop-place-test.false c.loop-place.invariant.closed
