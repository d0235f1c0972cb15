-- A line that can't come next, or too early an end.
use Rattle.std.proofs.Common.{◌∙◌, None, refl, sym, ap, subst}
use Rattle.certtext.specs.Reading.{IsSoFar}
use Rattle.certtext.proofs.FileLaws.{untrue, so_far_more, place_more, fails_at_end, fails_at_line}
use Rattle.certtext.proofs.read.read_rest.Goals as goal

pub returns-else-ends-clause-fault : goal.returns-else-ends-clause-fault
returns-else-ends-clause-fault c =
    fails_at_end c.args.edition c.args.lines.now.text c.args.lines.now.number c.said.said.items c.said.lines.text c.number-at.result
    c.said.place
    (subst (IsSoFar c.args.edition c.args.lines.now.text c.args.lines.now.number c.said.said.items c.said.lines.text)
    (sym c.number-at.ensures) c.said.invariant.so_far)
    c.said.invariant.here c.in_default.ensures.none.0
    (λ both. untrue c.ends.result c.if-ends.false c.ends.ensures.1
    (both.0, ap (λ l. l.text) c.in_default.ensures.none.1 ∙ both.1))

pub returns-in_default-read_next-clause-fault : goal.returns-in_default-read_next-clause-fault
returns-in_default-read_next-clause-fault c =
    fails_at_line c.args.edition c.args.lines.now.text c.args.lines.now.number c.said.said.items c.said.lines.text c.number-at.result
    c.said.place c.in-Some.line.now c.next_whole.new.self.text None
    (subst (IsSoFar c.args.edition c.args.lines.now.text c.args.lines.now.number c.said.said.items c.said.lines.text)
    (sym c.number-at.ensures) c.said.invariant.so_far)
    c.said.invariant.here c.in-Some.ensures.some.0 c.in-Some.ensures.some.1 refl c.in_default-read_next.ensures.only

pub said-preserved : goal.said-preserved
said-preserved c =
    let inv = c.said.invariant in
    let more = c.in_ok-push.ensures.items in
    record {
      so_far = so_far_more c.args.edition c.args.lines.now.text c.args.lines.now.number c.said.said.items c.said.lines.text
          c.said.lines.number c.in-Some.line.now c.next_whole.new.self.text c.next_whole.new.self.number c.in-Some-read_next.next
          c.said.place inv.so_far c.in-Some.ensures.some.1 c.in-Some.ensures.number c.in-Some-read_next.ensures.fits
          c.in-Some-read_next.ensures.text inv.here c.in-Some-read_next.ensures.order c.push.new.self.items more;
      here = place_more c.said.said.items c.in-Some-read_next.next c.said.place c.then-place.result inv.here c.then-place.ensures
          c.push.new.self.items more;
    }
