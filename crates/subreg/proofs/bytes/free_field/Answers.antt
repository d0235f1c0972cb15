use Rattle.std.proofs.Common.{◌%◌, arith, ap, ◌∙◌}
use Rattle.subreg.proofs.Fields.{held-next, held-all, held-of_width, false_part}
use Rattle.subreg.proofs.bytes.free_field.Goals as goal
use Rattle.subreg.proofs.bytes.free_field.Goals.{else-first-size-eq0-via-then-first-size-eq0+else-are_free}
use Rattle.subreg.proofs.bytes.free_field.Goals.{else-first-size-eq0-via-else-first-size-eq0}

pub loop-first-init : goal.loop-first-init
loop-first-init c = λ g field below. absurd (omega (arith, field.from, below))

pub loop-first-preserved : goal.loop-first-preserved
loop-first-preserved c =
    held-next c.args.free_from.now c.args.width c.args.place c.loop-first.first c.loop-first.invariant
    (λ aligned.
    elim c.else-first-size-eq0.branch [
      | else-first-size-eq0-via-then-first-size-eq0+else-are_free w ↦
          held-of_width _ _ _ _ _ c.bytes-size.ensures (false_part _ _ _ w.if-are_free.false w.are_free.ensures)
      | else-first-size-eq0-via-else-first-size-eq0 w ↦
          absurd (w.if-first-size-eq0.false (ap (λ n. c.loop-first.first % n) c.bytes-size.ensures ∙ aligned))
    ])

pub returns : goal.returns
returns c = held-all c.args.free_from.now c.args.width c.args.place c.loop-first.first c.loop-first-test.false c.loop-first.invariant
