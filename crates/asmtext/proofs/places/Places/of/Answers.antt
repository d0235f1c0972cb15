-- Each turn takes one line.
use Rattle.std.proofs.Common.{◌+◌, Option, None, subst, drop, get_or, arith}
use Rattle.std.proofs.lemmas.List.{at_drop_all}
use Rattle.asmtext.specs.Held.{told, all_told, held}
use Rattle.asmtext.proofs.JudgeLemmas.{told_drop}
use Rattle.asmtext.proofs.PlaceLemmas.{KnowsTo, knows_on, knows_end}
use Rattle.asmtext.proofs.places.Places.of.Goals as goal

pub loop-line-preserved : goal.loop-line-preserved
loop-line-preserved c =
    let lines = c.args.lines.now in
    let i = c.loop-line.line-index in (
      knows_on (all_told lines) c.loop-line.number (held c.loop-line.places) (held c.put_line.new.self) (told (get_or lines i None))
          (all_told (drop (i + 1) lines))
          (subst (λ r. KnowsTo (all_told lines) c.loop-line.number r (held c.loop-line.places)) (told_drop lines i c.loop-line-test.true)
          c.loop-line.invariant.0)
          (λ other. c.in_ok-put_line.ensures other),
      omega arith,
    )

pub returns : goal.returns
returns c =
    let lines = c.args.lines.now in
    knows_end (all_told lines) c.loop-line.number (held c.loop-line.places)
    (subst (λ r. KnowsTo (all_told lines) c.loop-line.number r (held c.loop-line.places))
    (at_drop_all all_told lines c.loop-line.line-index c.loop-line-test.false) c.loop-line.invariant.0)
