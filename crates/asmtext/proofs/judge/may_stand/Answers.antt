-- The word is on this line, behind it or nowhere.
use Rattle.std.proofs.Common.{Option, None, sym, ◌∙◌, get_or, arith}
use Rattle.asmtext.specs.Held.{told, all_told, held}
use Rattle.asmtext.proofs.JudgeLemmas.{told_at, told_length, stands_here, stands_on_next, stands_nowhere}
use Rattle.asmtext.proofs.judge.may_stand.Goals as goal

pub loop-number-preserved : goal.loop-number-preserved
loop-number-preserved c =
    let lines = c.args.lines.now in
    let i = c.loop-number.number in
    sym (stands_on_next (held c.args.places.now) c.args.kind i (all_told lines) (told (get_or lines i None))
    (omega (arith, told_length lines)) (told_at lines i c.loop-number-test.true) (sym c.may_stand_at.ensures ∙ c.in_default.is))
    ∙ c.loop-number.invariant

pub returns-in-Some : goal.returns-in-Some
returns-in-Some c =
    let lines = c.args.lines.now in
    let i = c.loop-number.number in
    stands_here (held c.args.places.now) c.args.kind i (all_told lines) (told (get_or lines i None)) c.in-Some.stands
    (omega (arith, told_length lines)) (told_at lines i c.loop-number-test.true) (sym c.may_stand_at.ensures ∙ c.in-Some.is)
    ∙ c.loop-number.invariant

pub returns : goal.returns
returns c =
    stands_nowhere (held c.args.places.now) c.args.kind c.loop-number.number (all_told c.args.lines.now)
    (omega (arith, told_length c.args.lines.now))
    ∙ c.loop-number.invariant
