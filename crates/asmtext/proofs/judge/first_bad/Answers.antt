-- A line is bad, or no line up to here.
use Rattle.std.proofs.Common.{Option, None, ap, sym, ◌∙◌, get_or, arith}
use Rattle.asmtext.specs.Held.{told, all_told, held}
use Rattle.asmtext.specs.Notes.{kinds_after}
use Rattle.asmtext.proofs.JudgeLemmas.{told_at, told_length, kinds_more, cause_is, good_more}
use Rattle.asmtext.proofs.judge.first_bad.Goals as goal

pub loop-number-preserved : goal.loop-number-preserved
loop-number-preserved c =
    let lines = c.args.lines.now in
    let i = c.loop-number.number in
    let line = told (get_or lines i None) in
    let at = told_at lines i c.loop-number-test.true in (
      c.in_ok-pass.ensures ∙ ap (λ kinds. kinds_after kinds line) c.loop-number.invariant.0
          ∙ sym (kinds_more (all_told lines) i line (omega (arith, told_length lines)) at),
      good_more (all_told lines) i c.loop-number.invariant.1
          (sym (cause_is (all_told lines) (held c.args.places.now) c.deref.result.now i line c.requires
          (c.deref.ensures.value ∙ c.loop-number.invariant.0) at) ∙ sym c.cause_of.ensures ∙ c.in_default.is),
    )

pub returns-in-Some : goal.returns-in-Some
returns-in-Some c =
    let lines = c.args.lines.now in
    let i = c.loop-number.number in
    let line = told (get_or lines i None) in
    let at = told_at lines i c.loop-number-test.true in (
      c.loop-number-test.true,
      record {
        bad = sym (cause_is (all_told lines) (held c.args.places.now) c.deref.result.now i line c.requires
            (c.deref.ensures.value ∙ c.loop-number.invariant.0) at) ∙ sym c.cause_of.ensures ∙ c.in-Some.is;
        first = c.loop-number.invariant.1;
      },
    )

pub returns : goal.returns
returns c = λ k h. c.loop-number.invariant.1 k (omega arith)
