-- The item is one of this line, or is behind it.
use Rattle.std.proofs.Common.{◌+◌, None, ap, sym, ◌∙◌, get_or, length, arith}
use Rattle.asmtext.specs.Held.{told, all_told, names_held}
use Rattle.asmtext.specs.Items.{line_items}
use Rattle.asmtext.specs.Reading.{items_before}
use Rattle.asmtext.proofs.JudgeLemmas.{told_at, told_length}
use Rattle.asmtext.proofs.ReadLemmas.{held_few, before_more, before_all}
use Rattle.asmtext.proofs.reading.line_of_item.Goals as goal

pub count_line-count-requires : goal.count_line-count-requires
count_line-count-requires c = held_few c.args.lines.now (names_held c.args.names.now) c.requires.few c.requires.names

pub loop-number-preserved : goal.loop-number-preserved
loop-number-preserved c =
    let lines = c.args.lines.now in
    let i = c.loop-number.number in
    let line = told (get_or lines i None) in
    let more = before_more (all_told lines) i line (omega (arith, told_length lines)) (told_at lines i c.loop-number-test.true) in
    let value = c.count_line-count.ensures.value ∙ ap (λ names. length (line_items names line)) c.requires.names in
    record {
      items = ap (λ n. n + c.count_line-count.result) c.loop-number.invariant.items
          ∙ ap (λ n. length (items_before (all_told lines) i) + n) value ∙ sym more;
      behind = c.if-item-count.false;
      few = omega (arith, c.count_line-count.ensures.bound);
    }

pub returns-then-item-count-clause-line : goal.returns-then-item-count-clause-line
returns-then-item-count-clause-line c =
    let lines = c.args.lines.now in
    let i = c.loop-number.number in
    let line = told (get_or lines i None) in
    let more = before_more (all_told lines) i line (omega (arith, told_length lines)) (told_at lines i c.loop-number-test.true) in
    let value = c.count_line-count.ensures.value ∙ ap (λ names. length (line_items names line)) c.requires.names in
    let all = ap (λ n. n + c.count_line-count.result) c.loop-number.invariant.items
    ∙ ap (λ n. length (items_before (all_told lines) i) + n) value ∙ sym more in
    record {
      from = omega (arith, c.loop-number.invariant.items, c.loop-number.invariant.behind);
      to = omega (arith, all, c.if-item-count.true);
    }

pub returns : goal.returns
returns c =
    let lines = c.args.lines.now in
    let all = ap length (before_all (all_told lines) c.loop-number.number (omega (arith, told_length lines))) in
    absurd (omega (arith, all, c.loop-number.invariant.items, c.loop-number.invariant.behind, c.requires.within))
