-- Each turn takes one item.
use Rattle.std.proofs.Common.{◌+◌, ap, sym, ◌∙◌, drop}
use Rattle.std.specs.Prelude.{fold}
use Rattle.std.specs.List.{flat_map}
use Rattle.std.proofs.lemmas.List.{at_drop_all}
use Rattle.asmtext.specs.Held.{labels_held}
use Rattle.asmtext.specs.Printing.{with_label, labels_told}
use Rattle.asmtext.proofs.NameLemmas.{fold_join}
use Rattle.asmtext.proofs.PrintLemmas.{item_drop}
use Rattle.asmtext.proofs.numbers.Numbers.of.Goals as goal

pub loop-item-preserved : goal.loop-item-preserved
loop-item-preserved c =
    let items = c.args.items.now in
    let i = c.loop-item.item-index in
    let old = labels_held c.loop-item.numbers in
    let x = c.item-item.result in
    let rest = flat_map labels_told (drop (i + 1) items) in
    ap (λ ls. fold with_label ls rest) c.in_ok-add_item.ensures
    ∙ sym (fold_join with_label old (labels_told x) rest)
    ∙ sym (ap (λ is. fold with_label old (flat_map labels_told is)) (item_drop items i x c.loop-item-test.true c.item-item.is))
    ∙ c.loop-item.invariant

pub returns : goal.returns
returns c =
    sym (at_drop_all (λ items. fold with_label (labels_held c.loop-item.numbers) (flat_map labels_told items)) c.args.items.now
    c.loop-item.item-index c.loop-item-test.false)
    ∙ c.loop-item.invariant
