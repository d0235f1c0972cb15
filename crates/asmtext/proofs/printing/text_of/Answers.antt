-- Each turn prints one item.
use Rattle.std.proofs.Common.{◌+◌, ◌∷◌, [], ◌++◌, ap, sym, ◌∙◌, drop, append_assoc}
use Rattle.std.specs.List.{flat_map}
use Rattle.std.specs.String.{string_bytes}
use Rattle.std.proofs.lemmas.List.{at_drop_all, append-nil}
use Rattle.std.proofs.lemmas.List.Concat.{flat_map-append}
use Rattle.textline.specs.Lines.{text_of}
use Rattle.asmtext.specs.Held.{labels_held}
use Rattle.asmtext.specs.Printing.{item_lines}
use Rattle.asmtext.proofs.PrintLemmas.{item_drop}
use Rattle.asmtext.proofs.printing.text_of.Goals as goal

pub loop-item-init : goal.loop-item-init
loop-item-init c =
    let items = c.args.items.now in
    ap (λ text. text ++ text_of (flat_map (item_lines (labels_held c.args.numbers.now)) items)) c.new-text.ensures.bytes
    ∙ ap (λ labels. text_of (flat_map (item_lines labels) items)) c.requires

pub loop-item-preserved : goal.loop-item-preserved
loop-item-preserved c =
    let items = c.args.items.now in
    let i = c.loop-item.item-index in
    let lines = item_lines (labels_held c.args.numbers.now) in
    let old = string_bytes c.loop-item.text in
    let x = c.item-item.result in
    let rest = flat_map lines (drop (i + 1) items) in
    ap (λ text. text ++ text_of rest) c.in_ok-push_item.ensures
    ∙ append_assoc old (text_of (lines x)) (text_of rest)
    ∙ ap (λ text. old ++ text) (sym (flat_map-append (λ line. line ++ 10 ∷ []) (lines x) rest))
    ∙ sym (ap (λ is. old ++ text_of (flat_map lines is)) (item_drop items i x c.loop-item-test.true c.item-item.is))
    ∙ c.loop-item.invariant

pub returns : goal.returns
returns c =
    let lines = item_lines (labels_held c.args.numbers.now) in
    let text = string_bytes c.loop-item.text in
    sym (append-nil text)
    ∙ sym (at_drop_all (λ is. text ++ text_of (flat_map lines is)) c.args.items.now c.loop-item.item-index c.loop-item-test.false)
    ∙ c.loop-item.invariant
