-- Each turn takes one line.
use Rattle.std.proofs.Common.{◌+◌, ◌++◌, Option, None, ap, sym, ◌∙◌, subst, drop, get_or, append_assoc}
use Rattle.std.specs.List.{flat_map, AllByRecursion}
use Rattle.std.proofs.lemmas.List.{at_drop_all, append-nil}
use Rattle.asmtext.specs.Held.{told, all_told, names_held}
use Rattle.asmtext.specs.Items.{line_items}
use Rattle.asmtext.specs.Made.{IsMade}
use Rattle.asmtext.proofs.JudgeLemmas.{told_drop}
use Rattle.asmtext.proofs.items.items_of.Goals as goal

pub loop-line-init : goal.loop-line-init
loop-line-init c =
    let lines = all_told c.args.lines.now in
    record {
      items = ap (λ items. items ++ flat_map (line_items (names_held c.args.names.now)) lines) c.new-items.ensures.items
          ∙ ap (λ names. flat_map (line_items names) lines) c.requires.names;
      made = λ h. h;
    }

pub loop-line-preserved : goal.loop-line-preserved
loop-line-preserved c =
    let lines = c.args.lines.now in
    let i = c.loop-line.line-index in
    let line = told (get_or lines i None) in
    let f = line_items (names_held c.args.names.now) in
    let rest = flat_map f (all_told (drop (i + 1) lines)) in
    record {
      items = ap (λ items. items ++ rest) c.in_ok-push_line.ensures.items ∙ append_assoc c.loop-line.items.items (f line) rest
          ∙ sym (ap (λ ls. c.loop-line.items.items ++ flat_map f ls) (told_drop lines i c.loop-line-test.true))
          ∙ c.loop-line.invariant.items;
      made = λ behind. c.loop-line.invariant.made
          (subst (AllByRecursion IsMade) (sym (told_drop lines i c.loop-line-test.true)) (c.in_ok-push_line.ensures.made, behind));
    }

pub returns : goal.returns
returns c =
    let lines = c.args.lines.now in
    let i = c.loop-line.line-index in
    let items = c.loop-line.items.items in
    record {
      items = sym (append-nil items)
          ∙ sym (at_drop_all (λ ls. items ++ flat_map (line_items (names_held c.args.names.now))
          (all_told ls)) lines i c.loop-line-test.false)
          ∙ c.loop-line.invariant.items;
      made = c.loop-line.invariant.made
          (subst (AllByRecursion IsMade) (sym (at_drop_all all_told lines i c.loop-line-test.false)) tt);
    }
