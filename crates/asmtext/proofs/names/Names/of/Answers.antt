-- Each turn takes one line.
use Rattle.std.proofs.Common.{◌+◌, Option, None, ap, sym, ◌∙◌, drop, get_or}
use Rattle.std.specs.Prelude.{fold}
use Rattle.std.specs.List.{flat_map}
use Rattle.std.proofs.lemmas.List.{at_drop_all}
use Rattle.asmtext.specs.Held.{told, all_told, names_held}
use Rattle.asmtext.specs.Labels.{with_name, names_told}
use Rattle.asmtext.proofs.JudgeLemmas.{told_drop}
use Rattle.asmtext.proofs.NameLemmas.{fold_join}
use Rattle.asmtext.proofs.names.Names.of.Goals as goal

pub loop-line-preserved : goal.loop-line-preserved
loop-line-preserved c =
    let lines = c.args.lines.now in
    let i = c.loop-line.line-index in
    let old = names_held c.loop-line.names in
    ap (λ names. fold with_name names (flat_map names_told (all_told (drop (i + 1) lines)))) (c.in_ok-add_line.ensures)
    ∙ sym (fold_join with_name old (names_told (told (get_or lines i None))) (flat_map names_told (all_told (drop (i + 1) lines))))
    ∙ sym (ap (λ ls. fold with_name old (flat_map names_told ls)) (told_drop lines i c.loop-line-test.true))
    ∙ c.loop-line.invariant

pub returns : goal.returns
returns c =
    sym (at_drop_all (λ ls. fold with_name (names_held c.loop-line.names) (flat_map names_told (all_told ls))) c.args.lines.now
    c.loop-line.line-index c.loop-line-test.false)
    ∙ c.loop-line.invariant
