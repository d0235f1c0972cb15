-- The items of good lines are whole; a long loop is on one of the lines.
use Rattle.std.proofs.Common.{sym, ◌∙◌, subst, arith}
use Rattle.isa.specs.Program.{IsWhole}
use Rattle.branchfit.specs.Loops.{IsLongLoop}
use Rattle.asmtext.specs.Held.{all_told, names_held}
use Rattle.asmtext.specs.Items.{items_of}
use Rattle.asmtext.specs.Reading.{IsFaultOf}
use Rattle.asmtext.proofs.JudgeLemmas.{told_length}
use Rattle.asmtext.proofs.ReadLemmas.{Found, held_few, items_few, found, long_line, good_told}
use Rattle.asmtext.proofs.WholeLemmas.{items_whole}
use Rattle.asmtext.proofs.reading.read_good.Goals as goal

pub items_of-requires-clause-few : goal.items_of-requires-clause-few
items_of-requires-clause-few c = held_few c.args.lines.now (names_held c.args.names.now) c.requires.few c.requires.names

pub long_loop-requires : goal.long_loop-requires
long_loop-requires c =
    subst IsWhole (sym (c.new-program.ensures ∙ c.in_ok-items_of.ensures.items))
    (items_whole (all_told c.args.lines.now)
    (good_told c.args.lines.now c.requires.good) c.in_ok-items_of.ensures.made c.requires.labelled)

pub line_of_item-requires-clause-within : goal.line_of_item-requires-clause-within
line_of_item-requires-clause-within c =
    let lines = all_told c.args.lines.now in
    let f : Found (items_of lines) c.in-Some.item = found (items_of lines) c.in-Some.item
    (omega (arith, items_few lines, told_length c.args.lines.now, c.requires.few))
    (subst (λ o. IsLongLoop (items_of lines) o) c.in-Some.is
    (subst (λ p. IsLongLoop p c.in_ok-item.field-0) (c.new-program.ensures ∙ c.in_ok-items_of.ensures.items) c.in_ok-item.ensures)) in
    f.within

pub returns-in-Some-clause-fault : goal.returns-in-Some-clause-fault
returns-in-Some-clause-fault c =
    let lines = all_told c.args.lines.now in
    let f : Found (items_of lines) c.in-Some.item = found (items_of lines) c.in-Some.item
    (omega (arith, items_few lines, told_length c.args.lines.now, c.requires.few))
    (subst (λ o. IsLongLoop (items_of lines) o) c.in-Some.is
    (subst (λ p. IsLongLoop p c.in_ok-item.field-0) (c.new-program.ensures ∙ c.in_ok-items_of.ensures.items) c.in_ok-item.ensures)) in
    subst (IsFaultOf lines) (sym c.fault.ensures)
    (long_line lines c.in-Some.item c.line_of_item.result (good_told c.args.lines.now c.requires.good) f c.line_of_item.ensures.line)

pub returns-in-None-clause-whole : goal.returns-in-None-clause-whole
returns-in-None-clause-whole c =
    subst IsWhole (sym (c.new-program.ensures ∙ c.in_ok-items_of.ensures.items))
    (items_whole (all_told c.args.lines.now)
    (good_told c.args.lines.now c.requires.good) c.in_ok-items_of.ensures.made c.requires.labelled)
