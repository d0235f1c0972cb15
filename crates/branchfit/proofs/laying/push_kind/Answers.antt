-- Each turn takes one note.
use Rattle.std.proofs.Common.{ap, sym, ◌∙◌, ◌++◌}
use Rattle.std.specs.Prelude.{map}
use Rattle.std.proofs.lemmas.List.{nil_from_length, append-nil}
use Rattle.branchfit.specs.Laid.{with_number, of_kind}
use Rattle.branchfit.proofs.StepLemmas.{kind_on}
use Rattle.branchfit.proofs.laying.push_kind.Goals as goal

pub loop-note-preserved : goal.loop-note-preserved
loop-note-preserved c =
    kind_on c.args.here c.args.wide c.args.number c.loop-note.notes.items c.push_one.new.notes.items c.loop-note.rest.now c.in-Some.note.now
    c.in-Some.behind.now _
    c.loop-note.invariant c.in-Some.ensures.cases.0 c.in_ok-push_one.ensures

pub returns : goal.returns
returns c =
    sym (append-nil c.loop-note.notes.items)
    ∙ ap (λ ns. c.loop-note.notes.items ++ map (with_number c.args.here c.args.wide) (of_kind c.args.number ns))
    (sym (nil_from_length c.loop-note.rest.now c.in_default.ensures.cases))
    ∙ c.loop-note.invariant
