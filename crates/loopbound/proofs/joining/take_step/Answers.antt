-- Each way out of the step is a case of what it makes of the table.
use Rattle.std.proofs.Common.{◌-◌, List, Option, Some, ap, sym, subst, ◌∙◌}
use Rattle.std.proofs.lemmas.Bool.{both_ways}
use Rattle.loopbound.specs.declared.graph.Bounds.{Bounds}
use Rattle.loopbound.specs.declared.graph.Side.TheVariants.{Least, Most}
use Rattle.loopbound.specs.declared.graph.TimedLoop.{TimedLoop}
use Rattle.loopbound.specs.Table.{shapes, side_of, label_in}
use Rattle.loopbound.specs.Joining.{Takes, skipped, word, turn, joined, sum_behind}
use Rattle.loopbound.proofs.JoinLemmas.{same_shapes}
use Rattle.loopbound.proofs.joining.take_step.Goals as goal

pub returns-then-not-has_label-clause-taken : goal.returns-then-not-has_label-clause-taken
returns-then-not-has_label-clause-taken c =
    λ _ _. skipped (λ known. both_ways c.has_label.result c.if-not-has_label.true (c.has_label.ensures.1 known.0))

pub returns-then-not-can_go-clause-taken : goal.returns-then-not-can_go-clause-taken
returns-then-not-can_go-clause-taken c =
    λ _ _. skipped (λ known. both_ways c.can_go.result c.if-not-can_go.true (c.can_go.ensures.1 known.1))

pub returns-then-turns_none-clause-taken : goal.returns-then-turns_none-clause-taken
returns-then-turns_none-clause-taken c =
    λ _ within.
    word c.in-Some.sum c.put_label.new.labels
    (c.has_label.ensures.0 c.if-not-has_label.false, c.can_go.ensures.0 c.if-not-can_go.false)
    (c.turns_none.ensures.0 c.if-turns_none.true)
    c.in-Some.ensures.least c.in-Some.ensures.most
    (c.put_label.ensures.here within
    ∙ (ap (λ (b : Bounds). Some b) c.joined.ensures
    ∙ ap (λ (o : Option Bounds). Some (joined o c.in-Some.sum)) c.label_of-label.ensures))
    c.put_label.ensures.there

pub returns-else-turns_none-clause-shapes : goal.returns-else-turns_none-clause-shapes
returns-else-turns_none-clause-shapes c =
    ap shapes c.turn_all.ensures ∙ same_shapes c.args.step.now.from c.args.step.now.to c.above.result c.args.loops.now

pub returns-else-turns_none-clause-taken : goal.returns-else-turns_none-clause-taken
returns-else-turns_none-clause-taken c =
    λ _ within.
    subst (λ (ls : List TimedLoop). Takes c.args.step.now c.args.loops.now c.args.labels.now ls c.args.labels.now)
    (sym c.turn_all.ensures)
    (turn c.above.result
    (c.has_label.ensures.0 c.if-not-has_label.false, c.can_go.ensures.0 c.if-not-can_go.false)
    (λ none. both_ways c.turns_none.result c.if-turns_none.false (c.turns_none.ensures.1 none))
    (c.above.ensures.least
    ∙ (ap (λ n. n - side_of Least c.label_of-label.result) c.in-Some.ensures.least
    ∙ ap (λ (o : Option Bounds). sum_behind Least c.args.loops.now (label_in c.args.labels.now) c.args.step.now - side_of Least o)
    c.label_of-label.ensures))
    (c.above.ensures.most
    ∙ (ap (λ n. n - side_of Most c.label_of-label.result) c.in-Some.ensures.most
    ∙ ap (λ (o : Option Bounds). sum_behind Most c.args.loops.now (label_in c.args.labels.now) c.args.step.now - side_of Most o)
    c.label_of-label.ensures)))
