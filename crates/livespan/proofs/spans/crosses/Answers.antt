use Rattle.std.proofs.Common.{sym, ◌∙◌}
use Rattle.std.proofs.lemmas.Bool.{true≢false}
use Rattle.livespan.proofs.Telling.{first-tells, last-tells}
use Rattle.livespan.proofs.spans.crosses.Goals as goal

pub returns-then-has : goal.returns-then-has
returns-then-has c =
    first-tells c.args.f.now c.args.flow.now.kinds.now c.args.v c.args.hull c.args.turn c.args.flow.now.goals.now c.requires.kinds
    c.requires.goals c.requires.turn c.requires.hull (c.has.ensures.0 c.if-has.true)
    (λ w. true≢false (sym (c.has-then-has.ensures.1 w) ∙ c.if-has-2.false))

pub returns : goal.returns
returns c =
    last-tells c.args.f.now c.args.flow.now.kinds.now c.args.v c.args.hull c.args.turn c.args.flow.now.goals.now c.has-2.result
    c.requires.kinds c.requires.goals c.requires.turn c.requires.hull
    (λ w. true≢false (sym (c.has.ensures.1 w) ∙ c.if-has.false)) c.has-2.ensures
