use Rattle.std.proofs.Common.{arith}
use Rattle.std.specs.Prelude.{IsTrue, ◌↔◌}
use Rattle.std.proofs.lemmas.Bool.{OnTrue_at}
use Rattle.std.proofs.lemmas.Result.{IfOk-weaker}
use Rattle.subreg.specs.Span.{MayBeRead}
use Rattle.livespan.specs.Live.{TellsCrossing}
use Rattle.livespan.proofs.Goes.{loop-within}
use Rattle.livespan.proofs.Telling.{straight-tells, around-tells}
use Rattle.livespan.proofs.spans.is_wanted_around.Goals as goal

pub is_straight-requires-clause-forward : goal.is_straight-requires-clause-forward
is_straight-requires-clause-forward c = (c.requires.hull.all c.args.hull.first c.requires.hull.first).1

pub is_straight-requires-clause-last : goal.is_straight-requires-clause-last
is_straight-requires-clause-last c =
    omega (
      arith,
      c.requires.last,
      loop-within c.args.flow.now.kinds.now c.args.flow.now.goals.now c.args.turn c.requires.goals c.requires.turn,
    )

pub returns-then-is_straight : goal.returns-then-is_straight
returns-then-is_straight c =
    straight-tells c.args.f.now c.args.flow.now.kinds.now c.args.v c.args.hull c.args.turn c.requires.kinds c.requires.hull
    (OnTrue_at c.if-is_straight.true c.is_straight.ensures)
    (omega (
      arith,
      c.requires.last,
      loop-within c.args.flow.now.kinds.now c.args.flow.now.goals.now c.args.turn c.requires.goals c.requires.turn,
    ))
    c.requires.first c.requires.last

pub may_be_read-requires-clause-forward : goal.may_be_read-requires-clause-forward
may_be_read-requires-clause-forward c = c.requires.turn.back

pub may_be_read-requires-clause-last : goal.may_be_read-requires-clause-last
may_be_read-requires-clause-last c =
    loop-within c.args.flow.now.kinds.now c.args.flow.now.goals.now c.args.turn c.requires.goals c.requires.turn

pub returns : goal.returns
returns c =
    IfOk-weaker c.may_be_read.result
    (λ read. IsTrue read ↔ MayBeRead c.args.flow.now.kinds.now c.args.turn.first c.args.turn.last c.args.v c.args.turn.first)
    (TellsCrossing c.args.f.now c.args.v c.args.hull c.args.turn)
    (λ b p.
    around-tells c.args.f.now c.args.flow.now.kinds.now c.args.v c.args.hull c.args.turn c.args.flow.now.goals.now b c.requires.kinds
    c.requires.goals c.requires.turn c.requires.hull c.requires.first c.requires.last p) c.may_be_read.ensures
