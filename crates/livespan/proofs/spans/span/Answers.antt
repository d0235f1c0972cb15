use Rattle.std.proofs.Common.{get_or, arith}
use Rattle.std.proofs.lemmas.Option.{slice_get-get_or}
use Rattle.livespan.specs.declared.area.Area.{Area}
use Rattle.livespan.proofs.Extended.{extended-none, extended-more, extended-all-in}
use Rattle.livespan.proofs.spans.span.Goals as goal

abbrev no_area : Area
no_area = record { first = 0; last = 0 }

pub loop-turn-init : goal.loop-turn-init
loop-turn-init c = extended-none c.args.f.now c.args.v c.args.hull c.args.flow.now.loops.now c.requires.hull

pub extended-requires-clause-turn : goal.extended-requires-clause-turn
extended-requires-clause-turn c =
    c.requires.loops.sound c.loop-turn.turn-index (get_or c.args.flow.now.loops.now c.loop-turn.turn-index no_area)
    (slice_get-get_or c.args.flow.now.loops.now c.loop-turn.turn-index no_area c.loop-turn-test.true)

pub extended-requires-clause-first : goal.extended-requires-clause-first
extended-requires-clause-first c = c.loop-turn.invariant.first

pub extended-requires-clause-last : goal.extended-requires-clause-last
extended-requires-clause-last c = c.loop-turn.invariant.last

pub loop-turn-preserved : goal.loop-turn-preserved
loop-turn-preserved c =
    extended-more c.args.f.now c.args.v c.args.hull c.args.flow.now.loops.now c.loop-turn.turn-index
    (get_or c.args.flow.now.loops.now c.loop-turn.turn-index no_area) c.loop-turn.area _
    (slice_get-get_or c.args.flow.now.loops.now c.loop-turn.turn-index no_area c.loop-turn-test.true) c.loop-turn.invariant
    c.in_ok-area.ensures

pub returns : goal.returns
returns c =
    extended-all-in c.args.f.now c.args.flow.now.kinds.now c.args.v c.args.hull c.args.flow.now.goals.now c.args.flow.now.loops.now
    c.loop-turn.turn-index c.loop-turn.area c.requires.kinds c.requires.goals c.requires.loops c.requires.hull
    (omega (arith, c.loop-turn-test.false, c.loop-turn.auto.turn-index-end)) c.loop-turn.invariant
