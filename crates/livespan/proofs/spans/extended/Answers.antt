use Rattle.livespan.proofs.Telling.{over-crossed}
use Rattle.livespan.proofs.spans.extended.Goals as goal

pub returns-then-is_crossed : goal.returns-then-is_crossed
returns-then-is_crossed c =
    over-crossed c.args.f.now c.args.v c.args.hull c.args.turn c.args.area c.with.result c.in_ok-is_crossed.is_crossed
    c.if-is_crossed.true c.in_ok-is_crossed.ensures c.with.ensures.first c.with.ensures.last
