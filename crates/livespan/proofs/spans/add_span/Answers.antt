use Rattle.livespan.proofs.Valid.{span-forward, span-small}
use Rattle.livespan.proofs.spans.add_span.Goals as goal

pub span-requires-clause-hull : goal.span-requires-clause-hull
span-requires-clause-hull c = c.requires.hull c.in-Some.hull c.in-Some.is

pub interval-requires-clause-forward : goal.interval-requires-clause-forward
interval-requires-clause-forward c = span-forward c.args.f.now c.args.v c.in_ok-area-in-Some.area.first c.in_ok-area-in-Some.area.last
    c.in_ok-area-in-Some.ensures

pub interval-requires-clause-small : goal.interval-requires-clause-small
interval-requires-clause-small c =
    span-small c.args.f.now c.args.v c.in_ok-area-in-Some.area.first c.in_ok-area-in-Some.area.last c.requires.valid
    c.in_ok-area-in-Some.ensures
