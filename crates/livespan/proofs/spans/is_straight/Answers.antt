use Rattle.std.proofs.Common.{sym, ◌∙◌}
use Rattle.std.proofs.lemmas.Bool.{true≢false, OnTrue_from}
use Rattle.livespan.specs.Live.{IsStraight}
use Rattle.livespan.proofs.Straight.{straight-from}
use Rattle.livespan.proofs.spans.is_straight.Goals as goal

pub returns : goal.returns
returns c =
    OnTrue_from c.is_written.result (IsStraight c.args.kinds.now c.args.v c.args.hull)
    (λ written.
    straight-from c.args.kinds.now c.args.starts.now c.args.v c.args.hull c.kind_at-kind.result c.requires.starts c.requires.last
    c.if-starts-hull.false c.kind_at-kind.ensures
    (λ read. true≢false (sym (c.is_read.ensures.1 read) ∙ c.if-is_read.false)) (c.is_written.ensures.0 written))
