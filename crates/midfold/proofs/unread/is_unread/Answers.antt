use Rattle.midfold.proofs.UsesLemmas.{idle-here}
use Rattle.midfold.proofs.unread.is_unread.Goals as goal

pub returns : goal.returns
returns c = λ h.
    idle-here c.args.f.now.nodes c.args.counts.now c.args.node c.get.result.now c.register_of_value.result c.is_uncounted.result
    c.get.ensures c.register_of_value.ensures c.is_uncounted.ensures h
