use Rattle.std.proofs.Common.{List, ℕ, subst}
use Rattle.linkarena.specs.Lists.{IsLive}
use Rattle.midcode.specs.declared.op.Op.{Op}
use Rattle.midfold.proofs.UsesLemmas.{live-node}
use Rattle.midfold.proofs.unread.is_node.Goals as goal

pub returns : goal.returns
returns c = λ h.
    live-node c.args.f.now.nodes c.args.node
    (subst (λ (ls : List (List (ℕ × Op))). IsLive ls c.args.node) c.ops.ensures.value (c.is_live.ensures.live.0 h))
