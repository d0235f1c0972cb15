use Rattle.std.proofs.Common.{List, sym, subst}
use Rattle.midcode.specs.declared.op.OpKind.{OpKind}
use Rattle.livespan.proofs.Walk.{Walk, walk-next}
use Rattle.livespan.proofs.operations.operations.Goals as goal

pub loop-at-preserved : goal.loop-at-preserved
loop-at-preserved c =
    let P : List OpKind → Type 0 = λ ks. Walk c.args.f.now.nodes ks c.next-at.result in
    subst P (sym c.in_ok-push.ensures.items)
    (walk-next c.args.f.now.nodes c.loop-at.kinds.items c.loop-at.at c.in-Some.node _ c.next-at.result c.loop-at.invariant c.in-Some.is
    c.get.ensures c.next-at.ensures.value c.next-at.ensures.node)
