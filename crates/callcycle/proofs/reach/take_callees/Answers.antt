use Rattle.callcycle.proofs.Taken.{taken-at}
use Rattle.callcycle.proofs.reach.take_callees.Goals as goal

pub loop-call-preserved : goal.loop-call-preserved
loop-call-preserved c =
    taken-at c.args.calls.now c.loop-call.call-index _ _ _ _ _ _ _ c.loop-call-test.true c.loop-call.invariant c.in_ok-take.ensures
