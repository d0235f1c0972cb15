use Rattle.callcycle.proofs.Noted.{noted-at}
use Rattle.callcycle.proofs.cycle.note_all.Goals as goal

pub loop-call-preserved : goal.loop-call-preserved
loop-call-preserved c =
    noted-at c.args.functions.now c.args.caller c.args.calls.now c.loop-call.call-index _ _ _ _ c.loop-call-test.true
    c.loop-call.invariant c.in_ok-least.ensures
