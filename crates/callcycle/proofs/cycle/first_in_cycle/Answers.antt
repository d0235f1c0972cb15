use Rattle.std.proofs.Common.{List, subst, arith}
use Rattle.callcycle.specs.declared.call.Call.{Call}
use Rattle.callcycle.specs.Search.{IsNoted}
use Rattle.callcycle.proofs.Noted.{until-none, until-more, until-all}
use Rattle.callcycle.proofs.cycle.first_in_cycle.Goals as goal

pub loop-caller-init : goal.loop-caller-init
loop-caller-init c = until-none c.args.functions.now _ c.in_ok-least.ensures

pub loop-caller-preserved : goal.loop-caller-preserved
loop-caller-preserved c =
    until-more c.args.functions.now c.loop-caller.caller c.loop-caller.least _ c.loop-caller.invariant
    (subst (λ (cs : List Call). IsNoted c.args.functions.now c.loop-caller.caller cs c.loop-caller.least c.in_ok-least-2.least)
    c.calls_of-calls.ensures c.in_ok-least-2.ensures)

pub returns : goal.returns
returns c = until-all c.args.functions.now c.loop-caller.least c.loop-caller.caller (omega arith) c.loop-caller.invariant
