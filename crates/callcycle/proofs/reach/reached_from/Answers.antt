use Rattle.std.proofs.Common.{List, ℕ, subst, arith, rules}
use Rattle.callcycle.specs.declared.call.Call.{Call}
use Rattle.callcycle.specs.Search.{AreTaken}
use Rattle.callcycle.proofs.Reached.{IsReaching, reaching-begun, reaching-next, reaching-last}
use Rattle.callcycle.proofs.reach.reached_from.Goals as goal

pub loop-function-init : goal.loop-function-init
loop-function-init c =
    reaching-begun c.args.functions.now c.args.from _ _ _ _
    (c.in_ok-reached.ensures.items_if_clones_equal (λ y is. search rules))
    c.new-waiting.ensures.items c.in_ok-take.ensures

pub loop-function-preserved : goal.loop-function-preserved
loop-function-preserved c =
    reaching-next c.args.functions.now c.args.from c.in-Some.function c.loop-function.reached.items _ c.pop.new.self.items _
    (subst (λ (w : List ℕ). IsReaching c.args.functions.now c.args.from c.loop-function.reached.items w) c.in-Some.ensures.items
    c.loop-function.invariant)
    (subst (λ (cs : List Call). AreTaken cs c.loop-function.reached.items c.take_callees.new.reached.items c.pop.new.self.items
    c.take_callees.new.waiting.items) c.calls_of.ensures c.in_ok-take_callees.ensures)

pub returns : goal.returns
returns c = reaching-last c.args.functions.now c.args.from _ c.loop-function.waiting.items c.loop-function.invariant
    (omega (arith, c.in_default.ensures.cases.0, c.loop-function.waiting.ok.0))
