use Rattle.std.proofs.Common.{arith, get_or}
use Rattle.std.proofs.lemmas.Option.{slice_get-get_or}
use Rattle.midopt.proofs.Relation.{all-more}
use Rattle.midfold.proofs.WholeLemmas.{tidying-first, tidying-next, tidying-done}
use Rattle.midfold.proofs.whole.tidy_functions.Goals as goal

pub loop-i-init : goal.loop-i-init
loop-i-init c = tidying-first c.args.functions.now

pub returns-in_err-tidy_function-clause-better : goal.returns-in_err-tidy_function-clause-better
returns-in_err-tidy_function-clause-better c =
    all-more c.args.functions.now c.loop-i.functions c.loop-i.i (get_or c.loop-i.functions c.loop-i.i c.index-functions-i.result)
    c.tidy_function.new.f c.loop-i.invariant.better
    (slice_get-get_or c.loop-i.functions c.loop-i.i c.index-functions-i.result
    (omega (arith, c.loop-i-test.true, c.loop-i.invariant.long)))
    c.tidy_function.ensures.better

pub loop-i-preserved : goal.loop-i-preserved
loop-i-preserved c =
    tidying-next c.args.functions.now c.loop-i.functions c.loop-i.i (get_or c.loop-i.functions c.loop-i.i c.index-functions-i.result)
    c.tidy_function.new.f c.loop-i.invariant
    (slice_get-get_or c.loop-i.functions c.loop-i.i c.index-functions-i.result
    (omega (arith, c.loop-i-test.true, c.loop-i.invariant.long)))
    c.tidy_function.ensures.better c.in_ok-tidy_function.ensures.done

pub returns-clause-done : goal.returns-clause-done
returns-clause-done c =
    tidying-done c.args.functions.now c.loop-i.functions c.loop-i.i c.loop-i.invariant
    (omega (arith, c.loop-i-test.false, c.loop-i.auto.i-end, c.loop-i.invariant.long))
