use Rattle.std.proofs.Common.{length, ap, arith}
use Rattle.corestep.specs.declared.out.StepOut.{StepOut}
use Rattle.corerun.proofs.SizeLemmas.{step_few}
use Rattle.twocore.proofs.turn.end_word.Goals as goal

pub returns-clause-few : goal.returns-clause-few
returns-clause-few c =
    let few = step_few c.args.setup.now.image c.args.own.now.core c.fill_input.new.input in
    let out = ap (λ (o : StepOut). length o.events) c.step_of.ensures.out in
    omega (arith, few, out)
