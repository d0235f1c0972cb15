use Rattle.std.proofs.Common.{subst}
use Rattle.std.proofs.lemmas.Result.{err_from_is_err_and}
use Rattle.twocore.specs.declared.outcome.Outcome.{Outcome}
use Rattle.simrun.specs.Texts.{AreTexts}
use Rattle.simrun.proofs.Faults.{second_fails}
use Rattle.simrun.proofs.run.simulate.Goals as goal

pub returns-in_err-second-clause-fault : goal.returns-in_err-second-clause-fault
returns-in_err-second-clause-fault c =
    let p = err_from_is_err_and c.from_residual-in_err-second.result c.from_residual-in_err-second.ensures.1 in
    rw (p.1, p.2) (second_fails c.args.zero.now c.args.one.now c.args.script.now c.in_ok-first.first c.in_err-second.field-0.0
    c.in_ok-first.ensures.loaded c.in_err-second.ensures.fault)

pub returns-clause-leaves : goal.returns-clause-leaves
returns-clause-leaves c = record {
  image0 = c.in_ok-first.first;
  image1 = c.in_ok-second.second;
  script = c.in_ok-script.script;
  inputs = record {
    loaded0 = c.in_ok-first.ensures.loaded;
    loaded1 = c.in_ok-second.ensures.loaded;
    read = c.in_ok-script.ensures.read;
  };
  shown = subst (λ (outcome : Outcome). AreTexts outcome c.in_ok-texts_of.field-0) c.in_ok-outcome.ensures c.in_ok-texts_of.ensures;
}
