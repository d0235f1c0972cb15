use Rattle.midopt.proofs.Relation.{function-same, function-more}
use Rattle.midopt.proofs.idle.remove_idle.Goals as goal

pub loop-marks-init : goal.loop-marks-init
loop-marks-init c = record { better = function-same c.args.f.now; folded = λ h. h }

pub returns-then-not-sweep-clause-better : goal.returns-then-not-sweep-clause-better
returns-then-not-sweep-clause-better c =
    function-more c.args.f.now c.loop-marks.f c.sweep.new.f c.loop-marks.invariant.better c.sweep.ensures.better

pub loop-marks-preserved : goal.loop-marks-preserved
loop-marks-preserved c = record {
  better = function-more c.args.f.now c.loop-marks.f c.sweep.new.f c.loop-marks.invariant.better c.sweep.ensures.better;
  folded = λ h. c.sweep.ensures.folded (c.loop-marks.invariant.folded h);
}
