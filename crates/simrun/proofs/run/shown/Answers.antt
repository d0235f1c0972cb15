use Rattle.std.proofs.Common.{ap, ◌∙◌}
use Rattle.twocore.specs.Machine.{cycles, outcome_of}
use Rattle.simrun.proofs.Whole.{whole}
use Rattle.simrun.proofs.run.shown.Goals as goal

pub returns : goal.returns
returns c =
    let start = c.in_ok-machine.machine.machine in
    let now = c.run.new.self.machine in
    let all = whole c.args.cycles start now c.run.ensures.machine c.in_ok-run.ensures.done in
    c.outcome.ensures ∙ ap outcome_of (all ∙ ap (cycles c.args.cycles) c.in_ok-machine.ensures)
