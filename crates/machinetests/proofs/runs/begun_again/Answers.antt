use Rattle.std.proofs.Common.{ap, ◌∙◌}
use Rattle.twocore.specs.Machine.{cycles, outcome_of}
use Rattle.machinetests.proofs.RunLemmas.{whole, began_again}
use Rattle.machinetests.proofs.runs.begun_again.Goals as goal

pub returns : goal.returns
returns c =
    let start = c.in_ok-machine.machine.machine in
    let now = c.run.new.self.machine in
    let again = c.restart.new.self.machine in
    let last = c.run-2.new.self.machine in
    let one = whole c.args.first start now c.run.ensures.machine c.in_ok-run.ensures.done
    ∙ ap (cycles c.args.first) c.in_ok-machine.ensures in
    let back = began_again c.args.table c.args.zero c.args.one c.args.script c.args.first now again one c.restart.ensures.machine in
    let two = whole c.args.n again last c.run-2.ensures.machine c.in_ok-run-2.ensures.done in
    c.outcome.ensures ∙ ap outcome_of (two ∙ ap (cycles c.args.n) back)
