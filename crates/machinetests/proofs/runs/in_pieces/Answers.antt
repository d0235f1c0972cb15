use Rattle.std.proofs.Common.{◌-◌, ap, ◌∙◌}
use Rattle.twocore.specs.Machine.{cycles, outcome_of}
use Rattle.machinetests.proofs.RunLemmas.{whole, two_pieces}
use Rattle.machinetests.proofs.runs.in_pieces.Goals as goal

pub returns : goal.returns
returns c =
    let start = c.in_ok-machine.machine.machine in
    let now = c.run.new.self.machine in
    let last = c.run-2.new.self.machine in
    let one = whole c.args.first start now c.run.ensures.machine c.in_ok-run.ensures.done in
    let two = whole (c.args.n - c.args.first) now last c.run-2.ensures.machine c.in_ok-run-2.ensures.done in
    let all = two_pieces c.args.first c.args.n start now last c.requires.pieces one two in
    c.outcome.ensures ∙ ap outcome_of (all ∙ ap (cycles c.args.n) c.in_ok-machine.ensures)
