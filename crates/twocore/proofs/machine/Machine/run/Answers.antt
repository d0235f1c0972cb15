use Rattle.std.proofs.Common.{◌≡◌, ◌≤◌, ap, ◌∙◌, arith}
use Rattle.twocore.specs.Machine.{Machine, cycles}
use Rattle.twocore.proofs.CycleLemmas.{cycles_done, stretch_turn}
use Rattle.twocore.proofs.machine.Machine.run.Goals as goal

pub loop-left-preserved : goal.loop-left-preserved
loop-left-preserved c =
    let inv = c.loop-left.invariant in
    let did = c.cycles.ensures.machine ∙ ap (λ (m : Machine). cycles c.min-stretch.result m) c.in_ok-reserve.ensures.machine in
    let more = ap (λ (m : Machine). m.done) did ∙ cycles_done c.min-stretch.result c.loop-left.self.machine in
    let most : c.min-stretch.result ≤ c.loop-left.left = omega (arith, c.min-stretch.ensures) in
    record {
      most = omega (arith, inv.most);
      machine = stretch_turn c.args.n c.loop-left.left c.min-stretch.result c.args.self.now.machine c.loop-left.self.machine
          c.cycles.new.self.machine most inv.most inv.machine did;
      done = omega (arith, more, inv.done);
    }
