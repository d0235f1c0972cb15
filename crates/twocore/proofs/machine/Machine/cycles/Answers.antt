use Rattle.std.proofs.Common.{◌≡◌, ap, ◌∙◌, arith}
use Rattle.twocore.specs.Machine.{Machine}
use Rattle.twocore.proofs.CycleLemmas.{cycle_turn}
use Rattle.twocore.proofs.machine.Machine.cycles.Goals as goal

pub loop-left-preserved : goal.loop-left-preserved
loop-left-preserved c =
    let inv = c.loop-left.invariant in
    let one = ap (λ (m : Machine). m.done) c.cycle.ensures.machine in
    record {
      most = omega (arith, inv.most);
      machine = c.cycle.ensures.machine ∙ cycle_turn c.args.n c.loop-left.left c.args.self.now.machine c.loop-left.self.machine
          (omega arith) inv.most inv.machine;
      done = omega (arith, one, inv.done);
      room = omega (arith, inv.room, c.cycle.ensures.room);
    }
