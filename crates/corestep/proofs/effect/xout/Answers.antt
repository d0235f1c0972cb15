use Rattle.corestep.specs.Pieces.{bank_number}
use Rattle.corestep.proofs.PieceLemmas.{xout_turn}
use Rattle.corestep.proofs.effect.xout.Goals as goal

pub loop-k-preserved : goal.loop-k-preserved
loop-k-preserved c =
    xout_turn (bank_number c.args.t.now.bank) c.args.t.now.first c.loop-k.k c.args.registers.now c.args.events.now c.loop-k.events
    c.move_out.new.events
    c.loop-k.invariant.0 c.loop-k.invariant.1 c.move_out.ensures
