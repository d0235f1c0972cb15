use Rattle.std.proofs.Common.{arith}
use Rattle.corestep.specs.Pieces.{bank_number}
use Rattle.corestep.proofs.PieceLemmas.{xin_turn}
use Rattle.corestep.proofs.effect.xin.Goals as goal

pub loop-k-preserved : goal.loop-k-preserved
loop-k-preserved c =
    xin_turn (bank_number c.args.t.now.bank) c.args.t.now.first c.loop-k.k c.args.input.now.pads c.args.registers.now c.loop-k.registers
    c.move_in.new.registers
    c.args.events.now c.loop-k.events c.move_in.new.events (omega arith)
    (omega arith) c.loop-k.invariant.0 c.loop-k.invariant.1 c.loop-k.invariant.2
    c.move_in.ensures.registers c.move_in.ensures.shown
