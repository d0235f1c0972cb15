use Rattle.std.proofs.Common.{◌≡◌, ◌+◌, ◌-◌}
use Rattle.corestep.specs.Pieces.{bank_number}
use Rattle.corestep.specs.Effect.{numbers_from}
use Rattle.twocore.specs.World.{pads_with}
use Rattle.twocore.proofs.store.xout.Given as goal

-- what is left to move
abbrev pub invariant-loop-k : goal.invariant-loop-k
invariant-loop-k l =
    pads_with l.pads (bank_number l.moved.bank) (l.moved.first + l.k)
    (numbers_from l.core.registers (l.moved.first + l.k) (l.moved.count - l.k))
    ≡ pads_with l.initial.pads (bank_number l.moved.bank) l.moved.first (numbers_from l.core.registers l.moved.first l.moved.count)
