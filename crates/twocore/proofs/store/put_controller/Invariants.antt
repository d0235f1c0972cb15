use Rattle.std.proofs.Common.{◌≡◌, length}
use Rattle.corestep.specs.Pieces.{pieces}
use Rattle.twocore.specs.World.{controller_after}
use Rattle.twocore.proofs.store.put_controller.Given as goal

-- what is left to write
abbrev pub invariant-loop-rest : goal.invariant-loop-rest
invariant-loop-rest l = controller_after l.intc (pieces l.place l.rest) ≡ controller_after l.initial.intc (pieces l.at l.bytes)

abbrev pub decreases-loop-rest : goal.decreases-loop-rest
decreases-loop-rest l = length l.rest
