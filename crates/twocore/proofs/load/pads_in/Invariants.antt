use Rattle.std.proofs.Common.{◌≡◌, map}
use Rattle.std.specs.List.{range_with_len}
use Rattle.corestep.specs.Pieces.{bank_number}
use Rattle.devices.specs.Ports.{pad_at}
use Rattle.twocore.specs.Word.{filled}
use Rattle.twocore.proofs.load.pads_in.Given as goal

-- so many registers are read
abbrev pub invariant-loop-k : goal.invariant-loop-k
invariant-loop-k l =
    l.values ≡ filled 4 (map (pad_at l.pads (bank_number l.moved.bank)) (range_with_len l.moved.first l.k))
