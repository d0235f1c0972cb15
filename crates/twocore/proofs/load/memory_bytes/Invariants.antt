use Rattle.std.proofs.Common.{◌≡◌, map}
use Rattle.std.specs.List.{range_with_len}
use Rattle.twocore.specs.World.{byte_behind}
use Rattle.twocore.specs.Word.{filled}
use Rattle.twocore.proofs.load.memory_bytes.Given as goal

-- so many bytes are read
abbrev pub invariant-loop-k : goal.invariant-loop-k
invariant-loop-k l =
    l.bytes ≡ filled 124 (map (byte_behind (record { own = l.own; other = l.other; world = l.world }) l.spot) (range_with_len 0 l.k))
