use Rattle.std.proofs.Common.{◌≡◌, ◌+◌, ◌≤◌, length}
use Rattle.twocore.specs.Memory.{put}
use Rattle.twocore.proofs.store.put_below.Given as goal

-- what is left to write
abbrev pub invariant-loop-byte : goal.invariant-loop-byte
invariant-loop-byte l =
    (record l.core { ram = put l.core.ram l.place l.rest } ≡ record l.initial.core { ram = put l.initial.core.ram l.at l.bytes })
    × (l.place + length l.rest ≤ 0x1E00)

abbrev pub decreases-loop-byte : goal.decreases-loop-byte
decreases-loop-byte l = length l.rest
