use Rattle.std.proofs.Common.{◌≡◌, ◌++◌, take}
use Rattle.std.specs.List.{flat_map}
use Rattle.std.specs.Int.{w16, to_le_bytes}
use Rattle.prunum.proofs.little_endian.append_halves.Given as goal

-- the numbers so far stand behind what was there
abbrev pub invariant-loop-half : goal.invariant-loop-half
invariant-loop-half l = l.out.items ≡ l.fn.out.items ++ flat_map (to_le_bytes w16) (take l.half-index l.halves)
